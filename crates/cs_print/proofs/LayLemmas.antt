-- The text of such tokens is cut into them again.
use Rattle.std.proofs.Common.{◌≡◌, ◌≢◌, ℕ, ◌<◌, ◌≤◌, pos, List, [], ◌∷◌, ◌++◌, length, true, false, Some, None, refl, sym, ap, ◌∙◌, subst, append_assoc, arith}
use Rattle.std.specs.Prelude.{Bool, not, eqb, ◌||◌, codes}
use Rattle.std.specs.declared.option.Option.{Option}
use Rattle.std.specs.List.{flat_map}
use Rattle.std.specs.Fmt.{decimal}
use Rattle.std.proofs.lemmas.Bool.{false≢true, or_parts}
use Rattle.std.proofs.lemmas.List.{append-nil}
use Rattle.text_core.specs.declared.place.Place.{Place}
use Rattle.cs_token.specs.declared.around.Around.{Around}
use Rattle.cs_token.specs.declared.around.Around.TheVariants as around
use Rattle.cs_token.specs.declared.around.Opened.{Opened}
use Rattle.cs_token.specs.declared.token.Token.{Token}
use Rattle.cs_token.specs.declared.token.TokenKind.{TokenKind}
use Rattle.cs_token.specs.declared.token.TokenKind.TheVariants as k
use Rattle.cs_token.specs.declared.token.Sign.{Sign}
use Rattle.cs_token.specs.declared.token.Sign.TheVariants as s
use Rattle.cs_token.specs.Lexemes.{is_code, keeps_line, Stands, IsGap, IsLongest}
use Rattle.cs_token.specs.Lexemes as g
use Rattle.cs_token.specs.Places.{place_after}
use Rattle.cs_token.specs.Signs.{mark, is_of_code}
use Rattle.cs_token.specs.Spelling.{innermost, with_open, closed, with_brace, behind_sign, behind_kind, Moment, Piece, Step, step, tokens_among, Spells}
use Rattle.cs_token.specs.Walks.{Walk}
use Rattle.cs_token.specs.Walks as walk
use Rattle.cs_token.specs.Written as written
use Rattle.cs_token.proofs.LexLemmas.{step-before}
use Rattle.cs_print.specs.Printed.{Kinds}
use Rattle.cs_print.specs.Layout.{quoted, in_part, token_text, gap_behind, code_text}
use Rattle.cs_print.proofs.CodeKinds.{is_single, IsSimple, is_part, begins_part, IsCode, AreParts}
use Rattle.cs_print.proofs.CodeKinds as c
use Rattle.cs_print.proofs.TextLaws.{text_none, text_join}
use Rattle.cs_print.proofs.QuoteLemmas.{digits-run, number-again, quoted-again, parts-again, no-unit-quote, no-unit-hole}

-- Lays m ks n: from a moment, tokens of these kinds stand one behind another up to the other moment.
pub data Lays : Moment → Kinds → Moment → Type 0 where
  stop : (m : Moment) → Lays m [] m
  token : (m n end : Moment) (kind : TokenKind) (text : List ℕ) (ks : Kinds) → Step m (Some kind, text) n → Lays n ks end → Lays m (kind ∷ ks) end
  gap : (m n end : Moment) (text : List ℕ) (ks : Kinds) → Step m (None, text) n → Lays n ks end → Lays m ks end

lays-join : (a b c : Moment) (ks ms : Kinds) → Lays a ks b → Lays b ms c → Lays a (ks ++ ms) c
lays-join _ _ c _ ms (stop m) more = more
lays-join _ _ c _ ms (token m n end kind text ks first rest) more = token m n c kind text (ks ++ ms) first (lays-join n end c ks ms rest more)
lays-join _ _ c _ ms (gap m n end text ks first rest) more = gap m n c text (ks ++ ms) first (lays-join n end c ks ms rest more)

-- tokens of these kinds, up to a rest
pub data Are : Kinds → List Token → List Token → Type 0 where
  nil : (rest : List Token) → Are [] rest rest
  cons : (kind : TokenKind) (t : Token) (ks : Kinds) (ts rest : List Token) → t.kind ≡ kind → Are ks ts rest → Are (kind ∷ ks) (t ∷ ts) rest

-- the pieces, and the tokens among them
record Cut (m : Moment) (ks : Kinds) (n : Moment) : Type 0 where
  pieces : List Piece
  laid : Walk Step m pieces n
  are : Are ks (tokens_among m.1 pieces) []

cut : (m n : Moment) (ks : Kinds) → Lays m ks n → Cut m ks n
cut m _ _ (stop _) = record { pieces = []; laid = walk.stay m; are = nil [] }
cut m end _ (token _ n _ kind text ks first rest) =
    let later = cut n end ks rest in
    record {
      pieces = (Some kind, text) ∷ later.pieces;
      laid = walk.go m n end (Some kind, text) later.pieces first later.laid;
      are = cons kind _ ks _ [] refl (subst (λ x. Are ks (tokens_among x later.pieces) []) (step-before m n (Some kind, text) first) later.are);
    }
cut m end ks (gap _ n _ text _ first rest) =
    let later = cut n end ks rest in
    record {
      pieces = (None, text) ∷ later.pieces;
      laid = walk.go m n end (None, text) later.pieces first later.laid;
      are = subst (λ x. Are ks (tokens_among x later.pieces) []) (step-before m n (None, text) first) later.are;
    }

-- Laid o before ks text rest q: behind the characters before, where o is open, the text before this rest stands for tokens of these kinds, and
-- leaves q open.
abbrev Laid : List Opened → List ℕ → Kinds → List ℕ → List ℕ → List Opened → Type 0
Laid o before ks text rest q = Lays (o, before, text ++ rest) ks (q, before ++ text, rest)

laid-join : (o p q : List Opened) (before : List ℕ) (ks ms : Kinds) (xs ys rest : List ℕ) → Laid o before ks xs (ys ++ rest) p → Laid p (before ++ xs) ms ys rest q → Laid o before (ks ++ ms) (xs ++ ys) rest q
laid-join o p q before ks ms xs ys rest first second =
    subst (λ x. Lays (o, before, x) (ks ++ ms) (q, before ++ (xs ++ ys), rest)) (sym (append_assoc xs ys rest))
    (subst (λ x. Lays (o, before, xs ++ (ys ++ rest)) (ks ++ ms) (q, x, rest)) (append_assoc before xs ys)
    (lays-join _ _ _ ks ms first second))

laid-nothing : (o : List Opened) (before rest : List ℕ) → Laid o before [] [] rest o
laid-nothing o before rest = subst (λ x. Lays (o, before, rest) [] (o, x, rest)) (sym (append-nil before)) (stop (o, before, rest))

-- one token, and what is open behind it
laid-token : (o : List Opened) (before : List ℕ) (kind : TokenKind) (text rest : List ℕ) → Stands (innermost o) (Some kind) text rest → Laid o before (kind ∷ []) text rest (behind_kind (Some kind) (place_after before) o)
laid-token o before kind text rest stands = token _ _ _ kind text [] (step o before (Some kind) text rest stands) (stop _)

keeps-blank : (a : Option Around) → keeps_line a (32 ∷ []) ≡ true
keeps-blank None = refl
keeps-blank (Some a) = refl

-- a blank
laid-blank : (o : List Opened) (before rest : List ℕ) → is_code (innermost o) ≡ true → Laid o before [] (32 ∷ []) rest o
laid-blank o before rest code =
    gap _ _ _ (32 ∷ []) [] (step o before None (32 ∷ []) rest (g.gap (innermost o) (32 ∷ []) rest code (g.white 32 rest refl (keeps-blank (innermost o))))) (stop _)

-- signs

single-of-code : (sign : Sign) → is_single sign ≡ true → is_of_code sign ≡ true
unfolding is_of_code
single-of-code s.OpenBrace e = refl
single-of-code s.CloseBrace e = refl
single-of-code s.InterpolationStart e = refl
single-of-code s.InterpolationEnd e = absurd (cc)
single-of-code s.HoleOpen e = absurd (cc)
single-of-code s.HoleClose e = absurd (cc)
single-of-code _ e = refl

single-keeps : (sign : Sign) (place : Place) (o : List Opened) → is_single sign ≡ true → behind_sign sign place o ≡ o
unfolding behind_sign
single-keeps s.OpenBrace place o e = absurd (cc)
single-keeps s.CloseBrace place o e = absurd (cc)
single-keeps s.InterpolationStart place o e = absurd (cc)
single-keeps s.InterpolationEnd place o e = absurd (cc)
single-keeps s.HoleOpen place o e = absurd (cc)
single-keeps s.HoleClose place o e = absurd (cc)
single-keeps _ place o e = refl

not_brace : (sign : Sign) → is_single sign ≡ true → sign ≢ s.CloseBrace
not_brace sign e is = false≢true (subst (λ x. is_single x ≡ true) is e)

has_blank : List ℕ → Bool
has_blank [] = false
has_blank (d ∷ text) = eqb d 32 || has_blank text

no_blank : (sign : Sign) → has_blank (mark sign) ≡ false
unfolding mark has_blank
no_blank s.OpenRound = refl
no_blank _ = refl

two_at_most : (sign : Sign) → length (mark sign) ≤ 2
unfolding mark
two_at_most s.OpenRound = omega arith
two_at_most _ = omega arith

blank_first : (d : ℕ) (y : List ℕ) → has_blank (d ∷ y) ≡ false → 32 ≢ d
unfolding has_blank
blank_first d y free e = false≢true (sym (subst (λ x. (eqb x 32 || has_blank y) ≡ false) (sym e) free))

blank_later : (d : ℕ) (y : List ℕ) → has_blank (d ∷ y) ≡ false → has_blank y ≡ false
unfolding has_blank
blank_later d y free = (or_parts (eqb d 32) (has_blank y) free).1

-- what has no blank ends before one
ends-before : (x y rest more : List ℕ) → has_blank y ≡ false → x ++ 32 ∷ rest ≡ y ++ more → length y ≤ length x
ends-before x [] rest more free e = omega arith
ends-before [] (d ∷ y) rest more free e = absurd (blank_first d y free (cc))
ends-before (x ∷ xs) (d ∷ y) rest more free e =
    let tails : xs ++ 32 ∷ rest ≡ y ++ more = cc in
    let shorter = ends-before xs y rest more (blank_later d y free) tails in
    omega (arith, shorter)

head_of : List ℕ → ℕ
head_of [] = 0
head_of (d ∷ text) = d

second_of : List ℕ → ℕ
second_of [] = 0
second_of (d ∷ text) = head_of text

-- no sign goes on as a comment begins
no-slash : (sign : Sign) (rest : List ℕ) → eqb (second_of (mark sign ++ 32 ∷ rest)) 47 ≡ false
unfolding mark head_of second_of
no-slash s.OpenRound rest = refl
no-slash _ rest = refl

no-star : (sign : Sign) (rest : List ℕ) → eqb (second_of (mark sign ++ 32 ∷ rest)) 42 ≡ false
unfolding mark head_of second_of
no-star s.OpenRound rest = refl
no-star _ rest = refl

no-line : (sign : Sign) (rest after : List ℕ) → mark sign ++ 32 ∷ rest ≡ codes "//" ++ after → ⊥
unfolding head_of second_of
no-line sign rest after e = false≢true (sym (no-slash sign rest) ∙ ap (λ x. eqb (second_of x) 47) e)

no-block : (sign : Sign) (rest after : List ℕ) → mark sign ++ 32 ∷ rest ≡ codes "/*" ++ after → ⊥
unfolding head_of second_of
no-block sign rest after e = false≢true (sym (no-star sign rest) ∙ ap (λ x. eqb (second_of x) 42) e)

longest : (sign : Sign) (rest : List ℕ) → is_of_code sign ≡ true → IsLongest sign (32 ∷ rest)
longest sign rest code = record {
  of_code = code;
  longest = λ other more of_code same. ends-before (mark sign) (mark other) rest more (no_blank other) same;
  no_line = λ more same. no-line sign rest more same;
  no_block = λ more same. no-block sign rest more same;
}

start-longest : (rest : List ℕ) → IsLongest s.InterpolationStart rest
unfolding mark is_of_code head_of second_of
start-longest rest = record {
  of_code = refl;
  longest = λ other more of_code same. two_at_most other;
  no_line = λ more same. false≢true (ap (λ x. eqb (head_of x) 47) same);
  no_block = λ more same. false≢true (ap (λ x. eqb (head_of x) 47) same);
}

-- simple tokens

not_hole : (a : Option Around) (sign : Sign) → is_single sign ≡ true → a ≡ Some around.Hole → sign ≢ s.CloseBrace
not_hole a sign e hole = not_brace sign e

stands-simple : (a : Option Around) (kind : TokenKind) (rest : List ℕ) → is_code a ≡ true → IsSimple kind → Stands a (Some kind) (token_text kind) (32 ∷ rest)
unfolding token_text
stands-simple a _ rest code (c.name x is no_word) = g.name a x (32 ∷ rest) code is refl no_word
stands-simple a _ rest code (c.number n small) = g.number a (pos n) (decimal n) (32 ∷ rest) code (digits-run n (omega (arith, small))) refl (number-again n small)
stands-simple a _ rest code (c.text x) = g.text a (flat_map quoted x) x (32 ∷ rest) code (quoted-again _ (λ d e f h. rw (e, f, h) refl) x)
stands-simple a _ rest code (c.word w) = g.word a w (32 ∷ rest) code refl
stands-simple a _ rest code (c.sign sign is) = g.sign a sign (32 ∷ rest) code (longest sign rest (single-of-code sign is)) (not_hole a sign is)

sign-gap : (sign : Sign) → is_single sign ≡ true → gap_behind (k.Sign sign) ≡ 32 ∷ []
unfolding gap_behind
sign-gap s.InterpolationStart e = absurd (cc)
sign-gap s.HoleClose e = absurd (cc)
sign-gap _ e = refl

simple-gap : (kind : TokenKind) → IsSimple kind → gap_behind kind ≡ 32 ∷ []
unfolding gap_behind
simple-gap _ (c.name x is no_word) = refl
simple-gap _ (c.number n small) = refl
simple-gap _ (c.text x) = refl
simple-gap _ (c.word w) = refl
simple-gap _ (c.sign sign is) = sign-gap sign is

simple-keeps : (kind : TokenKind) (place : Place) (o : List Opened) → IsSimple kind → behind_kind (Some kind) place o ≡ o
simple-keeps _ place o (c.name x is no_word) = refl
simple-keeps _ place o (c.number n small) = refl
simple-keeps _ place o (c.text x) = refl
simple-keeps _ place o (c.word w) = refl
simple-keeps _ place o (c.sign sign is) = single-keeps sign place o is

-- a token and a blank
laid-spaced : (o : List Opened) (before : List ℕ) (kind : TokenKind) (text rest : List ℕ) → Stands (innermost o) (Some kind) text (32 ∷ rest)
    → is_code (innermost (behind_kind (Some kind) (place_after before) o)) ≡ true → Laid o before (kind ∷ []) (text ++ 32 ∷ []) rest (behind_kind (Some kind) (place_after before) o)
laid-spaced o before kind text rest stands code =
    laid-join o _ _ before (kind ∷ []) [] text (32 ∷ []) rest (laid-token o before kind text (32 ∷ rest) stands) (laid-blank _ (before ++ text) rest code)

-- a token and what stands behind it
laid-more : (o p q : List Opened) (before : List ℕ) (kind : TokenKind) (ks : Kinds) (rest : List ℕ) → Laid o before (kind ∷ []) (token_text kind ++ gap_behind kind) (code_text ks ++ rest) p
    → Laid p (before ++ (token_text kind ++ gap_behind kind)) ks (code_text ks) rest q → Laid o before (kind ∷ ks) (code_text (kind ∷ ks)) rest q
unfolding code_text
laid-more o p q before kind ks rest first later = laid-join o p q before (kind ∷ []) ks (token_text kind ++ gap_behind kind) (code_text ks) rest first later

-- tokens and what stands behind them
laid-behind : (o p q : List Opened) (before : List ℕ) (ks ms : Kinds) (rest : List ℕ) → Laid o before ks (code_text ks) (code_text ms ++ rest) p → Laid p (before ++ code_text ks) ms (code_text ms) rest q
    → Laid o before (ks ++ ms) (code_text (ks ++ ms)) rest q
laid-behind o p q before ks ms rest first later =
    subst (λ x. Laid o before (ks ++ ms) x rest q) (sym (text_join ks ms)) (laid-join o p q before ks ms (code_text ks) (code_text ms) rest first later)

-- simple tokens, with their blanks
laid-simple : (o : List Opened) (before : List ℕ) (kind : TokenKind) (rest : List ℕ) → is_code (innermost o) ≡ true → IsSimple kind → Laid o before (kind ∷ []) (token_text kind ++ gap_behind kind) rest o
laid-simple o before kind rest code is =
    let keeps = simple-keeps kind (place_after before) o is in
    subst (λ x. Laid o before (kind ∷ []) (token_text kind ++ x) rest o) (sym (simple-gap kind is))
    (subst (λ x. Laid o before (kind ∷ []) (token_text kind ++ 32 ∷ []) rest x) keeps
    (laid-spaced o before kind (token_text kind) rest (stands-simple (innermost o) kind rest code is) (subst (λ x. is_code (innermost x) ≡ true) (sym keeps) code)))

-- braces

around-braces : (o : List Opened) (place : Place) → is_code (innermost (with_brace place o)) ≡ true
around-braces [] place = refl
around-braces (opened ∷ o) place = refl

braces-no-hole : (o : List Opened) (place : Place) → innermost (with_brace place o) ≡ Some around.Hole → ⊥
braces-no-hole [] place e = cc
braces-no-hole (opened ∷ o) place e = cc

behind-braces : (o : List Opened) (place : Place) → closed (with_brace place o) ≡ o
behind-braces [] place = refl
behind-braces (opened ∷ o) place = refl

laid-open : (o : List Opened) (before rest : List ℕ) → is_code (innermost o) ≡ true
    → Laid o before (k.Sign s.OpenBrace ∷ []) (token_text (k.Sign s.OpenBrace) ++ gap_behind (k.Sign s.OpenBrace)) rest (with_brace (place_after before) o)
unfolding token_text gap_behind behind_sign is_of_code
laid-open o before rest code =
    laid-spaced o before (k.Sign s.OpenBrace) (mark s.OpenBrace) rest (g.sign (innermost o) s.OpenBrace (32 ∷ rest) code (longest s.OpenBrace rest refl) (λ hole e. cc)) (around-braces o (place_after before))

laid-close : (o : List Opened) (place : Place) (before rest : List ℕ) → is_code (innermost o) ≡ true
    → Laid (with_brace place o) before (k.Sign s.CloseBrace ∷ []) (token_text (k.Sign s.CloseBrace) ++ gap_behind (k.Sign s.CloseBrace)) rest o
unfolding token_text gap_behind behind_sign is_of_code
laid-close o place before rest code =
    subst (λ x. Laid (with_brace place o) before (k.Sign s.CloseBrace ∷ []) (mark s.CloseBrace ++ 32 ∷ []) rest x) (behind-braces o place)
    (laid-spaced (with_brace place o) before (k.Sign s.CloseBrace) (mark s.CloseBrace) rest
    (g.sign (innermost (with_brace place o)) s.CloseBrace (32 ∷ rest) (around-braces o place) (longest s.CloseBrace rest refl) (λ hole. absurd (braces-no-hole o place hole)))
    (subst (λ x. is_code (innermost x) ≡ true) (sym (behind-braces o place)) code))

-- interpolated texts

-- a literal text ends before this: a quote, or a brace and a blank
data EndsPart : List ℕ → Type 0 where
  quote : (rest : List ℕ) → EndsPart (34 ∷ rest)
  brace : (rest : List ℕ) → EndsPart (123 ∷ 32 ∷ rest)

part-plain : (d : ℕ) → (eqb d 123 || eqb d 125) ≡ false → eqb d 34 ≡ false → eqb d 92 ≡ false → eqb d 10 ≡ false
    → not (eqb d 34 || eqb d 92 || eqb d 10 || eqb d 123 || eqb d 125) ≡ true
part-plain d b e f h = let both = or_parts (eqb d 123) (eqb d 125) b in rw (e, f, h, both.0, both.1) refl

stands-part : (x rest : List ℕ) → 0 < length x → EndsPart rest → Stands (Some around.Interpolation) (Some (k.Part x)) (flat_map in_part x) rest
stands-part x _ some (quote rest) = g.part (flat_map in_part x) x (34 ∷ rest) some (parts-again _ (λ d is. written.doubled d is) (λ d b e f h. part-plain d b e f h) x) (no-unit-quote _ rest refl)
stands-part x _ some (brace rest) = g.part (flat_map in_part x) x (123 ∷ 32 ∷ rest) some (parts-again _ (λ d is. written.doubled d is) (λ d b e f h. part-plain d b e f h) x) (no-unit-hole _ rest refl)

-- no literal text stands before what is written behind one
part-ends : (ks : Kinds) (rest : List ℕ) → AreParts ks → begins_part ks ≡ false → EndsPart (code_text ks ++ (34 ∷ rest))
unfolding code_text token_text gap_behind mark
part-ends _ rest c.no_part none = quote rest
part-ends _ rest (c.literal x ks some apart parts) none = absurd (cc)
part-ends _ rest (c.hole ks ms code parts) none = brace _

laid-start : (o : List Opened) (before rest : List ℕ) → is_code (innermost o) ≡ true
    → Laid o before (k.Sign s.InterpolationStart ∷ []) (token_text (k.Sign s.InterpolationStart) ++ gap_behind (k.Sign s.InterpolationStart)) rest (with_open around.Interpolation (place_after before) o)
unfolding token_text gap_behind behind_sign mark
laid-start o before rest code =
    laid-token o before (k.Sign s.InterpolationStart) (36 ∷ 34 ∷ []) rest (g.sign (innermost o) s.InterpolationStart rest code (start-longest rest) (λ hole e. cc))

laid-end : (o : List Opened) (place : Place) (before rest : List ℕ) → is_code (innermost o) ≡ true
    → Laid (with_open around.Interpolation place o) before (k.Sign s.InterpolationEnd ∷ []) (token_text (k.Sign s.InterpolationEnd) ++ gap_behind (k.Sign s.InterpolationEnd)) rest o
unfolding token_text gap_behind behind_sign
laid-end o place before rest code =
    laid-spaced (with_open around.Interpolation place o) before (k.Sign s.InterpolationEnd) (mark s.InterpolationEnd) rest (g.interpolation_end (32 ∷ rest)) code

laid-literal : (o : List Opened) (place : Place) (before x rest : List ℕ) → 0 < length x → EndsPart rest
    → Laid (with_open around.Interpolation place o) before (k.Part x ∷ []) (token_text (k.Part x) ++ gap_behind (k.Part x)) rest (with_open around.Interpolation place o)
unfolding token_text gap_behind
laid-literal o place before x rest some stops =
    subst (λ text. Laid (with_open around.Interpolation place o) before (k.Part x ∷ []) text rest (with_open around.Interpolation place o)) (sym (append-nil (flat_map in_part x)))
    (laid-token (with_open around.Interpolation place o) before (k.Part x) (flat_map in_part x) rest (stands-part x rest some stops))

blank-no-brace : (rest more : List ℕ) → 32 ∷ rest ≢ codes "{" ++ more
blank-no-brace rest more e = cc

laid-hole : (o : List Opened) (before rest : List ℕ) → innermost o ≡ Some around.Interpolation
    → Laid o before (k.Sign s.HoleOpen ∷ []) (token_text (k.Sign s.HoleOpen) ++ gap_behind (k.Sign s.HoleOpen)) rest (with_open around.Hole (place_after before) o)
unfolding token_text gap_behind behind_sign
laid-hole o before rest is =
    laid-spaced o before (k.Sign s.HoleOpen) (mark s.HoleOpen) rest (subst (λ a. Stands a (Some (k.Sign s.HoleOpen)) (mark s.HoleOpen) (32 ∷ rest)) (sym is) (g.hole_open (32 ∷ rest) (blank-no-brace rest))) refl

laid-hole-end : (o : List Opened) (place : Place) (before rest : List ℕ)
    → Laid (with_open around.Hole place o) before (k.Sign s.HoleClose ∷ []) (token_text (k.Sign s.HoleClose) ++ gap_behind (k.Sign s.HoleClose)) rest o
unfolding token_text gap_behind behind_sign
laid-hole-end o place before rest =
    subst (λ text. Laid (with_open around.Hole place o) before (k.Sign s.HoleClose ∷ []) text rest o) (sym (append-nil (mark s.HoleClose)))
    (laid-token (with_open around.Hole place o) before (k.Sign s.HoleClose) (mark s.HoleClose) rest (g.hole_close rest))

end-text : (ms : Kinds) (rest : List ℕ) → code_text (k.Sign s.InterpolationEnd ∷ ms) ++ rest ≡ 34 ∷ (32 ∷ (code_text ms ++ rest))
unfolding code_text token_text gap_behind mark
end-text ms rest = refl

mutual
  -- code is cut into its tokens
  pub code-laid : (ks : Kinds) (o : List Opened) (before rest : List ℕ) → IsCode ks → is_code (innermost o) ≡ true → Laid o before ks (code_text ks) rest o
  code-laid _ o before rest c.none code = subst (λ x. Laid o before [] x rest o) (sym text_none) (laid-nothing o before rest)
  code-laid _ o before rest (c.simple kind ks is more) code =
      laid-more o o o before kind ks rest (laid-simple o before kind (code_text ks ++ rest) code is) (code-laid ks o _ rest more code)
  code-laid _ o before rest (c.braces ks ms inner more) code =
      let opened = with_brace (place_after before) o in
      laid-more o opened o before (k.Sign s.OpenBrace) (ks ++ k.Sign s.CloseBrace ∷ ms) rest (laid-open o before _ code)
      (laid-behind opened opened o _ ks (k.Sign s.CloseBrace ∷ ms) rest (code-laid ks opened _ _ inner (around-braces o (place_after before)))
      (laid-more opened o o _ (k.Sign s.CloseBrace) ms rest (laid-close o (place_after before) _ _ code) (code-laid ms o _ rest more code)))
  code-laid _ o before rest (c.interpolated ks ms parts more) code =
      let opened = with_open around.Interpolation (place_after before) o in
      let inner = before ++ (token_text (k.Sign s.InterpolationStart) ++ gap_behind (k.Sign s.InterpolationStart)) in
      laid-more o opened o before (k.Sign s.InterpolationStart) (ks ++ k.Sign s.InterpolationEnd ∷ ms) rest (laid-start o before _ code)
      (laid-behind opened opened o _ ks (k.Sign s.InterpolationEnd ∷ ms) rest (subst (λ x. Laid opened inner ks (code_text ks) x opened) (sym (end-text ms rest)) (parts-laid ks o (place_after before) inner _ parts))
      (laid-more opened o o _ (k.Sign s.InterpolationEnd) ms rest (laid-end o (place_after before) _ _ code) (code-laid ms o _ rest more code)))

  parts-laid : (ks : Kinds) (o : List Opened) (place : Place) (before rest : List ℕ) → AreParts ks
      → Laid (with_open around.Interpolation place o) before ks (code_text ks) (34 ∷ rest) (with_open around.Interpolation place o)
  parts-laid _ o place before rest c.no_part = subst (λ x. Laid (with_open around.Interpolation place o) before [] x (34 ∷ rest) (with_open around.Interpolation place o)) (sym text_none) (laid-nothing _ before (34 ∷ rest))
  parts-laid _ o place before rest (c.literal x ks some apart parts) =
      laid-more _ _ _ before (k.Part x) ks (34 ∷ rest) (laid-literal o place before x (code_text ks ++ (34 ∷ rest)) some (part-ends ks rest parts apart)) (parts-laid ks o place _ rest parts)
  parts-laid _ o place before rest (c.hole ks ms code parts) =
      let outer = with_open around.Interpolation place o in
      let opened = with_open around.Hole (place_after before) outer in
      laid-more outer opened outer before (k.Sign s.HoleOpen) (ks ++ k.Sign s.HoleClose ∷ ms) (34 ∷ rest) (laid-hole outer before _ refl)
      (laid-behind opened opened outer _ ks (k.Sign s.HoleClose ∷ ms) (34 ∷ rest) (code-laid ks opened _ _ code refl)
      (laid-more opened outer outer _ (k.Sign s.HoleClose) ms (34 ∷ rest) (laid-hole-end outer (place_after before) _ _) (parts-laid ms o place _ rest parts)))

-- the text of code spells tokens of these kinds
pub record Spelled (ks : Kinds) : Type 0 where
  pub tokens : List Token
  pub spelled : Spells (code_text ks) tokens
  pub are : Are ks tokens []

pub code-spelled : (ks : Kinds) → IsCode ks → Spelled ks
code-spelled ks code =
    let found = cut _ _ ks (subst (λ x. Lays ([], [], x) ks ([], code_text ks, [])) (append-nil (code_text ks)) (code-laid ks [] [] [] code refl)) in
    record {
      tokens = tokens_among [] found.pieces;
      spelled = record { pieces = found.pieces; laid = found.laid; are = refl };
      are = found.are;
    }
