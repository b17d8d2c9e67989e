-- What stands at the front of code in a context.
use Rattle.std.proofs.Common.{◌≡◌, ℕ, ◌-◌, Bool, true, false, List, [], ◌∷◌, ◌++◌, length, take, Some, None, refl, sym, ap, ◌∙◌, arith, length-append, ne_eqb}
use Rattle.std.specs.declared.option.Option.{Option}
use Rattle.std.specs.Prelude.{◌==◌, ◌&&◌, not, is_none, codes}
use Rattle.std.proofs.lemmas.Bool.{false≢true, and_parts}
use Rattle.std.proofs.Math.Seq.{drop-append_seam}
use Rattle.cs_token.specs.declared.around.Around.{Around}
use Rattle.cs_token.specs.declared.characters.Class.{Class}
use Rattle.cs_token.specs.declared.characters.Class.TheVariants as class
use Rattle.cs_token.specs.declared.token.Sign.{Sign}
use Rattle.cs_token.specs.declared.token.Sign.TheVariants as s
use Rattle.cs_token.specs.declared.token.TokenKind.{TokenKind}
use Rattle.cs_token.specs.declared.token.TokenKind.TheVariants as t
use Rattle.cs_token.specs.Characters.{is_in, IsRun, begins_with}
use Rattle.cs_token.specs.Lexemes.{Stands, IsGap}
use Rattle.cs_token.specs.Lexemes as g
use Rattle.cs_token.specs.Signs.{mark}
use Rattle.cs_token.specs.Words.{spelling}
use Rattle.cs_token.specs.Reading.Runs.{strip}
use Rattle.cs_token.proofs.ExactLemmas.{front-again}
use Rattle.cs_token.proofs.WordLemmas.{name_spelling}
use Rattle.razor_token.specs.declared.context.Change.{Change}
use Rattle.razor_token.specs.declared.context.Context.{Context}
use Rattle.razor_token.specs.declared.context.Context.TheVariants as x
use Rattle.razor_token.specs.declared.context.Point.{Point}
use Rattle.razor_token.specs.declared.context.Point.TheVariants as point
use Rattle.razor_token.specs.Contexts.{stays, with_sign}
use Rattle.razor_token.specs.Pieces.{piece}
use Rattle.razor_token.specs.Runs.{begins}
use Rattle.razor_token.specs.CodeFronts.{front_of, code_front, keeps_quote, where_it, sign_of, code_kind, bracket_change, bracket_piece, bracket_at}
use Rattle.razor_token.specs.BlockFronts.{head_change_of, head_piece, head_at, block_change_of, statement_piece, statement_at, is_beginning, block_at}
use Rattle.razor_token.specs.Cutting.{found_in}

-- what C# finds there
pub code-found : (around : Option Around) (kind : Option TokenKind) (text rest : List ℕ) → Stands around kind text rest
    → code_front around (text ++ rest) ≡ Some (record { token = kind; count = length text })
unfolding code_front
code-found around kind text rest h =
    let long = length-append text rest in
    let count : length (text ++ rest) - length rest ≡ length text = omega (arith, long) in
    ap (front_of (text ++ rest)) (front-again around kind text rest h) ∙ rw count refl

-- in brackets
bracket-found : (around : Option Around) (kind : Option TokenKind) (text rest : List ℕ) → Stands around kind text rest
    → bracket_at None false around (text ++ rest) ≡ piece (code_kind kind) (length text) (with_sign (sign_of kind) (bracket_change None false around (sign_of kind)))
unfolding bracket_at
bracket-found around kind text rest h =
    ap (λ o. bracket_piece None false around (text ++ rest) (where_it (λ front. keeps_quote None (take front.count (text ++ rest))) o)) (code-found around kind text rest h)

-- before the brace of a block
head-found : (with_else : Bool) (around : Option Around) (kind : Option TokenKind) (text rest : List ℕ) → Stands around kind text rest
    → head_at with_else around (text ++ rest) ≡ piece (code_kind kind) (length text) (with_sign (sign_of kind) (head_change_of with_else around kind))
unfolding head_at
head-found with_else around kind text rest h = ap (head_piece with_else around) (code-found around kind text rest h)

-- a token that may begin as markup does
abbrev pub is_markup : TokenKind → Bool
is_markup (t.Sign s.Less) = true
is_markup (t.Sign s.LessOrEqual) = true
is_markup (t.Part x) = true
is_markup _ = false

-- it begins neither with an at sign nor with `<`
data Plain : List ℕ → Type 0 where
  begins_plain : (c : ℕ) (text : List ℕ) → (c == 64) ≡ false → (c == 60) ≡ false → Plain (c ∷ text)

of-class : (k : Class) (c d : ℕ) → is_in k c ≡ true → is_in k d ≡ false → (c == d) ≡ false
of-class k c d is other = ne_eqb c d (λ e. false≢true (sym other ∙ ap (is_in k) (sym e) ∙ is))

plain-class : (k : Class) (text rest : List ℕ) → is_in k 64 ≡ false → is_in k 60 ≡ false → begins_with k text ≡ true → Plain (text ++ rest)
plain-class k [] rest a b is = absurd (false≢true is)
plain-class k (c ∷ text) rest a b is = begins_plain c (text ++ rest) (of-class k c 64 is a) (of-class k c 60 is b)

plain-sign : (sign : Sign) (rest : List ℕ) → is_markup (t.Sign sign) ≡ false → Plain (mark sign ++ rest)
unfolding mark
plain-sign s.Less rest e = absurd (false≢true (sym e))
plain-sign s.LessOrEqual rest e = absurd (false≢true (sym e))
plain-sign s.OpenRound rest e = begins_plain _ _ refl refl
plain-sign _ rest e = begins_plain _ _ refl refl

plain-gap : (around : Option Around) (text rest : List ℕ) → IsGap around text rest → Plain (text ++ rest)
plain-gap around _ _ (g.white c rest is keeps) = plain-class class.White (c ∷ []) rest refl refl is
plain-gap around _ _ (g.line body rest all ends) = begins_plain _ _ refl refl
plain-gap around _ _ (g.block body rest keeps none) = begins_plain _ _ refl refl

digits-begin : (digits : List ℕ) → IsRun class.Digit digits → begins_with class.Digit digits ≡ true
digits-begin [] run = absurd (omega (arith, run.some))
digits-begin (d ∷ digits) run = (and_parts _ _ run.all).0

abbrev pub is_plain : Option TokenKind → Bool
is_plain None = true
is_plain (Some kind) = not (is_markup kind)

not_true : (b : Bool) → not b ≡ true → b ≡ false
not_true true e = absurd (false≢true e)
not_true false e = refl

plain-front : (around : Option Around) (kind : Option TokenKind) (text rest : List ℕ) → is_plain kind ≡ true → Stands around kind text rest → Plain (text ++ rest)
plain-front _ _ _ _ free (g.gap around text rest code is) = plain-gap around text rest is
plain-front _ _ _ _ free (g.name around text rest code is stops no_word) = plain-class class.Letter text rest refl refl is.begins
plain-front _ _ _ _ free (g.word around w rest code stops) = plain-class class.Letter (spelling w) rest refl refl (name_spelling w).begins
plain-front _ _ _ _ free (g.number around n digits rest code run stops is) = plain-class class.Digit digits rest refl refl (digits-begin digits run)
plain-front _ _ _ _ free (g.text around body said rest code is) = begins_plain _ _ refl refl
plain-front _ _ _ _ free (g.sign around sign rest code longest hole) = plain-sign sign rest (not_true (is_markup (t.Sign sign)) free)
plain-front _ _ _ _ free (g.hole_close rest) = plain-sign s.HoleClose rest refl
plain-front _ _ _ _ free (g.part body said rest some is stops) = absurd (false≢true free)
plain-front _ _ _ _ free (g.hole_open rest single) = plain-sign s.HoleOpen rest refl
plain-front _ _ _ _ free (g.interpolation_end rest) = plain-sign s.InterpolationEnd rest refl

no-at : (text : List ℕ) → Plain text → begins (codes "@") text ≡ false
unfolding strip
no-at _ (begins_plain c text at tag) = rw at refl

no-tag : (text : List ℕ) → Plain text → begins (codes "<") text ≡ false
unfolding strip
no-tag _ (begins_plain c text at tag) = rw tag refl

statement-found : (at : Point) (with_else : Bool) (around : Option Around) (kind : Option TokenKind) (text rest : List ℕ) → Stands around kind text rest
    → statement_at at with_else around (text ++ rest) ≡ piece (code_kind kind) (length text) (with_sign (sign_of kind) (block_change_of at with_else around kind rest))
unfolding statement_at
statement-found at with_else around kind text rest h =
    ap (statement_piece at with_else around (text ++ rest)) (code-found around kind text rest h)
    ∙ ap (λ z. piece (code_kind kind) (length text) (with_sign (sign_of kind) (block_change_of at with_else around kind z))) (drop-append_seam text rest)

-- in a block
pub block-found : (at : Point) (with_else : Bool) (around : Option Around) (kind : Option TokenKind) (text rest : List ℕ) → (is_beginning at ≡ true → is_plain kind ≡ true) → Stands around kind text rest
    → block_at false at with_else around (text ++ rest) ≡ piece (code_kind kind) (length text) (with_sign (sign_of kind) (block_change_of at with_else around kind rest))
unfolding block_at
block-found point.Begins with_else around kind text rest free h =
    let plain = plain-front around kind text rest (free refl) h in
    rw (no-at (text ++ rest) plain, no-tag (text ++ rest) plain) (statement-found point.Begins with_else around kind text rest h)
block-found point.Within with_else around kind text rest free h = statement-found point.Within with_else around kind text rest h
block-found point.BehindWith with_else around kind text rest free h = statement-found point.BehindWith with_else around kind text rest h

-- contexts of code
pub data IsCodePlace : Context → Type 0 where
  bracket : IsCodePlace (x.Bracket None false)
  head : (with_else : Bool) → IsCodePlace (x.Head with_else)
  block : (at : Point) (with_else : Bool) → IsCodePlace (x.Block at with_else)

-- what a token of code changes there
abbrev pub code_change : Context → Option Around → Option TokenKind → Change
code_change (x.Bracket quote raw) around kind = bracket_change quote raw around (sign_of kind)
code_change (x.Head with_else) around kind = head_change_of with_else around kind
code_change (x.Block at with_else) around kind = block_change_of at with_else around kind []
code_change _ around kind = stays

abbrev pub is_close : TokenKind → Bool
is_close (t.Sign s.CloseBrace) = true
is_close _ = false

-- where a statement begins it is no markup, and it doesn't close the block of an `if`
abbrev pub fits : Context → Option Around → TokenKind → Bool
fits (x.Block at with_else) around kind = not (is_beginning at && is_markup kind) && not (with_else && is_close kind && is_none around)
fits _ around kind = true

abbrev pub fits_any : Context → Option Around → Option TokenKind → Bool
fits_any c around None = true
fits_any c around (Some kind) = fits c around kind

never : (b c : Bool) → not (b && c) ≡ true → b ≡ true → c ≡ false
never true c e is = not_true c e
never false c e is = absurd (false≢true is)

free-here : (at : Point) (with_else : Bool) (around : Option Around) (kind : Option TokenKind) → fits_any (x.Block at with_else) around kind ≡ true → is_beginning at ≡ true → is_plain kind ≡ true
free-here at with_else around None e begins = refl
free-here at with_else around (Some kind) e begins = ap not (never (is_beginning at) (is_markup kind) (and_parts _ _ e).0 begins)

same-token : (at : Point) (with_else : Bool) (around : Option Around) (kind : TokenKind) (behind : List ℕ) → (with_else && is_close kind && is_none around) ≡ false
    → block_change_of at with_else around (Some kind) behind ≡ block_change_of at with_else around (Some kind) []
same-token at with_else (Some a) kind behind e = refl
same-token at true None (t.Sign s.CloseBrace) behind e = absurd (false≢true (sym e))
same-token at false None (t.Sign s.CloseBrace) behind e = refl
same-token at with_else None (t.Sign sign) behind e = refl
same-token at with_else None kind behind e = refl

same-change : (at : Point) (with_else : Bool) (around : Option Around) (kind : Option TokenKind) (behind : List ℕ) → fits_any (x.Block at with_else) around kind ≡ true
    → block_change_of at with_else around kind behind ≡ block_change_of at with_else around kind []
same-change at with_else None None behind e = refl
same-change at with_else (Some a) None behind e = refl
same-change at with_else around (Some kind) behind e = same-token at with_else around kind behind (not_true _ (and_parts _ _ e).1)

-- a token, white space or a comment in a context of code
pub context-found : (c : Context) (around : Option Around) (kind : Option TokenKind) (last : Option ℕ) (text rest : List ℕ) → IsCodePlace c → fits_any c around kind ≡ true → Stands around kind text rest
    → found_in (Some c) false around last (text ++ rest) ≡ piece (code_kind kind) (length text) (with_sign (sign_of kind) (code_change c around kind))
context-found _ around kind last text rest bracket fit h = bracket-found around kind text rest h
context-found _ around kind last text rest (head with_else) fit h = head-found with_else around kind text rest h
context-found _ around kind last text rest (block at with_else) fit h =
    block-found at with_else around kind text rest (free-here at with_else around kind fit) h
    ∙ ap (λ z. piece (code_kind kind) (length text) (with_sign (sign_of kind) z)) (same-change at with_else around kind rest fit)

-- white space and comments change nothing
pub gap-stays : (c : Context) (around : Option Around) → IsCodePlace c → code_change c around None ≡ stays
gap-stays _ None bracket = refl
gap-stays _ (Some a) bracket = refl
gap-stays _ None (head with_else) = refl
gap-stays _ (Some a) (head with_else) = refl
gap-stays _ None (block at with_else) = refl
gap-stays _ (Some a) (block at with_else) = refl
