-- What stands at the front of a text stands there too where more text follows.
use Rattle.std.proofs.Common.{◌≡◌, ◌≢◌, ℕ, ◌≤◌, ◌<◌, Bool, true, false, List, [], ◌∷◌, ◌++◌, length, drop, Some, refl, sym, ap, ◌∙◌, subst, append_assoc, arith, length-append}
use Rattle.std.specs.declared.option.Option.{Option}
use Rattle.std.specs.Prelude.{◌==◌, ◌||◌, not, nat_le, codes}
use Rattle.std.proofs.lemmas.Bool.{false≢true, leb-true}
use Rattle.cs_token.specs.declared.around.Around.{Around}
use Rattle.cs_token.specs.declared.characters.Class.{Class}
use Rattle.cs_token.specs.declared.characters.Class.TheVariants as class
use Rattle.cs_token.specs.declared.token.Sign.{Sign}
use Rattle.cs_token.specs.declared.token.Sign.TheVariants as s
use Rattle.cs_token.specs.declared.token.TokenKind.{TokenKind}
use Rattle.cs_token.specs.declared.token.TokenKind.TheVariants as t
use Rattle.cs_token.specs.Characters.{begins_with}
use Rattle.cs_token.specs.Lexemes.{is_code, Stands, IsGap, IsLongest}
use Rattle.cs_token.specs.Lexemes as g
use Rattle.cs_token.specs.Signs.{mark, is_of_code}
use Rattle.cs_token.specs.Written.{IsWritten, NoUnit, is_plain}
use Rattle.cs_token.specs.Written as w
use Rattle.cs_token.proofs.FrontLengths.{stands-some}
use Rattle.cs_print.proofs.QuoteLemmas.{no-unit-quote}
use Rattle.razor_token.specs.CodeFronts.{closes}

-- a bracket that closes, or some text behind a sign
pub data Decided (sign : Sign) (rest : List ℕ) : Type 0 where
  closing : closes sign ≡ true → Decided sign rest
  some : 0 < length rest → Decided sign rest

-- a text that no part of an interpolated text goes on with: it begins with a double quote, or with a single brace
pub data EndsPart : List ℕ → Type 0 where
  quote : (rest : List ℕ) → EndsPart (34 ∷ rest)
  brace : (rest : List ℕ) → ((left : List ℕ) → rest ≢ codes "{" ++ left) → EndsPart (123 ∷ rest)

-- more text behind the rest doesn't change what stands before it
abbrev pub Settled : Option TokenKind → List ℕ → List ℕ → Type 0
Settled (Some (t.Part said)) rest more = EndsPart (rest ++ more)
Settled (Some (t.Sign sign)) rest more = Decided sign rest
Settled _ rest more = 0 < length rest

stops-still : (k : Class) (rest more : List ℕ) → 0 < length rest → begins_with k rest ≡ false → begins_with k (rest ++ more) ≡ false
stops-still k [] more behind stops = absurd (omega (arith, behind))
stops-still k (c ∷ rest) more behind stops = stops

gap-still : (around : Option Around) (text rest more : List ℕ) → IsGap around text rest → 0 < length rest → IsGap around text (rest ++ more)
gap-still around _ _ more (g.white c rest is keeps) behind = g.white c (rest ++ more) is keeps
gap-still around _ _ more (g.line body rest all ends) behind = g.line body (rest ++ more) all (stops-still class.Inline rest more behind ends)
gap-still around _ _ more (g.block body rest keeps none) behind = g.block body (rest ++ more) keeps none

-- signs

short : (sign : Sign) → nat_le (length (mark sign)) 2 ≡ true
unfolding mark
short s.OpenRound = refl
short _ = refl

-- of a text that begins with two characters a front of two at most sees these alone
seen : (front : List ℕ) (a b : ℕ) (here there more : List ℕ) → length front ≤ 2 → a ∷ b ∷ there ≡ front ++ more → (left : List ℕ) × (a ∷ b ∷ here ≡ front ++ left)
seen [] a b here there more few e = (a ∷ b ∷ here, refl)
seen (u ∷ []) a b here there more few e = let one : a ≡ u = cc in (b ∷ here, ap (λ z. z ∷ b ∷ here) one)
seen (u ∷ v ∷ []) a b here there more few e =
    let one : a ≡ u = cc in
    let two : b ≡ v = cc in
    (here, rw (one, two) refl)
seen (u ∷ v ∷ w ∷ front) a b here there more few e = absurd (omega (arith, few))

record TwoFirst (text : List ℕ) : Type 0 where
  a : ℕ
  b : ℕ
  behind : List ℕ
  is : text ≡ a ∷ b ∷ behind

two-first : (text : List ℕ) → 2 ≤ length text → TwoFirst text
two-first [] enough = absurd (omega (arith, enough))
two-first (a ∷ []) enough = absurd (omega (arith, enough))
two-first (a ∷ b ∷ behind) enough = record { a = a; b = b; behind = behind; is = refl }

longest-still : (sign : Sign) (rest more : List ℕ) → 0 < length (mark sign) → 0 < length rest → IsLongest sign rest → IsLongest sign (rest ++ more)
longest-still sign rest more some_mark some_rest is =
    let long = length-append (mark sign) rest in
    let two = two-first (mark sign ++ rest) (omega (arith, long, some_mark, some_rest)) in
    let whole : mark sign ++ (rest ++ more) ≡ two.a ∷ two.b ∷ (two.behind ++ more) = sym (append_assoc (mark sign) rest more) ∙ ap (λ z. z ++ more) two.is in
    record {
      of_code = is.of_code;
      longest = λ other left of_code e.
          let found = seen (mark other) two.a two.b two.behind (two.behind ++ more) left (leb-true _ _ (short other)) (sym whole ∙ e) in
          is.longest other found.0 of_code (two.is ∙ found.1);
      no_line = λ left e.
          let found = seen (codes "//") two.a two.b two.behind (two.behind ++ more) left (omega arith) (sym whole ∙ e) in
          is.no_line found.0 (two.is ∙ found.1);
      no_block = λ left e.
          let found = seen (codes "/*") two.a two.b two.behind (two.behind ++ more) left (omega arith) (sym whole ∙ e) in
          is.no_block found.0 (two.is ∙ found.1);
    }

-- no other sign begins with a bracket that closes

is_closing : ℕ → Bool
is_closing c = (c == 41) || (c == 93) || (c == 125)

begins_closing : List ℕ → Bool
begins_closing [] = false
begins_closing (c ∷ text) = is_closing c

single : (sign : Sign) → (not (begins_closing (mark sign)) || nat_le (length (mark sign)) 1) ≡ true
unfolding mark begins_closing is_closing
single s.OpenRound = refl
single _ = refl

one-alone : (front : List ℕ) (c : ℕ) (rest more : List ℕ) → (not (begins_closing front) || nat_le (length front) 1) ≡ true → is_closing c ≡ true → c ∷ rest ≡ front ++ more → length front ≤ 1
unfolding begins_closing
one-alone [] c rest more alone is e = omega arith
one-alone (d ∷ front) c rest more alone is e =
    let same : c ≡ d = cc in
    let closing_too : is_closing d ≡ true = subst (λ z. is_closing z ≡ true) same is in
    leb-true _ _ (rw closing_too at alone)

head_of : List ℕ → ℕ
head_of [] = 0
head_of (c ∷ text) = c

no-slash : (c : ℕ) (rest more : List ℕ) → is_closing c ≡ true → c ∷ rest ≡ 47 ∷ more → ⊥
unfolding is_closing head_of
no-slash c rest more is e = false≢true (subst (λ z. is_closing z ≡ true) (ap head_of e) is)

closing-alone : (sign : Sign) (c : ℕ) (rest : List ℕ) → mark sign ≡ c ∷ [] → is_closing c ≡ true → is_of_code sign ≡ true → IsLongest sign rest
closing-alone sign c rest is closes_it of_code = record {
  of_code = of_code;
  longest = λ other more other_of_code laid.
      subst (λ z. length (mark other) ≤ length z) (sym is) (one-alone (mark other) c rest more (single other) closes_it (sym (ap (λ z. z ++ rest) is) ∙ laid));
  no_line = λ more laid. no-slash c rest (47 ∷ more) closes_it (sym (ap (λ z. z ++ rest) is) ∙ laid);
  no_block = λ more laid. no-slash c rest (42 ∷ more) closes_it (sym (ap (λ z. z ++ rest) is) ∙ laid);
}

closing-longest : (sign : Sign) (rest : List ℕ) → closes sign ≡ true → IsLongest sign rest
unfolding closes mark is_of_code is_closing
closing-longest s.CloseRound rest e = closing-alone s.CloseRound 41 rest refl refl refl
closing-longest s.CloseSquare rest e = closing-alone s.CloseSquare 93 rest refl refl refl
closing-longest s.CloseBrace rest e = closing-alone s.CloseBrace 125 rest refl refl refl
closing-longest _ rest e = absurd (false≢true e)

sign-still : (sign : Sign) (rest more : List ℕ) → 0 < length (mark sign) → Decided sign rest → IsLongest sign rest → IsLongest sign (rest ++ more)
sign-still sign rest more some_mark (closing e) is = closing-longest sign (rest ++ more) e
sign-still sign rest more some_mark (some behind) is = longest-still sign rest more some_mark behind is

-- interpolated texts

single-still : (rest more : List ℕ) → Decided s.HoleOpen rest → ((left : List ℕ) → rest ≢ codes "{" ++ left) → (left : List ℕ) → rest ++ more ≢ codes "{" ++ left
unfolding closes
single-still rest more (closing e) alone left laid = absurd (false≢true e)
single-still [] more (some behind) alone left laid = absurd (omega (arith, behind))
single-still (c ∷ rest) more (some behind) alone left laid = let brace : c ≡ 123 = cc in alone rest (ap (λ z. z ∷ rest) brace)

no-brace : (c : ℕ) (rest more : List ℕ) → (c == 123) ≡ false → 123 ∷ rest ≡ c ∷ more → ⊥
unfolding head_of
no-brace c rest more other e = false≢true (sym (subst (λ z. (z == 123) ≡ false) (sym (ap head_of e)) other))

no-unit-brace : (form : _) (rest : List ℕ) → is_plain form 123 ≡ false → ((left : List ℕ) → rest ≢ codes "{" ++ left) → NoUnit form (123 ∷ rest)
unfolding head_of
no-unit-brace _ rest fails alone _ left _ (w.itself form c plain) e = false≢true (sym fails ∙ subst (λ z. is_plain form z ≡ true) (sym (ap head_of e)) plain)
no-unit-brace _ rest fails alone _ left _ (w.escape form d c is) e = no-brace 92 rest (d ∷ left) refl e
no-unit-brace _ rest fails alone _ left _ (w.number form a b c d n is) e = no-brace 92 rest (117 ∷ a ∷ b ∷ c ∷ d ∷ left) refl e
no-unit-brace _ rest fails alone _ left _ (w.doubled c is) e = alone left (ap (drop 1) e ∙ ap (λ z. z ∷ left) (sym (ap head_of e)))

ends-part : (form : _) (text : List ℕ) → is_plain form 34 ≡ false → is_plain form 123 ≡ false → EndsPart text → NoUnit form text
ends-part form _ no_quote no_brace (quote rest) = no-unit-quote form rest no_quote
ends-part form _ no_quote no_brace (brace rest alone) = no-unit-brace form rest no_brace alone

pub still : (around : Option Around) (kind : Option TokenKind) (front rest more : List ℕ) → Stands around kind front rest → Settled kind rest more → Stands around kind front (rest ++ more)
still _ _ _ _ more (g.gap around text rest code is) settled = g.gap around text (rest ++ more) code (gap-still around text rest more is settled)
still _ _ _ _ more (g.name around text rest code is stops other) settled = g.name around text (rest ++ more) code is (stops-still class.Word rest more settled stops) other
still _ _ _ _ more (g.word around word rest code stops) settled = g.word around word (rest ++ more) code (stops-still class.Word rest more settled stops)
still _ _ _ _ more (g.number around n digits rest code run stops is) settled = g.number around n digits (rest ++ more) code run (stops-still class.Digit rest more settled stops) is
still _ _ _ _ more (g.text around body said rest code is) settled = g.text around body said (rest ++ more) code is
still _ _ _ _ more (g.sign around sign rest code longest hole) settled =
    g.sign around sign (rest ++ more) code (sign-still sign rest more (stands-some around (Some (t.Sign sign)) (mark sign) rest (g.sign around sign rest code longest hole)) settled longest) hole
still _ _ _ _ more (g.hole_close rest) settled = g.hole_close (rest ++ more)
still _ _ _ _ more (g.part body said rest some_said is stops) settled = g.part body said (rest ++ more) some_said is (ends-part _ (rest ++ more) refl refl settled)
still _ _ _ _ more (g.hole_open rest alone) settled = g.hole_open (rest ++ more) (single-still rest more settled alone)
still _ _ _ _ more (g.interpolation_end rest) settled = g.interpolation_end (rest ++ more)

-- behind a part of an interpolated text

part-again : (form : _) (body text rest said : List ℕ) → IsWritten form body said → 0 < length said → rest ≡ body ++ text → NoUnit form rest → ⊥
part-again form _ text rest _ w.nothing some_said e none = absurd (omega (arith, some_said))
part-again form _ text rest _ (w.more unit body said c is written) some_said e none = none unit (body ++ text) c is (e ∙ append_assoc unit body text)

pub part-code : (around : Option Around) (said front rest : List ℕ) → Stands around (Some (t.Part said)) front rest → is_code around ≡ false
part-code _ _ _ _ (g.part body said rest some_said is stops) = refl

open-ends : (rest : List ℕ) → ((left : List ℕ) → rest ≢ codes "{" ++ left) → EndsPart (mark s.HoleOpen ++ rest)
unfolding mark
open-ends rest alone = brace rest alone

text-ends : (rest : List ℕ) → EndsPart (mark s.InterpolationEnd ++ rest)
unfolding mark
text-ends rest = quote rest

-- what stands there ends it, whatever more stands behind that
pub part-ends : (around : Option Around) (said body rest : List ℕ) (kind : Option TokenKind) (front text more : List ℕ) → is_code around ≡ false
    → Stands around (Some (t.Part said)) body rest → Stands around kind front more → rest ≡ front ++ text → EndsPart (front ++ more)
part-ends _ _ _ _ _ _ text _ here one (g.gap around front more code is) e = absurd (false≢true (sym here ∙ code))
part-ends _ _ _ _ _ _ text _ here one (g.name around front more code is stops other) e = absurd (false≢true (sym here ∙ code))
part-ends _ _ _ _ _ _ text _ here one (g.word around word more code stops) e = absurd (false≢true (sym here ∙ code))
part-ends _ _ _ _ _ _ text _ here one (g.number around n digits more code run stops is) e = absurd (false≢true (sym here ∙ code))
part-ends _ _ _ _ _ _ text _ here one (g.text around body said more code is) e = absurd (false≢true (sym here ∙ code))
part-ends _ _ _ _ _ _ text _ here one (g.sign around sign more code longest hole) e = absurd (false≢true (sym here ∙ code))
part-ends _ _ _ _ _ _ text _ here one (g.hole_close more) e = absurd (false≢true (sym here))
part-ends _ _ _ _ _ _ text _ here one (g.hole_open more alone) e = open-ends more alone
part-ends _ _ _ _ _ _ text _ here one (g.interpolation_end more) e = text-ends more
part-ends _ _ _ _ _ _ text _ here (g.part body said rest some_said is stops) (g.part front other more some_other is_other ends) e = absurd (part-again _ front text rest other is_other some_other e stops)
