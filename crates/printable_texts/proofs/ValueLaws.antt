-- Literal texts of values that stand in a text.
use Rattle.std.proofs.Common.{◌≡◌, ℕ, Bool, true, false, List, [], ◌∷◌, ◌++◌, Some, None, refl, sym, ap, ◌∙◌, subst, eqb-true}
use Rattle.std.specs.Prelude.{◌==◌, ◌||◌, ◌&&◌, not, is_some}
use Rattle.std.specs.declared.option.Option.{Option}
use Rattle.std.specs.List.{list_all, list_any}
use Rattle.std.proofs.lemmas.Bool.{false≢true}
use Rattle.cs_token.specs.declared.characters.Class.TheVariants as class
use Rattle.cs_token.specs.Characters.{is_in}
use Rattle.razor_token.specs.declared.context.Holds.TheVariants as h
use Rattle.razor_token.specs.declared.piece.Piece.{Piece}
use Rattle.razor_token.specs.declared.piece.PieceKind.{PieceKind}
use Rattle.razor_token.specs.declared.piece.PieceKind.TheVariants as k
use Rattle.razor_token.specs.declared.piece.Quote.{Quote}
use Rattle.razor_token.specs.declared.piece.Quote.TheVariants as q
use Rattle.razor_token.specs.declared.runs.RunKind.TheVariants as r
use Rattle.razor_token.specs.ValueFronts.{quoted_run}
use Rattle.razor_ast.specs.declared.attribute.ValuePart.{ValuePart}
use Rattle.razor_ast.specs.declared.attribute.ValuePart.TheVariants as vp
use Rattle.razor_ast.specs.Attributes.{Parts}
use Rattle.razor_ast.specs.Attributes as spelled
use Rattle.razor_ast.specs.Literals.{literal_of, with_literal, literal_run}
use Rattle.razor_ast.specs.Pieces.{IsKind}
use Rattle.razor_print.specs.Quotes.{holds, is_double, mixed_quote}
use Rattle.printed_pieces.specs.Places.{is_said}
use Rattle.printed_pieces.specs.Printable.{AreParts, no_part, literal, shown}
use Rattle.printable_texts.specs.Stands.{value, tag, Stands, IsWithin, within, is_within}
use Rattle.printable_texts.proofs.CodeLaws.{shown_written}
use Rattle.printable_texts.proofs.TokenLaws.{step}

pub all_both : (f : ℕ → Bool) (x y : List ℕ) → list_all f x ≡ true → list_all f y ≡ true → list_all f (x ++ y) ≡ true
all_both f [] y d e = e
all_both f (c ∷ x) y d e = go (f c) d (λ k. all_both f x y k e)
  where
    go : (b : Bool) → (b && list_all f x) ≡ true → (list_all f x ≡ true → list_all f (x ++ y) ≡ true) → (b && list_all f (x ++ y)) ≡ true
    go true d e = e d
    go false d e = absurd (cc)

-- weaker tests
pub all_weaker : (f g : ℕ → Bool) (x : List ℕ) → ((c : ℕ) → f c ≡ true → g c ≡ true) → list_all f x ≡ true → list_all g x ≡ true
all_weaker f g [] w e = refl
all_weaker f g (c ∷ x) w e = go (f c) refl e (λ k. all_weaker f g x w k)
  where
    go : (b : Bool) → f c ≡ b → (b && list_all f x) ≡ true → (list_all f x ≡ true → list_all g x ≡ true) → (g c && list_all g x) ≡ true
    go true is d more = rw (w c is, more d) refl
    go false is d more = absurd (cc)

-- the quotes that a value is printed in as it was: without quotes, double ones
abbrev pub quote_of : Option Quote → Quote
quote_of (Some quote) = quote
quote_of None = q.Double

-- not of a value without quotes
bare_part : (a b c d e f g i : Bool) → not (a || b || c || d || e || f || g || i) ≡ true → (d || not (d || b)) ≡ true
bare_part a true c d e f g i is = by a is
  where
    by : (a : Bool) → not (a || true || c || d || e || f || g || i) ≡ true → (d || not (d || true)) ≡ true
    by true is = absurd (cc)
    by false is = absurd (cc)
bare_part a false c true e f g i is = refl
bare_part a false c false e f g i is = refl

pub within_said : (quote : Option Quote) (c : ℕ) → is_within quote c ≡ true → is_said (quoted_run (quote_of quote)) c ≡ true
within_said (Some quote) c e = e
within_said None c e = bare_part (is_in class.White c) (c == 34) (c == 39) (c == 64) (c == 61) (c == 60) (c == 62) (c == 96) e

pub run_of : (p : Piece) (ps : List Piece) (kind : PieceKind) → IsKind kind p → literal_run (p ∷ ps) ≡ with_literal (literal_of kind) p ps (literal_run ps)
run_of p ps kind is = ap (λ z. with_literal (literal_of z) p ps (literal_run ps)) is

-- literal pieces at the front, from a place where each says something good
pub run_is : (At : List Piece → Type 0) (All : List ℕ → Type 0) → All [] → ((x text : List ℕ) (p : Piece) (ps : List Piece) → IsKind (k.Literal x) p → At (p ∷ ps) → At ps × (All text → All (x ++ text)))
    → (ps : List Piece) → At ps → All (literal_run ps).0 × At (literal_run ps).1
run_is At All nothing one [] here = (nothing, here)
run_is At All nothing one (p ∷ ps) here = go p.kind refl (λ there. run_is At All nothing one ps there)
  where
    go : (kind : PieceKind) → p.kind ≡ kind → (At ps → All (literal_run ps).0 × At (literal_run ps).1) → All (literal_run (p ∷ ps)).0 × At (literal_run (p ∷ ps)).1
    go (k.Literal x) is more =
        let first = one x (literal_run ps).0 p ps is here in
        let behind_it = more first.0 in
        subst (λ (z : List ℕ × List Piece). All z.0 × At z.1) (sym (run_of p ps (k.Literal x) is)) (first.1 behind_it.0, behind_it.1)
    go kind is more = subst (λ (z : List ℕ × List Piece). All z.0 × At z.1) (sym (run_of p ps kind is)) (nothing, here)

-- a literal piece stands first
abbrev pub begins_literal : List Piece → Bool
begins_literal [] = false
begins_literal (p ∷ ps) = is_some (literal_of p.kind)

pub run_ends : (ps : List Piece) → begins_literal (literal_run ps).1 ≡ false
run_ends [] = refl
run_ends (p ∷ ps) = go p.kind refl (run_ends ps)
  where
    go : (kind : PieceKind) → p.kind ≡ kind → begins_literal (literal_run ps).1 ≡ false → begins_literal (literal_run (p ∷ ps)).1 ≡ false
    go (k.Literal x) is more = subst (λ (z : List ℕ × List Piece). begins_literal z.1 ≡ false) (sym (run_of p ps (k.Literal x) is)) more
    go kind is more = subst (λ (z : List ℕ × List Piece). begins_literal z.1 ≡ false) (sym (run_of p ps kind is)) (ap (λ z. is_some (literal_of z)) is)

-- a value of literal text and expressions
abbrev pub Mixed : (component void : Bool) (quote : Option Quote) → List Piece → Type 0
Mixed component void quote ps = Stands (value component void h.Mixed quote) ps

is_all : (quote : Option Quote) (x : List ℕ) → IsWithin quote x → list_all (is_within quote) x ≡ true
is_all quote _ (within c text e) = e

mixed_step : (component void : Bool) (quote : Option Quote) (x text : List ℕ) (p : Piece) (ps : List Piece) → IsKind (k.Literal x) p → Mixed component void quote (p ∷ ps)
    → Mixed component void quote ps × (list_all (is_within quote) text ≡ true → list_all (is_within quote) (x ++ text) ≡ true)
mixed_step component void quote x text p ps is here =
    let first = step (value component void h.Mixed quote) (k.Literal x) p ps is here in
    (first.2, λ e. all_both (is_within quote) x text (is_all quote x first.1) e)

-- such a piece isn't empty
some_text : (quote : Option Quote) (x rest text : List ℕ) → IsWithin quote x → x ++ rest ≡ text → list_all (is_within quote) text ≡ true
    → (ps : List ValuePart) → AreParts (quote_of quote) true ps → AreParts (quote_of quote) false (vp.Literal text ∷ ps)
some_text quote _ rest text (within c more _) e all ps h =
    subst (λ z. AreParts (quote_of quote) false (vp.Literal z ∷ ps)) e
    (literal c (more ++ rest) ps (all_weaker (is_within quote) (is_said (quoted_run (quote_of quote))) (c ∷ (more ++ rest)) (within_said quote) (subst (λ z. list_all (is_within quote) z ≡ true) (sym e) all)) h)

pub parts_are : (component void : Bool) (quote : Option Quote) (b : Bool) (ps rest : List Piece) (parts : List ValuePart) → Parts ps rest parts → Mixed component void quote ps
    → (b ≡ true → begins_literal ps ≡ false) → AreParts (quote_of quote) b parts × Stands (tag component void) rest
parts_are component void quote b _ rest _ (spelled.no_part end _ is) here apart = (no_part b, (step (value component void h.Mixed quote) k.ValueEnd end rest is here).2)
parts_are component void quote true _ rest _ (spelled.literal x text p ps us _ parts is run more) here apart = absurd (false≢true (sym (apart refl) ∙ ap (λ z. is_some (literal_of z)) is))
parts_are component void quote false _ rest _ (spelled.literal x text p ps us _ parts is run more) here apart =
    let said = run_is (Mixed component void quote) (λ z. list_all (is_within quote) z ≡ true) refl (mixed_step component void quote) (p ∷ ps) here in
    let first = step (value component void h.Mixed quote) (k.Literal x) p ps is here in
    let whole = run_of p ps (k.Literal x) is in
    let later = parts_are component void quote true us rest parts more (subst (Mixed component void quote) (ap (λ z. z.1) run) said.1) (λ e. ap (λ z. begins_literal z.1) (sym run) ∙ run_ends (p ∷ ps)) in
    (some_text quote x (literal_run ps).0 text first.1 (ap (λ z. z.0) (sym whole ∙ run)) (subst (λ z. list_all (is_within quote) z ≡ true) (ap (λ z. z.0) run) said.0) parts later.0, later.1)
parts_are component void quote b ps rest _ (spelled.shown _ us _ a parts first more) here apart =
    let one = shown_written (value component void h.Mixed quote) ps us a first here in
    let later = parts_are component void quote false us rest parts more one.1 (λ e. absurd (false≢true e)) in
    (shown b a parts one.0 later.0, later.1)

-- in double quotes there is none in the text
no_double : (c : ℕ) → is_said r.DoubleQuoted c ≡ true → (c == 34) ≡ false
no_double c e = go (c == 34) refl
  where
    go : (b : Bool) → (c == 34) ≡ b → (c == 34) ≡ false
    go false is = is
    go true is = let at : c ≡ 34 = eqb-true c 34 is in absurd (false≢true (subst (λ z. is_said r.DoubleQuoted z ≡ true) at e))

none_double : (x : List ℕ) → list_all (is_said r.DoubleQuoted) x ≡ true → holds q.Double x ≡ false
none_double [] e = refl
none_double (c ∷ x) e = go (is_said r.DoubleQuoted c) refl e (none_double x)
  where
    go : (b : Bool) → is_said r.DoubleQuoted c ≡ b → (b && list_all (is_said r.DoubleQuoted) x) ≡ true → (list_all (is_said r.DoubleQuoted) x ≡ true → holds q.Double x ≡ false) → holds q.Double (c ∷ x) ≡ false
    go true is d more = rw (no_double c is, more d) refl
    go false is d more = absurd (cc)

doubles : (b : Bool) (ps : List ValuePart) → AreParts q.Double b ps → list_any is_double ps ≡ false
doubles b _ (no_part _) = refl
doubles b _ (literal c text ps e h) = rw (none_double (c ∷ text) e) (doubles true ps h)
doubles b _ (shown _ a ps is h) = doubles false ps h

as_double : (x : List ℕ) → holds q.Double x ≡ false → list_all (is_said r.DoubleQuoted) x ≡ true
as_double [] e = refl
as_double (c ∷ x) e = go (c == 34) refl e (as_double x)
  where
    both : (a b : Bool) → b ≡ false → (a || not (a || b)) ≡ true
    both true b e = refl
    both false true e = absurd (cc)
    both false false e = refl

    go : (b : Bool) → (c == 34) ≡ b → (b || holds q.Double x) ≡ false → (holds q.Double x ≡ false → list_all (is_said r.DoubleQuoted) x ≡ true) → list_all (is_said r.DoubleQuoted) (c ∷ x) ≡ true
    go true is d more = absurd (cc)
    go false is d more = rw (both (c == 64) (c == 34) is, more d) refl

pub either : (a b : Bool) → (a || b) ≡ false → (a ≡ false) × (b ≡ false)
either true b e = absurd (cc)
either false b e = (refl, e)

swapped : (b : Bool) (ps : List ValuePart) → AreParts q.Single b ps → list_any is_double ps ≡ false → AreParts q.Double b ps
swapped b _ (no_part _) e = no_part b
swapped b _ (literal c text ps is h) e = let two = either (holds q.Double (c ∷ text)) (list_any is_double ps) e in literal c text ps (as_double (c ∷ text) two.0) (swapped true ps h two.1)
swapped b _ (shown _ a ps is h) e = shown b a ps is (swapped false ps h e)

pub mixed_parts : (quote : Quote) (ps : List ValuePart) → AreParts quote false ps → AreParts (mixed_quote ps) false ps
mixed_parts quote ps h = go quote (list_any is_double ps) refl h
  where
    go : (quote : Quote) (b : Bool) → list_any is_double ps ≡ b → AreParts quote false ps → AreParts (mixed_quote ps) false ps
    go q.Double true e h = absurd (false≢true (sym (doubles false ps h) ∙ e))
    go q.Single true e h = rw e h
    go q.Double false e h = rw e h
    go q.Single false e h = rw e (swapped false ps h e)
