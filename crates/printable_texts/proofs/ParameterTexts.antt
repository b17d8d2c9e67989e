-- The value of a parameter is the text of one, where it is literal text alone.
use Rattle.std.proofs.Common.{◌≡◌, ℕ, zero, suc, Bool, true, false, List, [], ◌∷◌, ◌++◌, length, drop, Some, None, refl, sym, ap, ◌∙◌, subst, eqb-true, arith}
use Rattle.std.specs.Prelude.{◌==◌, ◌||◌, not, codes, if◌then◌else◌}
use Rattle.std.specs.declared.option.Option.{Option}
use Rattle.std.proofs.lemmas.Bool.{false≢true}
use Rattle.cs_token.specs.declared.around.Opened.{Opened}
use Rattle.cs_token.specs.declared.characters.Class.TheVariants as class
use Rattle.cs_token.specs.Characters.{is_in}
use Rattle.cs_token.specs.Reading.Fronts.{front_at}
use Rattle.cs_token.specs.Reading.Runs.{strip}
use Rattle.cs_token.specs.Spelling.{innermost}
use Rattle.razor_token.specs.declared.piece.Quote.{Quote}
use Rattle.razor_token.specs.declared.piece.Quote.TheVariants as q
use Rattle.razor_token.specs.CodeFronts.{mark}
use Rattle.razor_token.specs.Runs.{is_of, begins, is_bare}
use Rattle.razor_token.specs.ValueFronts.{quoted_run}
use Rattle.razor_print.specs.Quotes.{holds}
use Rattle.razor_print.specs.ValueTexts.{inside, ends_from, stands_in}
use Rattle.razor_print.specs.ValueTexts as steps
use Rattle.printed_pieces.specs.Printable.{IsValueText}
use Rattle.printed_pieces.specs.Printable as printable
use Rattle.printable_texts.proofs.TextEnds.{not_begun, Ends}

-- a text without quotes of the other kind stands in those too
none_first : (quote : Quote) (c : ℕ) (text : List ℕ) → holds quote (c ∷ text) ≡ false → ((c == mark quote) ≡ false) × (holds quote text ≡ false)
none_first quote c text e = go (c == mark quote) refl e
  where
    go : (b : Bool) → (c == mark quote) ≡ b → (b || holds quote text) ≡ false → ((c == mark quote) ≡ false) × (holds quote text ≡ false)
    go true is e = absurd (cc)
    go false is e = (is, e)

none_behind : (quote : Quote) (n : ℕ) (text : List ℕ) → holds quote text ≡ false → holds quote (drop n text) ≡ false
none_behind quote zero text e = e
none_behind quote (suc n) [] e = refl
none_behind quote (suc n) (c ∷ text) e = none_behind quote n text (none_first quote c text e).1

abbrev Behind : Quote → ℕ → List ℕ → Option steps.Step → Bool
Behind quote n text found = elim found [ None ↦ false | Some step ↦ ends_from quote n step.depth step.opened (drop step.count text) ]

-- outside brackets, where the value doesn't end
abbrev going : List Opened → List ℕ → Option steps.Step
going opened text =
    if begins (codes "@(") text then Some (record { count = 2; depth = 1; opened = opened })
    else if begins (codes "@@") text then Some (record { count = 2; depth = 0; opened = opened })
    else Some (record { count = 1; depth = 0; opened = opened })

later : (quote other : Quote) (n : ℕ) (text : List ℕ) → ((depth : ℕ) (opened : List Opened) (count : ℕ) → ends_from quote n depth opened (drop count text) ≡ true → ends_from other n depth opened (drop count text) ≡ true)
    → (found : Option steps.Step) → Behind quote n text found ≡ true → Behind other n text found ≡ true
later quote other n text again None e = absurd (false≢true e)
later quote other n text again (Some step) e = again step.depth step.opened step.count e

unended : (quote other : Quote) (n : ℕ) (text : List ℕ) → ((found : Option steps.Step) → Behind quote n text found ≡ true → Behind other n text found ≡ true) → (b : Bool) (going_on : Option steps.Step)
    → Behind quote n text (if b then None else going_on) ≡ true → Behind other n text going_on ≡ true
unended quote other n text again true going_on e = absurd (false≢true e)
unended quote other n text again false going_on e = again going_on e

ends_in_other : (quote other : Quote) (n depth : ℕ) (opened : List Opened) (text : List ℕ) → holds other text ≡ false → ends_from quote n depth opened text ≡ true → ends_from other n depth opened text ≡ true
ends_in_other quote other n depth opened [] none e = e
ends_in_other quote other zero depth opened (c ∷ text) none e = absurd (false≢true e)
ends_in_other quote other (suc n) zero opened (c ∷ text) none e =
    let again = later quote other n (c ∷ text) (λ depth opened count f. ends_in_other quote other n depth opened (drop count (c ∷ text)) (none_behind other count (c ∷ text) none) f) in
    ap (λ b. Behind other n (c ∷ text) (if b then None else going opened (c ∷ text))) (not_begun (mark other) c [] text (none_first other c text none).0)
    ∙ unended quote other n (c ∷ text) again (begins (mark quote ∷ []) (c ∷ text)) (going opened (c ∷ text)) e
ends_in_other quote other (suc n) (suc depth) opened (c ∷ text) none e =
    let again = later quote other n (c ∷ text) (λ depth opened count f. ends_in_other quote other n depth opened (drop count (c ∷ text)) (none_behind other count (c ∷ text) none) f) in
    again (inside (suc depth) opened (c ∷ text) (front_at (innermost opened) (c ∷ text))) e

stands_in_other : (quote other : Quote) (text : List ℕ) → holds other text ≡ false → stands_in quote text ≡ true → stands_in other text ≡ true
unfolding stands_in
stands_in_other quote other text none e = ends_in_other quote other (length text) 0 [] text none e

-- the quotes that it is printed in
abbrev chosen : Bool → Bool → Bool → Quote
chosen double single stands = if double then (if single then (if stands then q.Double else q.Single) else q.Single) else q.Double

stands_chosen : (text : List ℕ) (quote : Quote) (double single stands : Bool) → holds q.Double text ≡ double → holds q.Single text ≡ single → stands_in q.Double text ≡ stands → stands_in quote text ≡ true
    → stands_in (chosen double single stands) text ≡ true
stands_chosen text q.Double false single stands d e f h = h
stands_chosen text q.Single false single stands d e f h = stands_in_other q.Single q.Double text d h
stands_chosen text q.Double true false stands d e f h = stands_in_other q.Double q.Single text e h
stands_chosen text q.Single true false stands d e f h = h
stands_chosen text quote true true true d e f h = f
stands_chosen text q.Single true true false d e f h = h
stands_chosen text q.Double true true false d e f h = absurd (false≢true (sym f ∙ h))

-- no at sign first
not_at : (c : ℕ) (text : List ℕ) → begins (codes "@") (c ∷ text) ≡ false → (c == 64) ≡ false
unfolding strip
not_at c text e = go (c == 64) refl
  where
    go : (b : Bool) → (c == 64) ≡ b → (c == 64) ≡ false
    go false is = is
    go true is = absurd (false≢true (sym (subst (λ z. begins (codes "@") (z ∷ text) ≡ false) (eqb-true c 64 is) e)))

ends_stands : (quote : Quote) (text : List ℕ) → Ends quote 0 [] text → stands_in quote text ≡ true
unfolding stands_in
ends_stands quote text h = h (length text) (omega arith)

pub is_value_text : (quote : Quote) (text more : List ℕ) → Ends quote 0 [] text → begins (codes "@") (text ++ more) ≡ false → IsValueText text
is_value_text quote [] more h e = printable.empty
is_value_text quote (c ∷ text) more h e =
    printable.some c text (not_at c (text ++ more) e)
    (stands_chosen (c ∷ text) quote (holds q.Double (c ∷ text)) (holds q.Single (c ∷ text)) (stands_in q.Double (c ∷ text)) refl refl refl (ends_stands quote (c ∷ text) h))

-- characters of a value without quotes
bare_plain : (a b c d e f g i : Bool) → not (a || b || c || d || e || f || g || i) ≡ true → not (d || b) ≡ true
bare_plain true b c d e f g i is = absurd (cc)
bare_plain false true c d e f g i is = absurd (cc)
bare_plain false false true d e f g i is = absurd (cc)
bare_plain false false false true e f g i is = absurd (cc)
bare_plain false false false false e f g i is = refl

pub bare_is_plain : (c : ℕ) → is_bare c ≡ true → is_of (quoted_run q.Double) c ≡ true
bare_is_plain c e = bare_plain (is_in class.White c) (c == 34) (c == 39) (c == 64) (c == 61) (c == 60) (c == 62) (c == 96) e
