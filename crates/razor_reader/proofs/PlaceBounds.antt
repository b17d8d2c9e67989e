-- A place in a text is no further than the text is long.
use Rattle.std.proofs.Common.{◌≡◌, ℕ, zero, suc, ◌+◌, ◌≤◌, List, [], ◌∷◌, ◌++◌, length, refl, sym, ap, ◌∙◌, subst, arith, length-append}
use Rattle.std.specs.Prelude.{Bool, true, false, ◌==◌, if◌then◌else◌}
use Rattle.text_core.specs.declared.place.Place.{Place}
use Rattle.cs_token.specs.Places.{past_character, behind, first_place, place_after}
use Rattle.razor_token.specs.Answers.{IsPlaceIn}

-- behind a character, which ends a line or not
abbrev moved_on : Place → Bool → Place
moved_on place ends = if ends then record { line = place.line + 1; column = 1 } else record { line = place.line; column = place.column + 1 }

one_further : (place : Place) (ends : Bool) → 1 ≤ place.column → (1 ≤ (moved_on place ends).column) × ((moved_on place ends).line + (moved_on place ends).column ≤ place.line + place.column + 1)
one_further place true h = (omega arith, omega arith)
one_further place false h = (omega arith, omega arith)

behind_bound : (text : List ℕ) (place : Place) → 1 ≤ place.column → (behind place text).line + (behind place text).column ≤ place.line + place.column + length text
behind_bound [] place h = omega arith
behind_bound (c ∷ text) place h =
    let one = one_further place (c == 10) h in
    let first = one.1 in
    let others = behind_bound text (past_character place c) one.0 in
    omega arith

after_bound : (before : List ℕ) → (place_after before).line + (place_after before).column ≤ length before + 2
unfolding place_after
after_bound before = let h = behind_bound before first_place (omega arith) in omega arith

pub place_bound : (text : List ℕ) (place : Place) → IsPlaceIn text place → place.line + place.column ≤ length text + 2
place_bound text place h =
    let long = ap length h.laid ∙ length-append h.before h.rest in
    let bound = after_bound h.before in
    subst (λ (q : Place). q.line + q.column ≤ length text + 2) (sym h.here) (omega arith)
