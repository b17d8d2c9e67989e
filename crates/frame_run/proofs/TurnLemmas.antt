-- Turns of loops, as they are drawn: the regions so far, in front of those of the other turns.
use Rattle.std.proofs.Common.{◌≡◌, ℕ, zero, suc, ◌-◌, ◌<◌, List, [], ◌∷◌, ◌++◌, true, false, refl, sym, ap, ◌∙◌, append_assoc, arith}
use Rattle.std.proofs.lemmas.List.{append-nil}
use Rattle.std.specs.Prelude.{Bool, cond}
use Rattle.cs_ast.specs.declared.value.Value.{Value}
use Rattle.cs_meaning.specs.declared.fault.Fault.TheVariants.{FuelSpent}
use Rattle.cs_meaning.specs.State.{spent}
use Rattle.frame_core.specs.declared.item.Item.{Item}
use Rattle.drawing_meaning.specs.declared.fault.PageFault.TheVariants.{Code}
use Rattle.drawing_meaning.specs.Drawing.{Drawing, Drawn, Draws, gives, faults, stuck, and_then, with_state}
use Rattle.drawing_meaning.specs.Turns.{turns, turn_and_more}

-- items in front of others
abbrev pub items_before : List Item → Drawn (List Item) → Drawn (List Item)
items_before front drawn = and_then drawn (λ others d. gives (front ++ others) d)

pub items_start : (drawn : Drawn (List Item)) → drawn ≡ items_before [] drawn
items_start (gives it d) = refl
items_start (faults fault d) = refl
items_start stuck = refl

pub item_behind : (front : List Item) (first : Item) (drawn : Drawn (List Item)) → items_before front (and_then drawn (λ others d. gives (first ∷ others) d)) ≡ items_before (front ++ first ∷ []) drawn
item_behind front first (gives others d) = ap (λ (l : List Item). gives l d) (sym (append_assoc front (first ∷ []) others))
item_behind front first (faults fault d) = refl
item_behind front first stuck = refl

pub items_end : (front : List Item) (d : Drawing) → items_before front (gives [] d) ≡ gives front d
items_end front d = ap (λ (l : List Item). gives l d) (append-nil front)

module _ (test : Draws Bool) (one : Draws Item) (step : Draws Value) (d : Drawing) where
  -- no turn is left
  pub turns_none : (most : ℕ) → most ≡ 0 → turns most test one step d ≡ faults (Code FuelSpent) (with_state (spent d.state) d)
  unfolding turns
  turns_none zero h = refl
  turns_none (suc most) h = absurd (omega arith)

  -- the turns behind one
  abbrev goes : ℕ → Drawn (List Item)
  goes rest = and_then (test d) (λ goes_on d1. (cond goes_on (turn_and_more one step (turns rest test one step)) (λ (e : Drawing). gives [] e)) d1)

  -- a turn is left
  pub turns_some : (most : ℕ) → 0 < most → turns most test one step d ≡ and_then (test d) (λ goes_on d1. (cond goes_on (turn_and_more one step (turns (most - 1) test one step)) (λ (e : Drawing). gives [] e)) d1)
  unfolding turns
  turns_some zero h = absurd (omega arith)
  turns_some (suc most) h = let e : most ≡ suc most - 1 = omega arith in ap goes e

module _ (test : Draws Bool) (one : Draws Item) (step : Draws Value) (front : List Item) (most : ℕ) (some : 0 < most) where
  abbrev rest : Draws (List Item)
  rest = turns (most - 1) test one step

  -- the last test
  pub turn_last : (d d1 : Drawing) → test d ≡ gives false d1 → items_before front (turns most test one step d) ≡ gives front d1
  turn_last d d1 tested =
      ap (items_before front) (turns_some test one step d most some)
      ∙ ap (λ (r : Drawn Bool). items_before front (and_then r (λ goes_on e. (cond {A = Draws (List Item)} goes_on (turn_and_more one step rest) (λ (f : Drawing). gives [] f)) e))) tested
      ∙ items_end front d1

  -- one turn more
  pub turn_more : (d d1 d2 d3 : Drawing) (first : Item) (x : Value) → test d ≡ gives true d1 → one d1 ≡ gives first d2 → step d2 ≡ gives x d3 → items_before front (turns most test one step d) ≡ items_before (front ++ first ∷ []) (rest d3)
  turn_more d d1 d2 d3 first x tested made stepped =
      ap (items_before front) (turns_some test one step d most some)
      ∙ ap (λ (r : Drawn Bool). items_before front (and_then r (λ goes_on e. (cond {A = Draws (List Item)} goes_on (turn_and_more one step rest) (λ (f : Drawing). gives [] f)) e))) tested
      ∙ ap (λ (r : Drawn Item). items_before front (and_then r (λ it e. and_then (step e) (λ y f. and_then (rest f) (λ others k. gives (it ∷ others) k))))) made
      ∙ ap (λ (r : Drawn Value). items_before front (and_then r (λ y f. and_then (rest f) (λ others k. gives (first ∷ others) k)))) stepped
      ∙ item_behind front first (rest d3)
