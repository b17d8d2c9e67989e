-- Faults of code, and of renderings.
use Rattle.std.proofs.Common.{◌≡◌, ℕ, List, Err, refl, ap}
use Rattle.cs_ast.specs.declared.value.Value.{Value}
use Rattle.cs_eval.specs.Run.{Evaluates}
use Rattle.cs_meaning.specs.declared.fault.Fault.TheVariants as fault
use Rattle.cs_meaning.specs.Outcome.{Outcome}
use Rattle.cs_meaning.specs.State.{state}
use Rattle.drawing_meaning.specs.declared.fault.PageFault.TheVariants as page
use Rattle.drawing_meaning.specs.Drawing.{Drawing, Drawn, faults, of_outcome, with_state}
use Rattle.frame_core.specs.declared.item.Item.{Item}
use Rattle.frame_run.specs.Run.{Means}

-- a fault of code, as that of a rendering
module _ (locals : List Value) (left : ℕ) (means : Outcome Value) (d : Drawing) where
  pub faulted : (f : fault.the_data) → (f ≡ fault.Oom → ⊥) → Evaluates (Err f) locals left means → of_outcome {A = Value} means d ≡ faults (page.Code f) (with_state (state locals d.state.fields d.state.receivers left) d)
  faulted fault.Oom other h = absurd (other refl)
  faulted fault.DivideByZero other h = ap (λ (o : Outcome Value). of_outcome o d) h.2
  faulted fault.Overflow other h = ap (λ (o : Outcome Value). of_outcome o d) h.2
  faulted fault.NullUse other h = ap (λ (o : Outcome Value). of_outcome o d) h.2
  faulted fault.IndexOutOfRange other h = ap (λ (o : Outcome Value). of_outcome o d) h.2
  faulted fault.FuelSpent other h = ap (λ (o : Outcome Value). of_outcome o d) h.2
  faulted fault.CallDepth other h = ap (λ (o : Outcome Value). of_outcome o d) h.2
  faulted fault.ValueTooLarge other h = ap (λ (o : Outcome Value). of_outcome o d) h.2

-- a fault of a rendering, as its answer
module _ (left : ℕ) (drawn : Drawn (List Item)) (d : Drawing) (same : d.state.left ≡ left) where
  code_fault : (f : fault.the_data) → drawn ≡ faults (page.Code f) d → Means (Err (page.Code f)) left drawn
  code_fault fault.Oom h = tt
  code_fault fault.DivideByZero h = (d, same, h)
  code_fault fault.Overflow h = (d, same, h)
  code_fault fault.NullUse h = (d, same, h)
  code_fault fault.IndexOutOfRange h = (d, same, h)
  code_fault fault.FuelSpent h = (d, same, h)
  code_fault fault.CallDepth h = (d, same, h)
  code_fault fault.ValueTooLarge h = (d, same, h)

  pub any_fault : (f : page.the_data) → drawn ≡ faults f d → Means (Err f) left drawn
  any_fault (page.Code f) h = code_fault f h
  any_fault page.DuplicateKey h = (d, same, h)
  any_fault page.PageTooLarge h = (d, same, h)
