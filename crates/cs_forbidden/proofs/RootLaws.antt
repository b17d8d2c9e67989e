-- Which rule code breaks, by what stands at its root.
use Rattle.std.proofs.Common.{◌≡◌, ℕ, List, refl, sym, ap, ◌∙◌}
use Rattle.std.specs.Prelude.{◌==◌, slice_get, if◌then◌else◌, Option, Some, None}
use Rattle.std.specs.List.{list_any}
use Rattle.cs_ast.specs.declared.code.Code.{Code, out-Code}
use Rattle.cs_ast.specs.declared.code.Code.TheVariants as c
use Rattle.cs_ast.specs.declared.code.Code.TheOpen.{Code-F}
use Rattle.cs_ast.specs.declared.code.Code.TheViews.{roll-Code, out-roll-Code, roll-out-Code}
use Rattle.cs_ast.specs.declared.code.Variable.{Variable}
use Rattle.cs_ast.specs.declared.operators.AssignOp.{AssignOp}
use Rattle.cs_ast.specs.declared.operators.StepOp.{StepOp}
use Rattle.cs_forbidden.specs.declared.forbidden.Forbidden.{Forbidden}
use Rattle.cs_forbidden.specs.Roots.{against, against_mark, against_change, against_level}

module _ (f : Forbidden) where
  at_root : (code : Code) (x : Code-F Code) → roll-Code x ≡ code → against f code ≡ against_level f x
  unfolding against
  at_root code x is = ap (λ it. against_level f (out-Code it)) (sym is) ∙ ap (against_level f) (out-roll-Code x)

  pub against_local : (number : ℕ) → against f (c.Local number) ≡ against_mark (slice_get f.outside number)
  against_local number = at_root (c.Local number) (Code-F.Local number) (c.rolls-Local number)

  pub against_assign : (target : Variable) (op : AssignOp) (value : Code) → against f (c.Assign target op value) ≡ against_change f target
  against_assign target op value = at_root (c.Assign target op value) (Code-F.Assign target op value) (c.rolls-Assign target op value)

  pub against_step : (target : Variable) (op : StepOp) → against f (c.Step target op) ≡ against_change f target
  against_step target op = at_root (c.Step target op) (Code-F.Step target op) (c.rolls-Step target op)

  pub against_call : (number : ℕ) (arguments : List Code) → against f (c.Call number arguments) ≡ (if list_any (λ one. one == number) f.bodies then f.invokes else None)
  against_call number arguments = at_root (c.Call number arguments) (Code-F.Call number arguments) (c.rolls-Call number arguments)

  pub against_invoke : (target : Code) (argument : Option Code) → against f (c.Invoke target argument) ≡ f.invokes
  against_invoke target None = at_root (c.Invoke target None) (Code-F.Invoke target None) (c.rolls-Invoke target None)
  against_invoke target (Some argument) = at_root (c.Invoke target (Some argument)) (Code-F.Invoke target (Some argument)) (c.rolls-Invoke target (Some argument))

  other_level : (x : Code-F Code)
      → ((number : ℕ) → roll-Code x ≡ c.Local number → ⊥)
      → ((target : Variable) (op : AssignOp) (value : Code) → roll-Code x ≡ c.Assign target op value → ⊥)
      → ((target : Variable) (op : StepOp) → roll-Code x ≡ c.Step target op → ⊥)
      → ((number : ℕ) (arguments : List Code) → roll-Code x ≡ c.Call number arguments → ⊥)
      → ((target : Code) (argument : Option Code) → roll-Code x ≡ c.Invoke target argument → ⊥)
      → against_level f x ≡ None
  other_level (Code-F.Local number) local assign step call invoke = absurd (local number (c.rolls-Local number))
  other_level (Code-F.Assign target op value) local assign step call invoke = absurd (assign target op value (c.rolls-Assign target op value))
  other_level (Code-F.Step target op) local assign step call invoke = absurd (step target op (c.rolls-Step target op))
  other_level (Code-F.Call number arguments) local assign step call invoke = absurd (call number arguments (c.rolls-Call number arguments))
  other_level (Code-F.Invoke target argument) local assign step call invoke = absurd (invoke target argument (c.rolls-Invoke target argument))
  other_level _ local assign step call invoke = refl

  -- other code breaks none by itself
  pub against_other : (code : Code)
      → ((number : ℕ) → code ≡ c.Local number → ⊥)
      → ((target : Variable) (op : AssignOp) (value : Code) → code ≡ c.Assign target op value → ⊥)
      → ((target : Variable) (op : StepOp) → code ≡ c.Step target op → ⊥)
      → ((number : ℕ) (arguments : List Code) → code ≡ c.Call number arguments → ⊥)
      → ((target : Code) (argument : Option Code) → code ≡ c.Invoke target argument → ⊥)
      → against f code ≡ None
  against_other code local assign step call invoke =
      let is : roll-Code (out-Code code) ≡ code = roll-out-Code code in
      at_root code (out-Code code) is
      ∙ other_level (out-Code code) (λ n h. local n (sym is ∙ h)) (λ t o v h. assign t o v (sym is ∙ h)) (λ t o h. step t o (sym is ∙ h))
      (λ n xs h. call n xs (sym is ∙ h)) (λ t a h. invoke t a (sym is ∙ h))
