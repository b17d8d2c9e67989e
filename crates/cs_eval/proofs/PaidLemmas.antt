-- Code behind the unit that it costs, as the evaluator pays it.
use Rattle.std.proofs.Common.{◌≡◌, ℕ, ◌-◌, ◌<◌, List, Err, refl, sym, ap, subst, ◌∙◌}
use Rattle.std.specs.Prelude.{Result}
use Rattle.std.specs.Prelude.{Bool as Truth}
use Rattle.cs_ast.specs.declared.value.Value.{Value}
use Rattle.cs_ast.specs.declared.code.Code.{Code}
use Rattle.cs_ast.specs.declared.code.Code.TheVariants as c
use Rattle.cs_ast.specs.declared.code.BindKind.{BindKind}
use Rattle.cs_meaning.specs.declared.fault.Fault.TheVariants as fault
use Rattle.cs_meaning.specs.State.{State, state, spent}
use Rattle.cs_meaning.specs.Outcome.{Outcome, faults}
use Rattle.cs_meaning.specs.Meaning.{Setting, meaning, behind}
use Rattle.cs_meaning.proofs.UnitLaws.{unit_law, one_paid, none_left}
use Rattle.cs_eval.specs.declared.exit.Exit.{Exit}
use Rattle.cs_eval.specs.declared.exit.Exit.TheVariants as exit
use Rattle.cs_eval.specs.Agrees.{Agrees}

module _ (around : Setting) (code : Code) (s : State)
    (piece : (text : List ℕ) → code ≡ c.Piece text → ⊥)
    (bind : (at : ℕ) (kind : BindKind) → code ≡ c.Bind at kind → ⊥)
    (section : (constants : List Value) (otherwise : Truth) (statements : List Code) → code ≡ c.Section constants otherwise statements → ⊥) where
  -- what is evaluated behind a unit that was there
  pub paid_agrees : (result : Result Value Exit) (s1 : State) → 0 < s.left → Agrees result s1 (behind around code (state s.locals s.fields s.receivers (s.left - 1))) → Agrees result s1 (meaning around code s)
  paid_agrees result s1 some h = subst (λ (o : Outcome Value). Agrees result s1 o) (sym (unit_law around code s piece bind section ∙ one_paid s (behind around code) some)) h

  -- no unit is there
  pub unpaid_agrees : (s1 : State) → s1 ≡ spent s → s.left ≡ 0 → meaning around code s ≡ faults fault.FuelSpent s1
  unpaid_agrees s1 same none = unit_law around code s piece bind section ∙ none_left s (behind around code) none ∙ ap (faults fault.FuelSpent) (sym same)
