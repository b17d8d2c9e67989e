-- The unit that code costs before anything of it happens.
use Rattle.std.proofs.Common.{◌≡◌, ℕ, ◌-◌, ◌<◌, List, refl, sym, ap, ◌∙◌, arith}
use Rattle.std.specs.Prelude.{if◌then◌else◌}
use Rattle.std.specs.Prelude.{Bool as Truth}
use Rattle.std.proofs.lemmas.Bool.{le-ltb, lt-ltb}
use Rattle.cs_ast.specs.declared.value.Value.{Value}
use Rattle.cs_ast.specs.declared.code.Code.{Code, out-Code}
use Rattle.cs_ast.specs.declared.code.Code.TheVariants as c
use Rattle.cs_ast.specs.declared.code.Code.TheViews.{roll-Code, roll-out-Code}
use Rattle.cs_ast.specs.declared.code.Code.TheOpen.{Code-F}
use Rattle.cs_ast.specs.declared.code.Code.TheFolds.{map-Code, fold_out-Code}
use Rattle.cs_ast.specs.declared.code.BindKind.{BindKind}
use Rattle.cs_meaning.specs.declared.fault.Fault.TheVariants.{FuelSpent}
use Rattle.cs_meaning.specs.State.{State, state, spent}
use Rattle.cs_meaning.specs.Outcome.{Outcome, faults, charged}
use Rattle.cs_meaning.specs.Meaning.{Setting, Part, running, act, paid, level, meaning_by, meaning, behind}
use Rattle.cs_meaning.proofs.PartLemmas.{whole}

-- where the unit is there
pub one_paid : {A : Type 0} (s : State) (next : State → Outcome A) → 0 < s.left → charged 1 s next ≡ next (state s.locals s.fields s.receivers (s.left - 1))
one_paid s next h = ap (λ d. if d then faults FuelSpent (spent s) else next (state s.locals s.fields s.receivers (s.left - 1))) (le-ltb _ _ (omega arith))

-- where none is left
pub none_left : {A : Type 0} (s : State) (next : State → Outcome A) → s.left ≡ 0 → charged 1 s next ≡ faults FuelSpent (spent s)
none_left s next h = ap (λ d. if d then faults FuelSpent (spent s) else next (state s.locals s.fields s.receivers (s.left - 1))) (lt-ltb _ _ (omega arith))

module _ (around : Setting) where
  paid_form : (x : Code-F Code) (s : State)
      → ((text : List ℕ) → roll-Code x ≡ c.Piece text → ⊥)
      → ((at : ℕ) (kind : BindKind) → roll-Code x ≡ c.Bind at kind → ⊥)
      → ((constants : List Value) (otherwise : Truth) (statements : List Code) → roll-Code x ≡ c.Section constants otherwise statements → ⊥)
      → paid around.parameters (running around) around.who (map-Code Code Part (whole around) x) s ≡ charged 1 s (act around.parameters (running around) around.who (map-Code Code Part (whole around) x))
  paid_form (Code-F.Piece text) s piece bind section = absurd (piece text (c.rolls-Piece text))
  paid_form (Code-F.Bind at kind) s piece bind section = absurd (bind at kind (c.rolls-Bind at kind))
  paid_form (Code-F.Section constants otherwise statements) s piece bind section = absurd (section constants otherwise statements (c.rolls-Section constants otherwise statements))
  paid_form _ s piece bind section = refl

  -- all code but a literal piece, a binding and a section costs a unit
  pub unit_law : (code : Code) (s : State)
      → ((text : List ℕ) → code ≡ c.Piece text → ⊥)
      → ((at : ℕ) (kind : BindKind) → code ≡ c.Bind at kind → ⊥)
      → ((constants : List Value) (otherwise : Truth) (statements : List Code) → code ≡ c.Section constants otherwise statements → ⊥)
      → meaning around code s ≡ charged 1 s (behind around code)
  unfolding meaning_by behind
  unit_law code s piece bind section =
      let e : roll-Code (out-Code code) ≡ code = roll-out-Code code in
      ap (λ (it : Part). it.meaning s) (fold_out-Code Part (level around.parameters (running around) around.who) code)
      ∙ paid_form (out-Code code) s (λ text h. piece text (sym e ∙ h)) (λ at kind h. bind at kind (sym e ∙ h)) (λ constants otherwise statements h. section constants otherwise statements (sym e ∙ h))
