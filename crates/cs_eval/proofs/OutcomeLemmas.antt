-- Outcomes and the results that agree with them.
use Rattle.std.proofs.Common.{◌≡◌, List, [], ◌∷◌, ◌++◌, Ok, Err, refl, sym, ap, append_assoc}
use Rattle.std.specs.Prelude.{Result}
use Rattle.cs_ast.specs.declared.value.Value.{Value}
use Rattle.cs_ast.specs.declared.operators.BinaryOp.{BinaryOp}
use Rattle.cs_ast.specs.declared.operators.BinaryOp.TheVariants as binary_op
use Rattle.cs_meaning.specs.declared.fault.Fault.TheVariants as fault
use Rattle.cs_meaning.specs.State.{State}
use Rattle.cs_meaning.specs.Outcome.{Outcome, gives, breaks, continues, returns, faults, stuck, Meaning, and_then, in_state}
use Rattle.cs_meaning.specs.Operators.{of_values}
use Rattle.cs_meaning.specs.Expressions.{two_operands, binary}
use Rattle.cs_eval.specs.declared.exit.Exit.{Exit}
use Rattle.cs_eval.specs.declared.exit.Exit.TheVariants as exit
use Rattle.cs_eval.specs.Agrees.{Leaves, Agrees}

module _ (s : State) (change : State → State) (outcome : Outcome Value) where
  faults_changed : (f : fault.the_data) → Leaves (exit.Fault f) s outcome → Leaves (exit.Fault f) (change s) (in_state change outcome)
  faults_changed fault.Oom h = tt
  faults_changed fault.DivideByZero h = ap (in_state change) h
  faults_changed fault.Overflow h = ap (in_state change) h
  faults_changed fault.NullUse h = ap (in_state change) h
  faults_changed fault.IndexOutOfRange h = ap (in_state change) h
  faults_changed fault.FuelSpent h = ap (in_state change) h
  faults_changed fault.CallDepth h = ap (in_state change) h
  faults_changed fault.ValueTooLarge h = ap (in_state change) h

  -- what agrees still does in a changed state
  pub agrees_changed : (result : Result Value Exit) → Agrees result s outcome → Agrees result (change s) (in_state change outcome)
  agrees_changed (Ok x) h = ap (in_state change) h
  agrees_changed (Err exit.Break) h = ap (in_state change) h
  agrees_changed (Err exit.Continue) h = ap (in_state change) h
  agrees_changed (Err (exit.Return x)) h = ap (in_state change) h
  agrees_changed (Err (exit.Fault f)) h = faults_changed f h
  agrees_changed (Err exit.Stuck) h = ap (in_state change) h

-- values in front of those that an outcome gives
abbrev pub behind_all : List Value → Outcome (List Value) → Outcome (List Value)
behind_all front outcome = and_then outcome (λ xs s. gives (front ++ xs) s)

pub all_behind : (front : List Value) (x : Value) (outcome : Outcome (List Value)) → behind_all front (and_then outcome (λ xs s. gives (x ∷ xs) s)) ≡ behind_all (front ++ x ∷ []) outcome
all_behind front x (gives xs s) = ap (λ (l : List Value). gives l s) (sym (append_assoc front (x ∷ []) xs))
all_behind front x (breaks s) = refl
all_behind front x (continues s) = refl
all_behind front x (returns y s) = refl
all_behind front x (faults f s) = refl
all_behind front x stuck = refl

-- all operators but `&&`, `||` and `??` take both operands
pub strict_binary : (op : BinaryOp) → (op ≡ binary_op.And → ⊥) → (op ≡ binary_op.Or → ⊥) → (op ≡ binary_op.Coalesce → ⊥) → (a b : Meaning) (s : State) → binary op a b s ≡ two_operands a b (of_values op) s
strict_binary binary_op.And not_and not_or not_coalesce a b s = absurd (not_and refl)
strict_binary binary_op.Or not_and not_or not_coalesce a b s = absurd (not_or refl)
strict_binary binary_op.Coalesce not_and not_or not_coalesce a b s = absurd (not_coalesce refl)
strict_binary _ not_and not_or not_coalesce a b s = refl
