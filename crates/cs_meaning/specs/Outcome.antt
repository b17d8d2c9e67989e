-- What code gives.
use Rattle.std.specs.Prelude.{ℕ, ◌-◌, nat_lt, if◌then◌else◌, Option, Some, None}
use Rattle.std.specs.Prelude.{Bool as Truth}
use Rattle.cs_ast.specs.declared.value.Value.{Value}
use Rattle.cs_meaning.specs.declared.fault.Fault.{Fault}
use Rattle.cs_meaning.specs.declared.fault.Fault.TheVariants.{FuelSpent}
use Rattle.cs_meaning.specs.State.{State, state, spent}

-- a value and the state after it; a jump out of the loop, the `switch`, the turn or the body round it; a fault and the state in which it fell; or neither, where an operand has a wrong kind or a name stands for nothing
pub data Outcome (A : Type 0) : Type 0 where
  gives : A → State → Outcome A
  breaks : State → Outcome A
  continues : State → Outcome A
  returns : Value → State → Outcome A
  faults : Fault → State → Outcome A
  stuck : Outcome A

-- what code gives from each state
abbrev pub Meaning : Type 0
Meaning = State → Outcome Value

-- one after the other, as long as there are values
abbrev pub and_then : {A B : Type 0} → Outcome A → (A → State → Outcome B) → Outcome B
and_then (gives x s) next = next x s
and_then (breaks s) next = breaks s
and_then (continues s) next = continues s
and_then (returns x s) next = returns x s
and_then (faults fault s) next = faults fault s
and_then stuck next = stuck

-- the same, with its state changed
abbrev pub in_state : {A : Type 0} → (State → State) → Outcome A → Outcome A
in_state change (gives x s) = gives x (change s)
in_state change (breaks s) = breaks (change s)
in_state change (continues s) = continues (change s)
in_state change (returns x s) = returns x (change s)
in_state change (faults fault s) = faults fault (change s)
in_state change stuck = stuck

-- units are charged one after another, and then it goes on; at the first that isn't there the fuel is spent
abbrev pub charged : {A : Type 0} → ℕ → State → (State → Outcome A) → Outcome A
charged units s next = if nat_lt s.left units then faults FuelSpent (spent s) else next (state s.locals s.fields s.receivers (s.left - units))

-- one of two by a test, which has to be true or false
abbrev pub chosen : {A : Type 0} → Option Truth → Outcome A → Outcome A → Outcome A
chosen (Some truth) one other = if truth then one else other
chosen None one other = stuck

-- what is there
abbrev pub found : {A : Type 0} → Option A → State → Outcome A
found (Some x) s = gives x s
found None s = stuck

-- code that isn't stuck
abbrev pub IsDefined : {A : Type 0} → Outcome A → Type 0
IsDefined (gives x s) = Unit {0}
IsDefined (breaks s) = Unit {0}
IsDefined (continues s) = Unit {0}
IsDefined (returns x s) = Unit {0}
IsDefined (faults fault s) = Unit {0}
IsDefined stuck = ⊥
