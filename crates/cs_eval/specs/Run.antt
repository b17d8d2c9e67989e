-- What a run answers.
use Rattle.std.specs.Prelude.{◌≡◌, ℕ, List, Option, Some, None, Result, Ok, Err}
use Rattle.cs_ast.specs.declared.value.Value.{Value}
use Rattle.cs_meaning.specs.declared.fault.Fault.{Fault}
use Rattle.cs_meaning.specs.declared.fault.Fault.TheVariants as fault
use Rattle.cs_meaning.specs.State.{Fields, state}
use Rattle.cs_meaning.specs.Outcome.{Outcome, gives, faults, stuck}
use Rattle.cs_eval.specs.declared.run.Ran.{Ran}

-- the answer, with the locals, fields and units after it, is what the code means; memory may run out anywhere
abbrev pub Means : Result Ran Fault → List Value → Fields → ℕ → Outcome Value → Type 0
Means (Ok ran) locals fields left outcome = outcome ≡ gives ran.value (state locals fields ran.receivers.items left)
Means (Err fault.Oom) locals fields left outcome = Unit {0}
Means (Err f) locals fields left outcome = (receivers : List ℕ) × (outcome ≡ faults f (state locals fields receivers left))

-- the same of a body that may be stuck, and then gives nothing
abbrev pub Tries : Result (Option Ran) Fault → List Value → Fields → ℕ → Outcome Value → Type 0
Tries (Ok (Some ran)) locals fields left outcome = Means (Ok ran) locals fields left outcome
Tries (Ok None) locals fields left outcome = outcome ≡ stuck
Tries (Err f) locals fields left outcome = Means (Err f) locals fields left outcome

-- the answer of code whose changes of fields and whose receivers aren't kept, with the locals and units after it, is what the code means; memory may run out anywhere
abbrev pub Evaluates : Result Value Fault → List Value → ℕ → Outcome Value → Type 0
Evaluates (Ok value) locals left outcome = (fields : Fields) × (receivers : List ℕ) × (outcome ≡ gives value (state locals fields receivers left))
Evaluates (Err fault.Oom) locals left outcome = Unit {0}
Evaluates (Err f) locals left outcome = (fields : Fields) × (receivers : List ℕ) × (outcome ≡ faults f (state locals fields receivers left))

-- the same of code that may be stuck, and then gives nothing
abbrev pub TriesValue : Result (Option Value) Fault → List Value → ℕ → Outcome Value → Type 0
TriesValue (Ok (Some value)) locals left outcome = Evaluates (Ok value) locals left outcome
TriesValue (Ok None) locals left outcome = outcome ≡ stuck
TriesValue (Err f) locals left outcome = Evaluates (Err f) locals left outcome
