-- What the code of a handler comes to.
use Rattle.std.specs.Prelude.{◌≡◌, ℕ, ◌-◌, ◌<◌, List, [], length, All, slice_get, Option, Some, None, option_map, option_and_then}
use Rattle.hub_messages.specs.declared.outcome.CircuitFault.{CircuitFault}
use Rattle.hub_messages.specs.declared.outcome.CircuitFault.TheVariants as circuit
use Rattle.cs_ast.specs.declared.code.Code.{Code}
use Rattle.cs_ast.specs.declared.value.Value.{Value}
use Rattle.cs_meaning.specs.declared.fault.Fault.{Fault}
use Rattle.cs_meaning.specs.declared.fault.Fault.TheVariants as code
use Rattle.cs_meaning.specs.State.{State, state}
use Rattle.cs_meaning.specs.Outcome.{Outcome, gives, faults, stuck}
use Rattle.cs_meaning.specs.Meaning.{body_meaning, setting}
use Rattle.first_click.specs.declared.component.Field.{Field}
use Rattle.first_click.specs.declared.component.Method.{Method}
use Rattle.cs_meaning.specs.FirstForms.{IsStatement}
use Rattle.plain_page.specs.Runnable.{IsNumeric}
use Rattle.plain_page.specs.Present.{fields_of, names_of, no_parameters}

-- the body of the method at a position
abbrev pub body_at : List Method → ℕ → Option Code
body_at methods position = option_map (λ (method : Method). method.body) (slice_get methods position)

-- the code of the handler with this id
abbrev pub code_at : List Method → List ℕ → ℕ → Option Code
code_at methods handlers handler = option_and_then (body_at methods) (slice_get handlers (handler - 1))

-- what a body means to the instance over these fields, with a million units
abbrev pub meaning_over : List Field → Code → Outcome Value
meaning_over fields code = body_meaning (setting 1 no_parameters [] 0) code (state [] (fields_of fields) [] 1000000)

-- the same of a handler's code, if there is one
abbrev pub meaning_at : List Field → Option Code → Outcome Value
meaning_at fields None = stuck
meaning_at fields (Some code) = meaning_over fields code

-- the fault of the circuit that a fault of code is
abbrev pub circuit_fault : Fault → Option CircuitFault
circuit_fault code.DivideByZero = Some circuit.DivideByZero
circuit_fault code.Overflow = Some circuit.Overflow
circuit_fault code.NullUse = Some circuit.NullUse
circuit_fault code.IndexOutOfRange = Some circuit.IndexOutOfRange
circuit_fault code.FuelSpent = Some circuit.FuelSpent
circuit_fault code.CallDepth = Some circuit.CallDepth
circuit_fault code.ValueTooLarge = Some circuit.ValueTooLarge
circuit_fault code.Oom = None

-- the fields keep their names and have the values that code left
pub record Leaves (before after : List Field) (s : State) : Type 0 where
  pub names : names_of after ≡ names_of before
  pub values : fields_of after ≡ s.fields

-- code came to its end and left these fields, or met this fault
abbrev pub Ran : Option CircuitFault → List Field → List Field → Outcome Value → Type 0
Ran None before after outcome = (value : Value) × (s : State) × (outcome ≡ gives value s) × Leaves before after s
Ran (Some fault) before after outcome = (met : Fault) × (s : State) × (outcome ≡ faults met s) × (circuit_fault met ≡ Some fault) × Leaves before after s

-- the fields are numbers, the methods are statements over them, and each handler is one of the methods
pub record CanRun (fields : List Field) (methods : List Method) (handlers : List ℕ) : Type 0 where
  pub numbers : All IsNumeric fields
  pub statements : All (λ (method : Method). IsStatement (length fields) method.body) methods
  pub handled : All (λ position. position < length methods) handlers
