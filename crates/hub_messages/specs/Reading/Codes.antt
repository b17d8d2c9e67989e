-- How codes are read.
use Rattle.std.specs.Prelude.{ℕ, List, [], ◌∷◌, Option, Some, None, if◌then◌else◌, ◌==◌}
use Rattle.std.specs.Option.{option_map}
use Rattle.hub_messages.specs.declared.outcome.Outcome.{Outcome}
use Rattle.hub_messages.specs.declared.outcome.Outcome.TheVariants.{Acted, HandlerUnknown, HandlerGone, ComponentGone, WrongEvent, BadArguments}
use Rattle.hub_messages.specs.declared.outcome.Refusal.{Refusal}
use Rattle.hub_messages.specs.declared.outcome.Refusal.TheVariants.{Malformed, NotConnected, AlreadyConnected, CircuitUnknown, AppliedAhead, AckAhead, GotAhead, BatchesGone, Early, OutcomesFull}
use Rattle.hub_messages.specs.declared.outcome.CircuitFault.{CircuitFault}
use Rattle.hub_messages.specs.declared.outcome.CircuitFault.TheVariants.{DivideByZero, Overflow, NullUse, IndexOutOfRange, FuelSpent, CallDepth, ValueTooLarge, DuplicateKey, PageTooLarge, TooManyComponents, TooDeepTree, Memory, NumbersSpent}

-- what stands beside a code in a table
abbrev pub of_code : {A : Type 0} → List (ℕ × A) → ℕ → Option A
of_code [] code = None
of_code (entry ∷ table) code = if code == entry.0 then Some entry.1 else of_code table code

abbrev pub outcomes : List (ℕ × Outcome)
outcomes = (1, Acted) ∷ (2, HandlerUnknown) ∷ (4, ComponentGone) ∷ (5, WrongEvent) ∷ (6, BadArguments) ∷ []

abbrev pub refusals : List (ℕ × Refusal)
refusals = (1, Malformed) ∷ (2, NotConnected) ∷ (3, AlreadyConnected) ∷ (4, CircuitUnknown) ∷ []

-- those with a number
abbrev pub numbered_refusals : List (ℕ × (ℕ → Refusal))
numbered_refusals = (5, AppliedAhead) ∷ (6, AckAhead) ∷ (7, GotAhead) ∷ (8, BatchesGone) ∷ (9, Early) ∷ (10, OutcomesFull) ∷ []

abbrev pub faults : List (ℕ × CircuitFault)
faults =
    (1, DivideByZero) ∷ (2, Overflow) ∷ (3, NullUse) ∷ (4, IndexOutOfRange) ∷ (5, FuelSpent) ∷ (6, CallDepth) ∷ (7, ValueTooLarge)
    ∷ (8, DuplicateKey) ∷ (9, PageTooLarge) ∷ (10, TooManyComponents) ∷ (11, TooDeepTree) ∷ (12, Memory) ∷ (13, NumbersSpent) ∷ []

-- the outcome of a code and a number
unfoldable pub outcome_of : ℕ → Option ℕ → Option Outcome
outcome_of code None = of_code outcomes code
outcome_of code (Some value) = if code == 3 then Some (HandlerGone value) else None

-- the refusal of a code and a number
unfoldable pub refusal_of : ℕ → Option ℕ → Option Refusal
refusal_of code None = of_code refusals code
refusal_of code (Some value) = option_map (λ refusal. refusal value) (of_code numbered_refusals code)

-- the fault of a code
unfoldable pub fault_of : ℕ → Option CircuitFault
fault_of code = of_code faults code
