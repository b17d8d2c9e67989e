-- Codes of outcomes, refusals and faults, with the numbers that come with them.
use Rattle.std.specs.Prelude.{ℕ, Option, Some, None}
use Rattle.hub_messages.specs.declared.outcome.Outcome.{Outcome}
use Rattle.hub_messages.specs.declared.outcome.Outcome.TheVariants.{Acted, HandlerUnknown, HandlerGone, ComponentGone, WrongEvent, BadArguments}
use Rattle.hub_messages.specs.declared.outcome.Refusal.{Refusal}
use Rattle.hub_messages.specs.declared.outcome.Refusal.TheVariants.{Malformed, NotConnected, AlreadyConnected, CircuitUnknown, AppliedAhead, AckAhead, GotAhead, BatchesGone, Early, OutcomesFull}
use Rattle.hub_messages.specs.declared.outcome.CircuitFault.{CircuitFault}
use Rattle.hub_messages.specs.declared.outcome.CircuitFault.TheVariants.{DivideByZero, Overflow, NullUse, IndexOutOfRange, FuelSpent, CallDepth, ValueTooLarge, DuplicateKey, PageTooLarge, TooManyComponents, TooDeepTree, Memory, NumbersSpent}

-- an outcome, by its code and number
abbrev pub outcome_code : Outcome → ℕ × Option ℕ
outcome_code Acted = (1, None)
outcome_code HandlerUnknown = (2, None)
outcome_code (HandlerGone batch) = (3, Some batch)
outcome_code ComponentGone = (4, None)
outcome_code WrongEvent = (5, None)
outcome_code BadArguments = (6, None)

-- a refusal, by its code and number
abbrev pub refusal_code : Refusal → ℕ × Option ℕ
refusal_code Malformed = (1, None)
refusal_code NotConnected = (2, None)
refusal_code AlreadyConnected = (3, None)
refusal_code CircuitUnknown = (4, None)
refusal_code (AppliedAhead sent) = (5, Some sent)
refusal_code (AckAhead sent) = (6, Some sent)
refusal_code (GotAhead last) = (7, Some last)
refusal_code (BatchesGone acked) = (8, Some acked)
refusal_code (Early next) = (9, Some next)
refusal_code (OutcomesFull oldest) = (10, Some oldest)

-- why a circuit ended, by its code
abbrev pub fault_code : CircuitFault → ℕ
fault_code DivideByZero = 1
fault_code Overflow = 2
fault_code NullUse = 3
fault_code IndexOutOfRange = 4
fault_code FuelSpent = 5
fault_code CallDepth = 6
fault_code ValueTooLarge = 7
fault_code DuplicateKey = 8
fault_code PageTooLarge = 9
fault_code TooManyComponents = 10
fault_code TooDeepTree = 11
fault_code Memory = 12
fault_code NumbersSpent = 13
