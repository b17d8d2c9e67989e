-- The state of a circuit, with its whole history.
use Rattle.std.specs.Prelude.{ℕ, List, [], map, Some, None, unwrap_or, max}
use Rattle.hub_messages.specs.declared.outcome.CircuitFault.{CircuitFault}
use Rattle.hub_messages.specs.declared.outcome.CircuitFault.TheVariants.{Memory}
use Rattle.hub_messages.specs.declared.outcome.Outcome.{Outcome}
use Rattle.circuit_meaning.specs.declared.circuit.CircuitStatus.{CircuitStatus}

-- a batch that was made, and the state of the stage then
pub record BatchRow (Stage : Type 0) : Type 0 where
  pub bytes : List ℕ
  pub stage : Stage

-- the batches 1 to sent, and the outcomes of the events 1 to last; none is ever forgotten
pub record CircuitState (Stage : Type 0) : Type 0 where
  pub stage : Stage
  pub status : CircuitStatus
  pub batches : List (BatchRow Stage)
  pub outcomes : List Outcome

-- the bytes of batches
abbrev pub bytes_of : {Stage : Type 0} → List (BatchRow Stage) → List (List ℕ)
bytes_of batches = map (λ row. row.bytes) batches

-- a circuit that a connection starts, before its first batch
abbrev pub started : {Stage : Type 0} → Stage → ℕ → ℕ → CircuitState Stage
started stage window connection = record {
  stage = stage;
  status = record { window = window; sent = 0; acked = 0; last = 0; forgotten = 0; bound = Some connection; ended = None };
  batches = [];
  outcomes = [];
}

-- a circuit that a fault ended
abbrev pub ended_by : {Stage : Type 0} → CircuitFault → CircuitState Stage → CircuitState Stage
ended_by fault state = record state { status = record state.status { ended = Some fault } }

-- a circuit that ran out of memory: it ends with this fault, unless one has ended it before
abbrev pub out_of_memory : {Stage : Type 0} → CircuitState Stage → CircuitState Stage
out_of_memory state = ended_by (unwrap_or state.status.ended Memory) state

-- outcomes of events up to this one are no longer kept
abbrev pub forgetting : CircuitStatus → ℕ → CircuitStatus
forgetting status got = record status { forgotten = max status.forgotten got }

-- a circuit whose connection was closed
abbrev pub unbound : {Stage : Type 0} → CircuitState Stage → CircuitState Stage
unbound state = record state { status = record state.status { bound = None } }
