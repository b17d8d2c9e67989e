-- What a circuit keeps.
use Rattle.std.specs.Prelude.{◌≡◌, ℕ, ◌+◌, List, length}
use Rattle.hub_messages.specs.declared.outcome.Outcome.{Outcome}
use Rattle.circuit_meaning.specs.declared.circuit.CircuitStatus.{CircuitStatus}

-- the stage, the counts, the bytes of batches and the outcomes of events that may be asked for again
pub record Kept (Stage : Type 0) : Type 0 where
  pub stage : Stage
  pub status : CircuitStatus
  pub batches : List (List ℕ)
  pub outcomes : List Outcome

-- the stage has made the batches and released what the status counts, the batches are those behind acked up to sent, and
-- the outcomes those behind forgotten up to last
pub record IsWhole {Stage : Type 0} (made_by released_by : Stage → ℕ) (kept : Kept Stage) : Type 0 where
  pub made : made_by kept.stage ≡ kept.status.sent
  pub released : released_by kept.stage ≡ kept.status.acked
  pub unacknowledged : kept.status.acked + length kept.batches ≡ kept.status.sent
  pub remembered : kept.status.forgotten + length kept.outcomes ≡ kept.status.last
