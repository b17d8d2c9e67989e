-- How what a circuit keeps represents a state with its whole history.
use Rattle.std.specs.Prelude.{◌≡◌, List, ◌++◌, length, drop, None}
use Rattle.hub_messages.specs.Stage.{Machine}
use Rattle.hub_messages.specs.declared.down.Down.{Down}
use Rattle.circuit_meaning.specs.Circuit.State.{CircuitState, bytes_of}
use Rattle.circuit_meaning.specs.Circuit.Batches.{MakesBatch}
use Rattle.circuit_core.specs.Kept.{Kept}

-- a circuit that runs keeps the stage, the batches that are not acknowledged and the outcomes that are not forgotten
pub record Keeps {Stage State : Type 0} (stands : Stage → State → Type 0) (kept : Kept Stage) (state : CircuitState State) : Type 0 where
  pub stage : stands kept.stage state.stage
  pub batches : kept.batches ≡ drop state.status.acked (bytes_of state.batches)
  pub outcomes : kept.outcomes ≡ drop state.status.forgotten state.outcomes
  pub sent : length state.batches ≡ state.status.sent
  pub last : length state.outcomes ≡ state.status.last

-- what is kept stands for a state; of one that has ended the status alone is kept
pub record Stands {Stage State : Type 0} (stands : Stage → State → Type 0) (kept : Kept Stage) (state : CircuitState State) : Type 0 where
  pub status : kept.status ≡ state.status
  pub runs : state.status.ended ≡ None → Keeps stands kept state

-- each state that stood before leads by this relation to one that stands after
abbrev pub Leads : {Stage Tree : Type 0} (machine : Machine Tree) → (Stage → machine.State → Type 0) → Kept Stage → Kept Stage →
    (CircuitState machine.State → CircuitState machine.State → Type 0) → Type 0
Leads machine stands before after relation =
    (state : CircuitState machine.State) → Stands stands before state →
    (next : CircuitState machine.State) × Stands stands after next × relation state next

-- the replies go on with what the making of a batch replies, or with nothing
abbrev pub Continues : {Tree : Type 0} (machine : Machine Tree) → List Down → List Down → CircuitState machine.State → CircuitState machine.State → Type 0
Continues machine before replies state next =
    (more : List Down) × (replies ≡ before ++ more) × MakesBatch machine state more next
