-- An acknowledgement by itself, which makes no batch.
use Rattle.std.specs.Prelude.{◌≡◌, ℕ, ◌&&◌, nat_lt, is_none, if◌then◌else◌}
use Rattle.hub_messages.specs.Stage.{Machine}
use Rattle.circuit_meaning.specs.declared.circuit.CircuitStatus.{CircuitStatus}
use Rattle.circuit_meaning.specs.Circuit.State.{CircuitState}
use Rattle.circuit_core.specs.declared.ack_done.AckDone.{AckDone}
use Rattle.circuit_core.specs.declared.ack_done.AckDone.TheVariants.{Moved, Old, Ahead}

-- what comes of an acknowledgement of batches up to one
abbrev pub done_of : CircuitStatus → ℕ → AckDone
done_of status batch =
    if nat_lt status.sent batch then Ahead status.sent
    else (if nat_lt status.acked batch && is_none status.ended then Moved else Old)

-- where it moves, the stage releases, and acked alone changes
abbrev pub Acknowledges : {Tree : Type 0} (machine : Machine Tree) → ℕ → AckDone → CircuitState machine.State → CircuitState machine.State → Type 0
Acknowledges machine batch Moved before after =
    (stage : machine.State) × machine.Releases before.stage batch stage
    × (after ≡ record before { stage = stage; status = record before.status { acked = batch } })
Acknowledges machine batch Old before after = after ≡ before
Acknowledges machine batch (Ahead sent) before after = after ≡ before
