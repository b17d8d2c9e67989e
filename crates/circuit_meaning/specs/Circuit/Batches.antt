-- When a circuit makes a batch, and what becomes of it then.
use Rattle.std.specs.Prelude.{◌≡◌, ◌+◌, ◌-◌, ◌^◌, Bool, true, false, ◌&&◌, ◌||◌, ◌==◌, List, [], ◌∷◌, ◌++◌, nat_lt}
use Rattle.hub_messages.specs.Stage.{Machine}
use Rattle.hub_messages.specs.declared.down.Down.{Down}
use Rattle.hub_messages.specs.declared.down.Down.TheVariants.{Batch, Ended}
use Rattle.hub_messages.specs.declared.outcome.CircuitFault.TheVariants.{NumbersSpent}
use Rattle.hub_messages.specs.declared.stage.Made.{Made}
use Rattle.hub_messages.specs.declared.stage.Made.TheVariants as md
use Rattle.circuit_meaning.specs.declared.circuit.CircuitStatus.{CircuitStatus}
use Rattle.circuit_meaning.specs.Circuit.State.{CircuitState, ended_by}

-- a batch is due: something is dirty or nothing was rendered yet, and the window has room
abbrev pub is_due : CircuitStatus → Bool → Bool
is_due status is_dirty = (is_dirty || status.sent == 0) && nat_lt (status.sent - status.acked) status.window

-- the numbers of batches are spent
abbrev pub is_spent : CircuitStatus → Bool
is_spent status = status.sent == 2 ^ 64 - 1

-- a rendering gave a batch, which is kept and sent, or a fault, which ends the circuit
abbrev pub Rendered : {Stage : Type 0} → Made → Stage → CircuitState Stage → List Down → CircuitState Stage → Type 0
Rendered (md.Batch bytes) stage before replies after =
    (replies ≡ Batch (before.status.sent + 1) bytes ∷ [])
    × (after ≡ record before {
      stage = stage;
      status = record before.status { sent = before.status.sent + 1 };
      batches = before.batches ++ record { bytes = bytes; stage = stage } ∷ [];
    })
Rendered (md.Fault fault) stage before replies after =
    (replies ≡ Ended fault ∷ []) × (after ≡ ended_by fault (record before { stage = stage }))

-- a batch is made, unless the numbers are spent
abbrev pub Renders : {Tree : Type 0} (machine : Machine Tree) → Bool → CircuitState machine.State → List Down → CircuitState machine.State → Type 0
Renders machine true before replies after = (replies ≡ Ended NumbersSpent ∷ []) × (after ≡ ended_by NumbersSpent before)
Renders machine false before replies after =
    (made : Made) × (stage : machine.State) × machine.Renders before.stage made stage × Rendered made stage before replies after

-- a batch is made where one is due
abbrev pub RendersIf : {Tree : Type 0} (machine : Machine Tree) → Bool → CircuitState machine.State → List Down → CircuitState machine.State → Type 0
RendersIf machine true before replies after = Renders machine (is_spent before.status) before replies after
RendersIf machine false before replies after = (replies ≡ []) × (after ≡ before)

-- a batch made now, or none
abbrev pub MakesBatch : {Tree : Type 0} (machine : Machine Tree) → CircuitState machine.State → List Down → CircuitState machine.State → Type 0
MakesBatch machine before replies after =
    RendersIf machine (is_due before.status (machine.is_dirty before.stage)) before replies after
