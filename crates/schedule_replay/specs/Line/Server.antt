-- What a message from the browser makes of the server: a Start makes the circuit, the others are the circuit's.
use Rattle.std.specs.Prelude.{◌≡◌, ℕ, List, [], ◌∷◌, Option, Some, None}
use Rattle.hub_messages.specs.Stage.{Machine}
use Rattle.hub_messages.specs.declared.down.Down.{Down}
use Rattle.hub_messages.specs.declared.down.Down.TheVariants.{Started, Refused}
use Rattle.hub_messages.specs.declared.outcome.Refusal.TheVariants.{NotConnected, AlreadyConnected}
use Rattle.hub_messages.specs.declared.up.Up.{Up}
use Rattle.hub_messages.specs.declared.up.Up.TheVariants.{Start}
use Rattle.circuit_meaning.specs.Circuit.Batches.{MakesBatch}
use Rattle.circuit_meaning.specs.Circuit.State.{CircuitState, started}
use Rattle.circuit_meaning.specs.Circuit.Steps.{Step}
use Rattle.schedule_replay.specs.Line.State.{connection}

-- where there is no circuit
abbrev pub WithoutCircuit : {Tree : Type 0} (machine : Machine Tree) → machine.State → ℕ → Up → List Down → Option (CircuitState machine.State) → Type 0
WithoutCircuit machine stage window Start replies after =
    (batch : List Down) × (circuit : CircuitState machine.State)
    × (replies ≡ Started connection 0 ∷ batch) × MakesBatch machine (started stage window connection) batch circuit
    × (after ≡ Some circuit)
WithoutCircuit machine stage window message replies after = (replies ≡ Refused NotConnected ∷ []) × (after ≡ None)

-- where there is one
abbrev pub WithCircuit : {Tree : Type 0} (machine : Machine Tree) → CircuitState machine.State → Up → List Down → Option (CircuitState machine.State) → Type 0
WithCircuit machine before Start replies after = (replies ≡ Refused AlreadyConnected ∷ []) × (after ≡ Some before)
WithCircuit machine before message replies after =
    (circuit : CircuitState machine.State) × Step machine before connection message replies circuit × (after ≡ Some circuit)

-- a message on the connection; a circuit is made with this stage and this window
abbrev pub Serves : {Tree : Type 0} (machine : Machine Tree) → machine.State → ℕ → Option (CircuitState machine.State) → Up → List Down → Option (CircuitState machine.State) → Type 0
Serves machine stage window None message replies after = WithoutCircuit machine stage window message replies after
Serves machine stage window (Some circuit) message replies after = WithCircuit machine circuit message replies after
