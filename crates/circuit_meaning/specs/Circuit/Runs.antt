-- Messages one after another.
use Rattle.std.specs.Prelude.{◌≡◌, ◌≤◌, ℕ, ◌+◌, false, List, [], ◌∷◌, ◌++◌, None}
use Rattle.hub_messages.specs.Stage.{Machine}
use Rattle.hub_messages.specs.declared.down.Down.{Down}
use Rattle.hub_messages.specs.declared.outcome.Outcome.{Outcome}
use Rattle.hub_messages.specs.declared.up.Up.{Up}
use Rattle.circuit_meaning.specs.declared.circuit.CircuitStatus.{CircuitStatus}
use Rattle.circuit_meaning.specs.Circuit.State.{CircuitState, BatchRow}
use Rattle.circuit_meaning.specs.Circuit.Batches.{is_due}
use Rattle.circuit_meaning.specs.Circuit.Steps.{Step}

-- the steps of a circuit over messages, each on a connection
abbrev pub Run : {Tree : Type 0} (machine : Machine Tree) → CircuitState machine.State → List (ℕ × Up) → CircuitState machine.State → Type 0
Run machine before [] after = after ≡ before
Run machine before (message ∷ messages) after =
    (replies : List Down) × (between : CircuitState machine.State)
    × Step machine before message.0 message.1 replies between × Run machine between messages after

-- no batch is acknowledged that was not sent, and no more are sent ahead than the window holds
pub record IsWithinWindow (status : CircuitStatus) : Type 0 where
  pub acked : status.acked ≤ status.sent
  pub sent : status.sent ≤ status.acked + status.window

-- batches and outcomes are there for good: there are only more of them, and event numbers rise
pub record GoesOn {Stage : Type 0} (before after : CircuitState Stage) : Type 0 where
  pub batches : (more : List (BatchRow Stage)) × (after.batches ≡ before.batches ++ more)
  pub outcomes : (more : List Outcome) × (after.outcomes ≡ before.outcomes ++ more)
  pub last : before.status.last ≤ after.status.last
  pub window : after.status.window ≡ before.status.window

-- while the circuit runs no batch is due: nothing changed since the last one, or the window is full
abbrev pub IsCalm : {Tree : Type 0} (machine : Machine Tree) → CircuitState machine.State → Type 0
IsCalm machine state = state.status.ended ≡ None → is_due state.status (machine.is_dirty state.stage) ≡ false
