-- The state of a line and its two ends.
use Rattle.std.specs.Prelude.{ℕ, zero, suc, ◌+◌, ◌-◌, List, [], ◌∷◌, length, Option, None}
use Rattle.hub_messages.specs.declared.down.Down.{Down}
use Rattle.hub_messages.specs.declared.up.Up.{Up}
use Rattle.circuit_meaning.specs.Browser.State.{BrowserState, fresh_browser}
use Rattle.circuit_meaning.specs.Circuit.State.{CircuitState}

-- a message, by its direction
pub data Message : Type 0 where
  upward : Up → Message
  downward : Down → Message

-- every message that was ever sent, of which so many were delivered; the circuit is there once its start was delivered
pub record LineState (Stage Tree : Type 0) : Type 0 where
  pub steps : ℕ
  pub circuit : Option (CircuitState Stage)
  pub browser : BrowserState Tree
  pub messages : List Message
  pub delivered : ℕ

-- before the first step
abbrev pub first_line : {Stage Tree : Type 0} → Tree → LineState Stage Tree
first_line tree = record { steps = 0; circuit = None; browser = fresh_browser tree; messages = []; delivered = 0 }

-- the number of the connection, which is the circuit's number too
abbrev pub connection : ℕ
connection = 1

-- so many consecutive numbers, from the one behind this
abbrev pub numbers_after : ℕ → ℕ → List ℕ
numbers_after number zero = []
numbers_after number (suc count) = (number + 1) ∷ numbers_after (number + 1) count

-- the numbers behind the first up to the last
abbrev pub numbers_between : ℕ → ℕ → List ℕ
numbers_between first last = numbers_after first (last - first)

-- the numbers of the messages that one state has more than an earlier one
abbrev pub sent_between : {Stage Tree : Type 0} → LineState Stage Tree → LineState Stage Tree → List ℕ
sent_between before after = numbers_between (length before.messages) (length after.messages)
