-- The state of a browser.
use Rattle.std.specs.Prelude.{ℕ, ◌+◌, ◌-◌, Bool, true, false, ◌&&◌, ◌==◌, nat_lt, nat_le, List, [], ◌∷◌, Option, Some, None, if◌then◌else◌}
use Rattle.circuit_meaning.specs.declared.browser.BrowserStatus.{BrowserStatus}
use Rattle.circuit_meaning.specs.declared.browser.UnansweredEvent.{UnansweredEvent}

-- the tree that it shows, and the events that are not answered, by rising numbers
pub record BrowserState (Tree : Type 0) : Type 0 where
  pub tree : Tree
  pub status : BrowserStatus
  pub unanswered : List UnansweredEvent

-- a browser that knows no circuit
abbrev pub fresh_browser : {Tree : Type 0} → Tree → BrowserState Tree
fresh_browser tree = record {
  tree = tree;
  status = record { connection = None; opened = false; circuit = None; applied = 0; asked = 0; over = false };
  unanswered = [];
}

-- whether this is the present connection
abbrev pub is_present : Option ℕ → ℕ → Bool
is_present None connection = false
is_present (Some present) connection = present == connection

-- all events up to this one are answered
abbrev pub answered_up_to : ℕ → List UnansweredEvent → ℕ
answered_up_to asked [] = asked
answered_up_to asked (event ∷ events) = event.number - 1

abbrev pub got_of : {Tree : Type 0} → BrowserState Tree → ℕ
got_of state = answered_up_to state.status.asked state.unanswered

-- whether an event of this number is unanswered
abbrev pub is_unanswered : ℕ → List UnansweredEvent → Bool
is_unanswered number [] = false
is_unanswered number (event ∷ events) = if event.number == number then true else is_unanswered number events

-- the events but the one of this number
abbrev pub without : ℕ → List UnansweredEvent → List UnansweredEvent
without number [] = []
without number (event ∷ events) = if event.number == number then events else event ∷ without number events

-- whether an event of this number was ever sent
abbrev pub was_asked : ℕ → ℕ → Bool
was_asked asked number = nat_lt 0 number && nat_le number asked
