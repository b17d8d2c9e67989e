-- What a browser sends on a connection, new or again.
use Rattle.std.specs.Prelude.{◌≡◌, ℕ, Bool, true, false, List, [], ◌∷◌, map, Option, Some, None, is_some}
use Rattle.hub_messages.specs.declared.up.Up.{Up}
use Rattle.hub_messages.specs.declared.up.Up.TheVariants.{Start, Connect, Event, Ack}
use Rattle.circuit_meaning.specs.declared.browser.CircuitKey.{CircuitKey}
use Rattle.circuit_meaning.specs.declared.browser.UnansweredEvent.{UnansweredEvent}
use Rattle.circuit_meaning.specs.Browser.State.{BrowserState, got_of}

-- a browser that knows no circuit starts one, another is back at its own
abbrev pub greeting_of : Option CircuitKey → ℕ → ℕ → Up
greeting_of None applied got = Start
greeting_of (Some circuit) applied got = Connect circuit.number circuit.secret applied got

-- the first message on a connection
abbrev pub greeting : {Tree : Type 0} → BrowserState Tree → Up
greeting state = greeting_of state.status.circuit state.status.applied (got_of state)

-- an event, with what is answered by now
abbrev pub event_message : ℕ → UnansweredEvent → Up
event_message got event = Event event.number event.handler got event.name event.text

-- events, each with what is answered by now
abbrev pub event_messages : ℕ → List UnansweredEvent → List Up
event_messages got events = map (event_message got) events

-- the unanswered events, once more
abbrev pub events_again : {Tree : Type 0} → BrowserState Tree → List Up
events_again state = event_messages (got_of state) state.unanswered

-- what is applied, and which events are answered
abbrev pub acknowledgement : {Tree : Type 0} → BrowserState Tree → Up
acknowledgement state = Ack state.status.applied (got_of state)

-- what a browser sends again: nothing without a connection, its greeting before the connection is open
abbrev pub sent_again : {Tree : Type 0} → Option ℕ → Bool → BrowserState Tree → List Up
sent_again None opened state = []
sent_again (Some connection) false state = greeting state ∷ []
sent_again (Some connection) true state = acknowledgement state ∷ events_again state

-- a new connection, which is not open yet
abbrev pub Connects : {Tree : Type 0} → BrowserState Tree → ℕ → List Up → BrowserState Tree → Type 0
Connects before connection ups after =
    (ups ≡ greeting before ∷ []) × (after ≡ record before { status = record before.status { connection = Some connection; opened = false } })

-- the browser says again what may be lost
abbrev pub Retries : {Tree : Type 0} → BrowserState Tree → List Up → BrowserState Tree → Type 0
Retries before ups after = (ups ≡ sent_again before.status.connection before.status.opened before) × (after ≡ before)

-- the connection is given up; the answer is whether there was one
abbrev pub Cuts : {Tree : Type 0} → BrowserState Tree → Bool → BrowserState Tree → Type 0
Cuts before answer after =
    (answer ≡ is_some before.status.connection) × (after ≡ record before { status = record before.status { connection = None; opened = false } })
