-- The atomic steps of a line, each with its line of the transcript.
use Rattle.std.specs.Prelude.{◌≡◌, ℕ, zero, suc, ◌+◌, List, [], ◌∷◌, ◌++◌, codes, length, map, nat_lt, slice_get, Option, Some, None}
use Rattle.page_core.specs.declared.counts.Counts.{Counts}
use Rattle.page_core.specs.declared.node.Node.{Node}
use Rattle.hub_messages.specs.Screen.{found_at}
use Rattle.hub_messages.specs.Stage.{Machine}
use Rattle.hub_messages.specs.declared.answer.Asked.{Asked}
use Rattle.hub_messages.specs.declared.answer.Got.{Got}
use Rattle.hub_messages.specs.declared.down.Down.{Down}
use Rattle.hub_messages.specs.declared.up.Up.{Up}
use Rattle.circuit_meaning.specs.Browser.Asks.{Asks}
use Rattle.circuit_meaning.specs.Browser.Greeting.{Connects}
use Rattle.circuit_meaning.specs.Browser.Receives.{Receives, Where}
use Rattle.circuit_meaning.specs.Browser.State.{BrowserState}
use Rattle.circuit_meaning.specs.Circuit.State.{CircuitState}
use Rattle.schedule_replay.specs.Line.Lines.{exchange_text, line_text, user_text, ShowsAnswer}
use Rattle.schedule_replay.specs.Line.Server.{Serves}
use Rattle.schedule_replay.specs.Line.State.{LineState, Message, upward, downward, connection, sent_between}
use Rattle.schedule_replay.specs.Texts.{asked_text, numbered}

-- what both ends are made of: the trees with their pages and batches, the stage's machine with the state in which it begins, and the window
pub record Ends (Tree : Type 0) : Type 1 where
  pub machine : Machine Tree
  pub stage : machine.State
  pub window : ℕ
  pub turns : ℕ → List ℕ → Tree → Tree → Counts → Type 0
  pub page : Tree → List Node

-- both ends, as the traits name them
abbrev pub ends_of : {Tree : Type 0} (machine : Machine Tree) → machine.State → ℕ → (ℕ → List ℕ → Tree → Tree → Counts → Type 0) → (Tree → List Node) → Ends Tree
ends_of machine stage window turns page = record { machine = machine; stage = stage; window = window; turns = turns; page = page }

-- the browser takes a connection
abbrev pub OpenStep : {Tree : Type 0} (ends : Ends Tree) → LineState ends.machine.State Tree → List ℕ → LineState ends.machine.State Tree → Type 0
OpenStep {Tree} ends before line after =
    (ups : List Up) × (browser : BrowserState Tree) × Connects before.browser connection ups browser
    × (after ≡ record before { steps = before.steps + 1; browser = browser; messages = before.messages ++ map upward ups })
    × (line ≡ line_text after.steps (codes "open 0") (numbered (codes "connection") connection) (sent_between before after) None)

-- an event of this name at the end of a path
abbrev pub UserStep : {Tree : Type 0} (ends : Ends Tree) → List ℕ → List ℕ → LineState ends.machine.State Tree → List ℕ → LineState ends.machine.State Tree → Type 0
UserStep {Tree} ends path event before line after =
    (asked : Asked) × (ups : List Up) × (browser : BrowserState Tree)
    × Asks (λ tree. found_at (ends.page tree) path event) event None before.browser asked ups browser
    × (after ≡ record before { steps = before.steps + 1; browser = browser; messages = before.messages ++ map upward ups })
    × (line ≡ line_text after.steps (user_text path event) (asked_text asked) (sent_between before after) None)

-- a message is delivered to the server
abbrev pub DeliverUp : {Tree : Type 0} (ends : Ends Tree) → Up → LineState ends.machine.State Tree → List ℕ → LineState ends.machine.State Tree → Type 0
DeliverUp ends message before line after =
    (replies : List Down) × (circuit : Option (CircuitState ends.machine.State))
    × Serves ends.machine ends.stage ends.window before.circuit message replies circuit
    × (after ≡ record before { steps = before.steps + 1; circuit = circuit; messages = before.messages ++ map downward replies; delivered = before.delivered + 1 })
    × (line ≡ line_text after.steps (numbered (codes "deliver") after.delivered) (exchange_text message replies) (sent_between before after) None)

-- a message is delivered to the browser
abbrev pub DeliverDown : {Tree : Type 0} (ends : Ends Tree) → Down → LineState ends.machine.State Tree → List ℕ → LineState ends.machine.State Tree → Type 0
DeliverDown {Tree} ends message before line after =
    (got : Got) × (ups : List Up) × (browser : BrowserState Tree) × (answer : List ℕ) × (shown : Option (List Node))
    × Receives ends.turns connection message before.browser got ups browser
    × (after ≡ record before { steps = before.steps + 1; browser = browser; messages = before.messages ++ map upward ups; delivered = before.delivered + 1 })
    × ShowsAnswer ends.machine ends.page before.circuit got answer shown
    × (line ≡ line_text after.steps (numbered (codes "deliver") after.delivered) answer (sent_between before after) shown)

-- the message that is next is delivered
abbrev pub Delivers : {Tree : Type 0} (ends : Ends Tree) → Option Message → LineState ends.machine.State Tree → List ℕ → LineState ends.machine.State Tree → Type 0
Delivers ends None before line after = ⊥
Delivers ends (Some (upward message)) before line after = DeliverUp ends message before line after
Delivers ends (Some (downward message)) before line after = DeliverDown ends message before line after

-- so many messages are delivered, or all that are fresh
abbrev pub Flows : {Tree : Type 0} (ends : Ends Tree) → ℕ → LineState ends.machine.State Tree → List (List ℕ) → LineState ends.machine.State Tree → Type 0
Flows ends zero before lines after = (lines ≡ []) × (after ≡ before)
Flows {Tree} ends (suc count) before lines after =
    Where (nat_lt before.delivered (length before.messages))
    ((line : List ℕ) × (more : List (List ℕ)) × (next : LineState ends.machine.State Tree)
    × Delivers ends (slice_get before.messages before.delivered) before line next
    × Flows ends count next more after × (lines ≡ line ∷ more))
    ((lines ≡ []) × (after ≡ before))
