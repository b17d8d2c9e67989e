-- The lines of steps.
use Rattle.std.specs.Prelude.{◌≡◌, ℕ, ◌-◌, List, [], ◌∷◌, ◌++◌, codes, slice_get, Option, Some, None, ◌==◌, if◌then◌else◌}
use Rattle.std.specs.Fmt.{decimal}
use Rattle.page_core.specs.Print.{nodes_text}
use Rattle.page_core.specs.declared.node.Node.{Node}
use Rattle.hub_messages.specs.Stage.{Machine}
use Rattle.hub_messages.specs.declared.answer.Got.{Got}
use Rattle.hub_messages.specs.declared.answer.Got.TheVariants.{Applied}
use Rattle.hub_messages.specs.declared.down.Down.{Down}
use Rattle.hub_messages.specs.declared.up.Up.{Up}
use Rattle.circuit_meaning.specs.Circuit.State.{BatchRow, CircuitState}
use Rattle.schedule_replay.specs.Texts.{answer_text, applied_text, escaped, listed, path_text, replies_text, up_text}

-- the numbers of the messages that a step sent
abbrev pub sent_text : List ℕ → List ℕ
sent_text [] = []
sent_text (number ∷ numbers) = codes "; sent " ++ listed (codes " ") decimal (number ∷ numbers)

-- a page that is shown
abbrev pub page_text : Option (List Node) → List ℕ
page_text None = []
page_text (Some nodes) = codes "; page " ++ escaped (nodes_text nodes)

-- the line of a step: its number, the step, what came of it, the messages sent, and the page where a batch was applied
abbrev pub line_text : ℕ → List ℕ → List ℕ → List ℕ → Option (List Node) → List ℕ
line_text number step result sent page =
    decimal number ++ codes " " ++ step ++ codes ": " ++ result ++ sent_text sent ++ page_text page

-- an event of this name at the end of a path
abbrev pub user_text : List ℕ → List ℕ → List ℕ
user_text path event = codes "user 0 " ++ escaped event ++ codes " " ++ path_text path

-- a message from the browser, and the replies of the server
abbrev pub exchange_text : Up → List Down → List ℕ
exchange_text message replies = up_text message ++ codes " -> " ++ replies_text replies

-- the batches that a circuit has made
abbrev pub rows_of : {Stage : Type 0} → Option (CircuitState Stage) → List (BatchRow Stage)
rows_of None = []
rows_of (Some circuit) = circuit.batches

-- the batch of this number, where it was made
abbrev pub batch_row : {Stage : Type 0} → List (BatchRow Stage) → ℕ → Option (BatchRow Stage)
batch_row rows number = if number == 0 then None else slice_get rows (number - 1)

-- what stands in the line for a batch that was applied: the counts of its rendering, and the page of the stage when it was made
abbrev pub ShowsBatch : {Tree : Type 0} (machine : Machine Tree) → (Tree → List Node) → Option (CircuitState machine.State) → ℕ → List ℕ → Option (List Node) → Type 0
ShowsBatch machine page circuit number answer shown =
    (row : BatchRow machine.State) × (batch_row (rows_of circuit) number ≡ Some row)
    × (answer ≡ applied_text number (machine.counts row.stage))
    × (shown ≡ Some (page (machine.tree row.stage)))

-- the page is shown where a batch was applied
abbrev pub shown_after : Got → List Node → Option (List Node)
shown_after (Applied number counts) page = Some page
shown_after got page = None

-- what stands in the line for an answer of the browser
abbrev pub ShowsAnswer : {Tree : Type 0} (machine : Machine Tree) → (Tree → List Node) → Option (CircuitState machine.State) → Got → List ℕ → Option (List Node) → Type 0
ShowsAnswer machine page circuit (Applied number counts) answer shown = ShowsBatch machine page circuit number answer shown
ShowsAnswer machine page circuit got answer shown = (answer ≡ answer_text got) × (shown ≡ None)
