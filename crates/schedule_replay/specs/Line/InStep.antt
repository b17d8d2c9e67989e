-- What holds after every step: the browser shows the tree of the batch that it applied last.
use Rattle.std.specs.Prelude.{◌≡◌, ◌≤◌, ℕ, ◌+◌, List, length, slice_get, Option, Some, None}
use Rattle.hub_messages.specs.Stage.{Machine}
use Rattle.hub_messages.specs.declared.answer.Got.{Got}
use Rattle.hub_messages.specs.declared.answer.Got.TheVariants.{Applied}
use Rattle.hub_messages.specs.declared.down.Down.{Down}
use Rattle.hub_messages.specs.declared.down.Down.TheVariants as down
use Rattle.circuit_meaning.specs.Circuit.State.{BatchRow, CircuitState}
use Rattle.schedule_replay.specs.Every.{Every}
use Rattle.schedule_replay.specs.Line.Lines.{batch_row, rows_of}
use Rattle.schedule_replay.specs.Line.State.{LineState, Message, upward, downward}
use Rattle.schedule_replay.specs.Line.Steps.{Ends}

-- the tree that a batch led to, or the first
abbrev pub tree_of : {Tree : Type 0} (machine : Machine Tree) → Tree → Option (BatchRow machine.State) → Tree
tree_of machine first None = first
tree_of machine first (Some row) = machine.tree row.stage

-- the tree of a browser that has applied batches up to this one
abbrev pub tree_after : {Tree : Type 0} (machine : Machine Tree) → Tree → List (BatchRow machine.State) → ℕ → Tree
tree_after machine first rows number = tree_of machine first (batch_row rows number)

-- each batch turns the tree before it into its own, with its counts
abbrev pub Chains : {Tree : Type 0} (ends : Ends Tree) → Tree → List (BatchRow ends.machine.State) → Type 0
Chains ends first rows =
    (place : ℕ) (row : BatchRow ends.machine.State) → slice_get rows place ≡ Some row
    → ends.turns (place + 1) row.bytes (tree_after ends.machine first rows place) (ends.machine.tree row.stage) (ends.machine.counts row.stage)

-- each batch fits a message
abbrev pub AreShort : {Stage : Type 0} → List (BatchRow Stage) → Type 0
AreShort {Stage} rows = (place : ℕ) (row : BatchRow Stage) → slice_get rows place ≡ Some row → length row.bytes ≤ 33554368

-- the batches of a circuit turn one tree into the next, and while it runs its stage has made them all
pub record IsSound {Tree : Type 0} (ends : Ends Tree) (first : Tree) (circuit : CircuitState ends.machine.State) : Type 0 where
  pub chain : Chains ends first circuit.batches
  pub short : AreShort circuit.batches
  pub sent : circuit.status.sent ≡ length circuit.batches
  pub made : circuit.status.ended ≡ None → ends.machine.made circuit.stage ≡ length circuit.batches
  pub tree : circuit.status.ended ≡ None → ends.machine.tree circuit.stage ≡ tree_after ends.machine first circuit.batches (length circuit.batches)

-- where there is a circuit, it is sound
abbrev pub IsSoundIf : {Tree : Type 0} (ends : Ends Tree) → Tree → Option (CircuitState ends.machine.State) → Type 0
IsSoundIf ends first None = Unit {0}
IsSoundIf ends first (Some circuit) = IsSound ends first circuit

-- a reply fits a message
abbrev pub IsShortReply : Down → Type 0
IsShortReply (down.Batch number bytes) = length bytes ≤ 33554368
IsShortReply reply = Unit {0}

-- a message with a batch carries the bytes of the batch of that number
abbrev pub IsOf : {Stage : Type 0} → List (BatchRow Stage) → Down → Type 0
IsOf {Stage} rows (down.Batch number bytes) = (row : BatchRow Stage) × (batch_row rows number ≡ Some row) × (row.bytes ≡ bytes)
IsOf rows message = Unit {0}

abbrev pub IsOfLine : {Stage : Type 0} → List (BatchRow Stage) → Message → Type 0
IsOfLine rows (upward message) = Unit {0}
IsOfLine rows (downward message) = IsOf rows message

pub record IsInStep {Tree : Type 0} (ends : Ends Tree) (first : Tree) (line : LineState ends.machine.State Tree) : Type 0 where
  pub circuit : IsSoundIf ends first line.circuit
  pub messages : Every (IsOfLine (rows_of line.circuit)) line.messages
  pub applied : line.browser.status.applied ≤ length (rows_of line.circuit)
  pub shown : line.browser.tree ≡ tree_after ends.machine first (rows_of line.circuit) line.browser.status.applied

-- where the browser applied a batch, it was one of these, with its counts, and the browser shows its tree
abbrev pub IsBatchOf : {Tree : Type 0} (machine : Machine Tree) → List (BatchRow machine.State) → Tree → Got → Type 0
IsBatchOf machine rows tree (Applied number counts) =
    (row : BatchRow machine.State) × (batch_row rows number ≡ Some row) × (counts ≡ machine.counts row.stage) × (tree ≡ machine.tree row.stage)
IsBatchOf machine rows tree got = Unit {0}
