-- How the code of a line represents its state.
use Rattle.std.specs.Prelude.{◌≡◌, ◌≤◌, ◌<◌, ℕ, List, [], ◌∷◌, ◌++◌, length, map, slice_get, Option, Some, None}
use Rattle.std.specs.List.{AllZip}
use Rattle.page_core.specs.declared.counts.Counts.{Counts}
use Rattle.page_core.specs.declared.node.Node.{Node}
use Rattle.hub_messages.specs.Spelling.Spells.{SpellsUp, SpellsDown}
use Rattle.hub_messages.specs.Stage.{Machine, IsFirst}
use Rattle.hub_messages.specs.declared.down.Down.{Down}
use Rattle.hub_messages.specs.declared.up.Up.{Up}
use Rattle.circuit_meaning.specs.Circuit.State.{CircuitState}
use Rattle.circuit_core.specs.Standing.{Stands}
use Rattle.client_core.specs.Standing.{browser_of}
use Rattle.schedule_replay.specs.declared.direct_line.message.Message.{Message as Bytes}
use Rattle.schedule_replay.specs.declared.direct_line.message.Message.TheVariants as bytes
use Rattle.schedule_replay.specs.declared.direct_line.server.Server.{Server}
use Rattle.schedule_replay.specs.declared.direct_line.server.Server.TheVariants.{Waiting, Serving}
use Rattle.schedule_replay.specs.declared.direct_line.state.Line.{Line}
use Rattle.schedule_replay.specs.Line.InStep.{IsInStep}
use Rattle.schedule_replay.specs.Line.State.{LineState, Message, upward, downward}
use Rattle.schedule_replay.specs.Line.Steps.{Ends, ends_of}

-- a stage that waits is in a first state
abbrev pub IsReady : {Stage Tree : Type 0} (machine : Machine Tree) → (Stage → machine.State → Type 0) → Server Stage Tree → Type 0
IsReady machine stands (Waiting stage) = IsFirst machine stands stage
IsReady machine stands (Serving circuit) = Unit {0}

-- a server stands for a circuit, or for none and a stage that waits in this first state
abbrev pub StandsServer : {Stage Tree : Type 0} (machine : Machine Tree) → (Stage → machine.State → Type 0) → machine.State → Server Stage Tree → Option (CircuitState machine.State) → Type 0
StandsServer machine stands first (Waiting stage) None = stands stage first
StandsServer machine stands first (Serving circuit) (Some state) = Stands stands circuit state
StandsServer machine stands first server circuit = ⊥

-- a server stands for what this relation leads to
abbrev pub Becomes : {Stage Tree : Type 0} (machine : Machine Tree) → (Stage → machine.State → Type 0) → machine.State → Server Stage Tree → (Option (CircuitState machine.State) → Type 0) → Type 0
Becomes machine stands first server leads_to =
    (after : Option (CircuitState machine.State)) × StandsServer machine stands first server after × leads_to after

-- bytes that spell a message of their direction
abbrev pub SpellsMessage : Bytes → Message → Type 0
SpellsMessage (bytes.Up spelled) (upward message) = SpellsUp spelled message
SpellsMessage (bytes.Down spelled) (downward message) = SpellsDown spelled message
SpellsMessage spelled message = ⊥

-- a line stands for a state in which the browser is in step
pub record StandsLine {Stage Screen Tree : Type 0} (ends : Ends Tree) (first : Tree) (stands : Stage → ends.machine.State → Type 0) (tree : Screen → Tree) (line : Line Stage Screen Tree) (state : LineState ends.machine.State Tree) : Type 0 where
  pub server : StandsServer ends.machine stands ends.stage line.server state.circuit
  pub browser : browser_of tree line.client ≡ state.browser
  pub messages : AllZip SpellsMessage line.messages.items state.messages
  pub delivered : line.delivered ≡ state.delivered
  pub steps : line.steps ≡ state.steps
  pub in_step : IsInStep ends first state

-- behind the messages before stand those that spell these replies
abbrev pub SpelledDown : List Bytes → List Down → List Bytes → Type 0
SpelledDown before replies after =
    (pieces : List (List ℕ)) × (after ≡ before ++ map bytes.Down pieces) × AllZip SpellsDown pieces replies

-- a line stands for what this step leads to, from each state that it stood for
abbrev pub Leads : {Stage Screen Tree : Type 0} (machine : Machine Tree) → (Stage → machine.State → Type 0) → Tree → (ℕ → List ℕ → Tree → Tree → Counts → Type 0) → (Tree → List Node) → (Screen → Tree)
    → Line Stage Screen Tree → Line Stage Screen Tree → ((ends : Ends Tree) → LineState ends.machine.State Tree → LineState ends.machine.State Tree → Type 0) → Type 0
Leads {Tree = Tree} machine stands first turns page tree before after Step =
    (stage : machine.State) → machine.First stage → (state : LineState machine.State Tree)
    → StandsLine (ends_of machine stage before.window turns page) first stands tree before state
    → (next : LineState machine.State Tree)
    × StandsLine (ends_of machine stage before.window turns page) first stands tree after next
    × (after.window ≡ before.window)
    × Step (ends_of machine stage before.window turns page) state next

-- the same, from states in which this message is next
abbrev pub LeadsWith : {Stage Screen Tree : Type 0} (machine : Machine Tree) → (Stage → machine.State → Type 0) → Tree → (ℕ → List ℕ → Tree → Tree → Counts → Type 0) → (Tree → List Node) → (Screen → Tree)
    → Message → Line Stage Screen Tree → Line Stage Screen Tree → ((ends : Ends Tree) → LineState ends.machine.State Tree → LineState ends.machine.State Tree → Type 0) → Type 0
LeadsWith {Tree = Tree} machine stands first turns page tree message before after Step =
    (stage : machine.State) → machine.First stage → (state : LineState machine.State Tree)
    → slice_get state.messages state.delivered ≡ Some message
    → StandsLine (ends_of machine stage before.window turns page) first stands tree before state
    → (next : LineState machine.State Tree)
    × StandsLine (ends_of machine stage before.window turns page) first stands tree after next
    × (after.window ≡ before.window)
    × Step (ends_of machine stage before.window turns page) state next

-- a line stands for some state
abbrev pub IsRunning : {Stage Screen Tree : Type 0} (machine : Machine Tree) → (Stage → machine.State → Type 0) → Tree → (ℕ → List ℕ → Tree → Tree → Counts → Type 0) → (Tree → List Node) → (Screen → Tree) → Line Stage Screen Tree → Type 0
IsRunning {Tree = Tree} machine stands first turns page tree line =
    (stage : machine.State) × machine.First stage × (state : LineState machine.State Tree)
    × StandsLine (ends_of machine stage line.window turns page) first stands tree line state

-- behind these lines stand those of this step
abbrev pub LeadsLines : {Stage Screen Tree : Type 0} (machine : Machine Tree) → (Stage → machine.State → Type 0) → Tree → (ℕ → List ℕ → Tree → Tree → Counts → Type 0) → (Tree → List Node) → (Screen → Tree)
    → Line Stage Screen Tree → Line Stage Screen Tree → List (List ℕ) → List (List ℕ) → ((ends : Ends Tree) → LineState ends.machine.State Tree → List (List ℕ) → LineState ends.machine.State Tree → Type 0) → Type 0
LeadsLines {Tree = Tree} machine stands first turns page tree before after old new Step =
    (stage : machine.State) → machine.First stage → (state : LineState machine.State Tree)
    → StandsLine (ends_of machine stage before.window turns page) first stands tree before state
    → (next : LineState machine.State Tree) × (more : List (List ℕ))
    × StandsLine (ends_of machine stage before.window turns page) first stands tree after next
    × (after.window ≡ before.window) × (new ≡ old ++ more)
    × Step (ends_of machine stage before.window turns page) state more next
