-- What a screen answers.
use Rattle.std.specs.Prelude.{◌≢◌, ℕ, List, Option, Some, None, Result, Ok, Err}
use Rattle.page_core.specs.ByName.{value_of}
use Rattle.page_core.specs.Path.{node_at}
use Rattle.page_core.specs.declared.counts.Counts.{Counts}
use Rattle.page_core.specs.declared.faults.BatchFault.TheVariants as br
use Rattle.page_core.specs.declared.faults.ApplyFault.TheVariants as ap
use Rattle.page_core.specs.declared.node.Node.{Node, out-Node}
use Rattle.page_core.specs.declared.node.Node.TheOpen.{Node-F, Element, Text, Markup}
use Rattle.hub_messages.specs.declared.screen.At.{At}
use Rattle.hub_messages.specs.declared.screen.At.TheVariants.{NoNode, NoHandler, Handler}
use Rattle.hub_messages.specs.declared.screen.ScreenFault.{ScreenFault}
use Rattle.hub_messages.specs.declared.screen.ScreenFault.TheVariants.{Read, Apply, Oom}

-- a handler's id, or none
abbrev pub found_id : Option ℕ → At
found_id None = NoHandler
found_id (Some id) = Handler id

-- what a node of this layer has for an event; only elements have handlers
abbrev pub found_on : Node-F Node → List ℕ → At
found_on (Element born name attributes handlers children) event = found_id (value_of handlers event)
found_on (Text born text) event = NoNode
found_on (Markup born text) event = NoNode

-- what a node has for an event, where there is one
abbrev pub found_in : Option Node → List ℕ → At
found_in None event = NoNode
found_in (Some node) event = found_on (out-Node node) event

-- what stands at a path of a page for an event
abbrev pub found_at : List Node → List ℕ → List ℕ → At
found_at nodes path event = found_in (node_at nodes path) event

-- a batch is refused, and not for want of memory
abbrev pub IsRefusal : Result Counts ScreenFault → Type 0
IsRefusal (Ok counts) = ⊥
IsRefusal (Err (Read fault)) = Unit {0}
IsRefusal (Err (Apply fault)) = Unit {0}
IsRefusal (Err Oom) = ⊥

-- want of memory is answered as such, and not as a fault of the batch
abbrev pub IsNamed : Result Counts ScreenFault → Type 0
IsNamed (Ok counts) = Unit {0}
IsNamed (Err (Read fault)) = fault ≢ br.Oom
IsNamed (Err (Apply fault)) = fault ≢ ap.Oom
IsNamed (Err Oom) = Unit {0}

-- the relation takes a tree to none
abbrev pub HasNone : {Tree : Type 0} → (ℕ → List ℕ → Tree → Tree → Counts → Type 0) → ℕ → List ℕ → Tree → Type 0
HasNone {Tree} turns number bytes before = (after : Tree) (counts : Counts) → turns number bytes before after counts → ⊥
