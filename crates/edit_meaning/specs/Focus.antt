-- Where edits act: a list of siblings, and all that stands round it.
use Rattle.std.specs.Prelude.{ℕ, List, []}
use Rattle.edit_meaning.specs.declared.entry.Entry.{Entry}
use Rattle.edit_meaning.specs.declared.level.Level.{Level}
use Rattle.edit_meaning.specs.declared.browser_node.BrowserNode.{BrowserNode}

-- the nodes of each component, by their numbers, which rise
abbrev pub Tree : Type 0
Tree = List (ℕ × List BrowserNode)

-- the siblings that edits act on, the elements round them from the inside out, the entries of a permutation that has not ended,
-- and the tree, in which the list that is edited stands as it was before
pub record Focus : Type 0 where
  pub here : List BrowserNode
  pub above : List Level
  pub entries : List Entry
  pub tree : Tree

-- at the root of a component's nodes
abbrev pub at_root : Tree → List BrowserNode → Focus
at_root tree nodes = record { here = nodes; above = []; entries = []; tree = tree }
