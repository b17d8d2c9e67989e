-- What a batch makes of a tree, or the fault of the first edit that has one.
use Rattle.std.specs.Prelude.{ℕ, Bool, if◌then◌else◌, List, [], ◌∷◌, Option, Some, None, Result, Ok, Err}
use Rattle.std.specs.Ordering.{nat_cmp}
use Rattle.std.specs.Map.{remove_entry}
use Rattle.std.specs.BTreeMap.{insert_entry, is_at}
use Rattle.frame_core.specs.declared.edit.Edit.{Edit}
use Rattle.frame_core.specs.declared.batch.EditList.{EditList}
use Rattle.frame_core.specs.Batch.{Changes}
use Rattle.page_core.specs.declared.faults.ApplyFault.{ApplyFault}
use Rattle.page_core.specs.declared.faults.ApplyFault.TheVariants.{NoComponent, Unbalanced}
use Rattle.edit_meaning.specs.declared.browser_node.BrowserNode.{BrowserNode}
use Rattle.edit_meaning.specs.declared.entry.Entry.{Entry}
use Rattle.edit_meaning.specs.declared.level.Level.{Level}
use Rattle.edit_meaning.specs.Focus.{Tree, Focus, at_root}
use Rattle.edit_meaning.specs.Edits.{nodes_of, has_component, and_then, all_edited}

-- before the first batch: component 1, with nothing in it
abbrev pub first_tree : Tree
first_tree = (1, []) ∷ []

-- the tree once the edits of a component's list are done: no element and no permutation is open
abbrev pub closed : ℕ → Focus → List Level → List Entry → Result Tree ApplyFault
closed component focus [] [] = Ok (insert_entry nat_cmp focus.tree component focus.here)
closed component focus [] (entry ∷ entries) = Err Unbalanced
closed component focus (level ∷ levels) entries = Err Unbalanced

abbrev pub put_back : ℕ → Focus → Result Tree ApplyFault
put_back component focus = closed component focus focus.above focus.entries

abbrev pub list_edited_at : ℕ → EditList → Tree → Option (List BrowserNode) → Result Tree ApplyFault
list_edited_at batch list tree None = Err NoComponent
list_edited_at batch list tree (Some nodes) = and_then (all_edited batch list.edits (at_root tree nodes)) (put_back list.component)

-- the edits of one list
abbrev pub list_edited : ℕ → EditList → Tree → Result Tree ApplyFault
list_edited batch list tree = list_edited_at batch list tree (nodes_of tree list.component)

-- one list after the other
abbrev pub lists_edited : ℕ → List EditList → Tree → Result Tree ApplyFault
lists_edited batch [] tree = Ok tree
lists_edited batch (list ∷ lists) tree = and_then (list_edited batch list tree) (lists_edited batch lists)

-- a component is forgotten, where the tree has it
abbrev pub forgotten : ℕ → Tree → Result Tree ApplyFault
forgotten number tree = if has_component tree number then Ok (remove_entry (is_at (nat_cmp number)) tree) else Err NoComponent

-- one after the other
abbrev pub all_forgotten : List ℕ → Tree → Result Tree ApplyFault
all_forgotten [] tree = Ok tree
all_forgotten (number ∷ numbers) tree = and_then (forgotten number tree) (all_forgotten numbers)

-- the tree after the batch of this number: all its lists, and then the components that go
abbrev pub after_batch : ℕ → Changes → Tree → Result Tree ApplyFault
after_batch batch changes tree = and_then (lists_edited batch changes.lists tree) (all_forgotten changes.components)
