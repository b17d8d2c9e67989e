-- What an edit makes of the list that it acts on, or the fault that it has.
use Rattle.std.specs.Prelude.{ℕ, ◌<◌, nat_lt, nat_le, Bool, true, false, ◌&&◌, ◌||◌, if◌then◌else◌, List, [], ◌∷◌, ◌++◌, length, slice_get, slice_set, is_some, Option, Some, None, Result, Ok, Err}
use Rattle.std.specs.List.{insert, remove}
use Rattle.std.specs.Ordering.{nat_cmp}
use Rattle.std.specs.Map.{lookup}
use Rattle.std.specs.BTreeMap.{insert_entry, is_at}
use Rattle.frame_core.specs.declared.wire_node.WireNode.{WireNode}
use Rattle.frame_core.specs.declared.wire_node.WireAttribute.{WireAttribute}
use Rattle.frame_core.specs.declared.edit.Edit.{Edit}
use Rattle.frame_core.specs.declared.edit.Edit.TheVariants.{Prepend, Remove, Set, Unset, UpdateText, StepIn, StepOut, UpdateMarkup, Move, MoveEnd}
use Rattle.page_core.specs.declared.faults.ApplyFault.{ApplyFault}
use Rattle.page_core.specs.declared.faults.ApplyFault.TheVariants.{NoComponent, NoSibling, NotElement, NotText, NoAttribute, BadPermutation, Unbalanced}
use Rattle.edit_meaning.specs.declared.browser_node.BrowserNode.{BrowserNode}
use Rattle.edit_meaning.specs.declared.browser_node.BrowserNode.TheViews.{out-BrowserNode}
use Rattle.edit_meaning.specs.declared.browser_node.BrowserNode.TheOpen.{BrowserNode-F, Element, Text, Markup, Component}
use Rattle.edit_meaning.specs.declared.browser_node.BrowserNode.TheVariants as node
use Rattle.edit_meaning.specs.Attributes.{set_under, has_name, unset_under}
use Rattle.edit_meaning.specs.Made.{made, components_in}
use Rattle.edit_meaning.specs.Permutations.{moved, is_apart, is_closed}
use Rattle.edit_meaning.specs.Focus.{Tree, Focus}
use Rattle.edit_meaning.specs.declared.entry.Entry.{Entry}
use Rattle.edit_meaning.specs.declared.level.Level.{Level}

-- what an edit gives
abbrev pub Edited : Type 0
Edited = Result Focus ApplyFault

-- the nodes of a component, where the tree has it
abbrev pub nodes_of : Tree → ℕ → Option (List BrowserNode)
nodes_of tree number = lookup (is_at (nat_cmp number)) tree

abbrev pub has_component : Tree → ℕ → Bool
has_component tree number = is_some (nodes_of tree number)

abbrev pub and_then : {X Y : Type 0} → Result X ApplyFault → (X → Result Y ApplyFault) → Result Y ApplyFault
and_then (Ok value) next = next value
and_then (Err fault) next = Err fault

-- the tree with one more component, which is empty; it must not have it
abbrev pub with_component : ℕ → Tree → Result Tree ApplyFault
with_component number tree = if has_component tree number then Err NoComponent else Ok (insert_entry nat_cmp tree number [])

-- one after the other
abbrev pub with_components : List ℕ → Tree → Result Tree ApplyFault
with_components [] tree = Ok tree
with_components (number ∷ numbers) tree = and_then (with_component number tree) (with_components numbers)

-- a node is put in before the sibling, or behind all
abbrev pub prepended : ℕ → ℕ → WireNode → Focus → Result Tree ApplyFault → Edited
prepended batch sibling wire focus (Err fault) = Err fault
prepended batch sibling wire focus (Ok tree) =
    if nat_lt (length focus.here) sibling then Err NoSibling
    else Ok (record { here = insert focus.here sibling (made batch wire); above = focus.above; entries = focus.entries; tree = tree })

abbrev pub removed : ℕ → Focus → Edited
removed sibling focus = if nat_lt sibling (length focus.here) then Ok (record focus { here = remove focus.here sibling }) else Err NoSibling

-- what is made of the node at a place, where one stands there, takes its place
abbrev pub put : ℕ → Focus → Result BrowserNode ApplyFault → Edited
put sibling focus (Ok changed) = Ok (record focus { here = slice_set focus.here sibling changed })
put sibling focus (Err fault) = Err fault

abbrev pub changed_at : ℕ → Focus → (BrowserNode-F BrowserNode → Result BrowserNode ApplyFault) → Option BrowserNode → Edited
changed_at sibling focus change None = Err NoSibling
changed_at sibling focus change (Some found) = put sibling focus (change (out-BrowserNode found))

abbrev pub changed : ℕ → Focus → (BrowserNode-F BrowserNode → Result BrowserNode ApplyFault) → Edited
changed sibling focus change = changed_at sibling focus change (slice_get focus.here sibling)

abbrev pub with_attribute : WireAttribute → BrowserNode-F BrowserNode → Result BrowserNode ApplyFault
with_attribute attribute (Element born name names children) = Ok (node.Element born name (set_under names attribute) children)
with_attribute attribute (Text born text) = Err NotElement
with_attribute attribute (Markup born text) = Err NotElement
with_attribute attribute (Component number) = Err NotElement

abbrev pub without_attribute : List ℕ → BrowserNode-F BrowserNode → Result BrowserNode ApplyFault
without_attribute name (Element born tag names children) =
    if has_name names name then Ok (node.Element born tag (unset_under names name) children) else Err NoAttribute
without_attribute name (Text born text) = Err NotElement
without_attribute name (Markup born text) = Err NotElement
without_attribute name (Component number) = Err NotElement

abbrev pub with_text : List ℕ → BrowserNode-F BrowserNode → Result BrowserNode ApplyFault
with_text text (Text born old) = Ok (node.Text born text)
with_text text (Element born name names children) = Err NotText
with_text text (Markup born old) = Err NotText
with_text text (Component number) = Err NotText

abbrev pub with_markup : List ℕ → BrowserNode-F BrowserNode → Result BrowserNode ApplyFault
with_markup text (Markup born old) = Ok (node.Markup born text)
with_markup text (Element born name names children) = Err NotText
with_markup text (Text born old) = Err NotText
with_markup text (Component number) = Err NotText

-- the element at a place is gone into: its children are edited
abbrev pub entered : ℕ → Focus → BrowserNode-F BrowserNode → Edited
entered sibling focus (Element born name names children) = Ok (record {
  here = children;
  above = record { siblings = remove focus.here sibling; place = sibling; born = born; name = name; names = names } ∷ focus.above;
  entries = focus.entries;
  tree = focus.tree;
})
entered sibling focus (Text born text) = Err NotElement
entered sibling focus (Markup born text) = Err NotElement
entered sibling focus (Component number) = Err NotElement

abbrev pub entered_at : ℕ → Focus → Option BrowserNode → Edited
entered_at sibling focus None = Err NoSibling
entered_at sibling focus (Some found) = entered sibling focus (out-BrowserNode found)

-- the element stands among its siblings again, with the children that it has now
abbrev pub left : Focus → List Level → Edited
left focus [] = Err Unbalanced
left focus (level ∷ levels) = Ok (record {
  here = insert level.siblings level.place (node.Element level.born level.name level.names focus.here);
  above = levels;
  entries = focus.entries;
  tree = focus.tree;
})

-- an entry more; both its places are within the list
abbrev pub entry_taken : Entry → Focus → Edited
entry_taken entry focus =
    if nat_lt entry.from (length focus.here) && nat_lt entry.to (length focus.here)
    then (if is_apart entry focus.entries then Ok (record focus { entries = focus.entries ++ entry ∷ [] }) else Err BadPermutation)
    else Err NoSibling

abbrev pub permuted : Focus → Edited
permuted focus = if is_closed focus.entries then Ok (record focus { here = moved focus.entries focus.here; entries = [] }) else Err BadPermutation

-- what the edit makes of the list
abbrev pub acted : ℕ → Edit → Focus → Edited
acted batch (Prepend sibling wire) focus = prepended batch sibling wire focus (with_components (components_in wire) focus.tree)
acted batch (Remove sibling) focus = removed sibling focus
acted batch (Set sibling attribute) focus = changed sibling focus (with_attribute attribute)
acted batch (Unset sibling name) focus = changed sibling focus (without_attribute name)
acted batch (UpdateText sibling text) focus = changed sibling focus (with_text text)
acted batch (StepIn sibling) focus = entered_at sibling focus (slice_get focus.here sibling)
acted batch StepOut focus = left focus focus.above
acted batch (UpdateMarkup sibling text) focus = changed sibling focus (with_markup text)
acted batch (Move from to) focus = entry_taken (record { from = from; to = to }) focus
acted batch MoveEnd focus = permuted focus

-- whether the edit may stand behind these entries of an open permutation: only an entry goes on, and only its end ends it
abbrev pub goes_on : Edit → List Entry → Bool
goes_on edit [] = true
goes_on (Move from to) (entry ∷ entries) = true
goes_on MoveEnd (entry ∷ entries) = true
goes_on (Prepend sibling wire) (entry ∷ entries) = false
goes_on (Remove sibling) (entry ∷ entries) = false
goes_on (Set sibling attribute) (entry ∷ entries) = false
goes_on (Unset sibling name) (entry ∷ entries) = false
goes_on (UpdateText sibling text) (entry ∷ entries) = false
goes_on (StepIn sibling) (entry ∷ entries) = false
goes_on StepOut (entry ∷ entries) = false
goes_on (UpdateMarkup sibling text) (entry ∷ entries) = false

-- what the edit gives
abbrev pub edited : ℕ → Edit → Focus → Edited
edited batch edit focus = if goes_on edit focus.entries then acted batch edit focus else Err BadPermutation

-- one edit after the other
abbrev pub all_edited : ℕ → List Edit → Focus → Edited
all_edited batch [] focus = Ok focus
all_edited batch (edit ∷ edits) focus = and_then (edited batch edit focus) (all_edited batch edits)
