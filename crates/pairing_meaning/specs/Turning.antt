-- What edits do, by their meaning, to the nodes that show a rendering.
use Rattle.std.specs.Prelude.{◌≡◌, ℕ, List, [], Option, Ok}
use Rattle.std.specs.List.{flat_map}
use Rattle.frame_core.specs.declared.item.Item.{Item}
use Rattle.frame_core.specs.declared.edit.Edit.{Edit}
use Rattle.frame_core.specs.declared.edit.Edit.TheVariants.{Prepend, Remove, Set, Unset, UpdateText, StepIn, StepOut, UpdateMarkup, Move, MoveEnd}
use Rattle.edit_meaning.specs.declared.browser_node.BrowserNode.{BrowserNode}
use Rattle.edit_meaning.specs.declared.level.Level.{Level}
use Rattle.edit_meaning.specs.Made.{components_in}
use Rattle.edit_meaning.specs.Focus.{Tree, Focus}
use Rattle.edit_meaning.specs.Edits.{with_components, all_edited}
use Rattle.pairing_meaning.specs.Slots.{slots_of}
use Rattle.pairing_meaning.specs.Births.{ShowEach, TellsSlots, Places}
use Rattle.pairing_meaning.specs.Wires.{wires_of}

-- the components that an edit puts in
abbrev pub put_in : Edit → List ℕ
put_in (Prepend sibling wire) = components_in wire
put_in (Remove sibling) = []
put_in (Set sibling attribute) = []
put_in (Unset sibling name) = []
put_in (UpdateText sibling text) = []
put_in (StepIn sibling) = []
put_in StepOut = []
put_in (UpdateMarkup sibling text) = []
put_in (Move from to) = []
put_in MoveEnd = []

abbrev pub all_put_in : List Edit → List ℕ
all_put_in edits = flat_map put_in edits

-- at siblings, with this round them, and no permutation open
abbrev pub focused : List BrowserNode → List Level → Tree → Focus
focused nodes above tree = record { here = nodes; above = above; entries = []; tree = tree }

-- the edits make the new siblings of the old ones, whatever stands round them, in each tree that can take the components that they put in
abbrev pub Turns : ℕ → List Edit → List BrowserNode → List BrowserNode → Type 0
Turns batch edits old new = (above : List Level) (before after : Tree) → with_components (all_put_in edits) before ≡ Ok after
    → all_edited batch edits (focused old above before) ≡ Ok (focused new above after)

-- whatever nodes show the old items, the edits make of them the nodes that the new slots have by the pairs
abbrev pub Leads : List Edit → List Item → List Item → Type 0
Leads edits olds news = (batch : ℕ) (old : List BrowserNode) → ShowEach (slots_of olds) old
    → (new : List BrowserNode) × (from : List (Option ℕ)) × TellsSlots (slots_of olds) (slots_of news) from × Places batch from (slots_of olds) (slots_of news) (wires_of news) old new × Turns batch edits old new
