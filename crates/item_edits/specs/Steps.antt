-- What edits do place by place.
use Rattle.std.specs.Prelude.{◌≡◌, ℕ, ◌<◌, ◌^◌, List, [], ◌∷◌, ◌++◌, length, take, drop, slice_get, Option, Some, None, if◌then◌else◌}
use Rattle.std.specs.Str.{bytes_eq}
use Rattle.cs_ast.specs.declared.value.Value.{Value}
use Rattle.frame_core.specs.declared.item.Item.{Item}
use Rattle.frame_core.specs.declared.item.Item.TheVariants as item
use Rattle.frame_core.specs.declared.wire_node.WireNode.{WireNode}
use Rattle.frame_core.specs.declared.edit.Edit.{Edit}
use Rattle.frame_core.specs.declared.edit.Edit.TheVariants.{UpdateText, UpdateMarkup, StepIn, StepOut}
use Rattle.page_core.specs.declared.counts.Counts.{Counts}
use Rattle.edit_meaning.specs.declared.browser_node.BrowserNode.{BrowserNode}
use Rattle.edit_meaning.specs.Counted.{counts_in}
use Rattle.pairing_meaning.specs.Labels.{Label, label_of}
use Rattle.pairing_meaning.specs.Slots.{Slot}
use Rattle.pairing_meaning.specs.Births.{Shows, ShowEach, TellsSlots, Becomes, Places}
use Rattle.pairing_meaning.specs.Turning.{Turns}
use Rattle.pairing_meaning.specs.Tallies.{Sums, Changed, plus, list_edits}
use Rattle.sibling_edits.specs.Matched.{carried}
use Rattle.item_edits.specs.Renderings.{size_of, Clear}

-- the edits make one node of another at a place, whatever stands round it
abbrev pub At : ℕ → List Edit → ℕ → BrowserNode → BrowserNode → Type 0
At batch edits place old new = (front rest : List BrowserNode) → length front ≡ place → Turns batch edits (front ++ old ∷ rest) (front ++ new ∷ rest)

-- the edits make what is meant of any node that shows the old item
abbrev pub Changes : ℕ → Item → Item → List Edit → Type 0
Changes place old new edits = (batch : ℕ) (shown : BrowserNode) → Shows old shown → (becomes : BrowserNode) × Becomes batch old new shown becomes × At batch edits place shown becomes

-- the edits bring each slot to its place
abbrev pub Starts : List (Option ℕ) → List Slot → List WireNode → List Edit → Type 0
Starts from olds wires edits = (batch : ℕ) (old : List BrowserNode) → length old ≡ length olds → Turns batch edits old (carried batch from wires old)

-- the places before one have what is meant, and the others what was brought there
abbrev pub Reached : ℕ → List (Option ℕ) → List Slot → List Slot → List WireNode → List Edit → Type 0
Reached place from olds news wires edits = (batch : ℕ) (old : List BrowserNode) → ShowEach olds old
    → (done : List BrowserNode) × (length done ≡ place) × Places batch (take place from) olds (take place news) (take place wires) old done × Turns batch edits old (done ++ drop place (carried batch from wires old))

-- the edits of the places before one are counted
abbrev pub Summed : ℕ → List (Option ℕ) → List (Option ℕ) → List Slot → List Slot → List Edit → Type 0
Summed place from to olds news edits = (sum : Counts) × Sums (take place from) olds (take place news) sum × (counts_in edits ≡ plus (list_edits from to) sum)

abbrev pub text_planned : ℕ → List ℕ → List ℕ → List Edit
text_planned place old new = if bytes_eq old new then [] else UpdateText place new ∷ []

abbrev pub markup_planned : ℕ → List ℕ → List ℕ → List Edit
markup_planned place old new = if bytes_eq old new then [] else UpdateMarkup place new ∷ []

-- an element is gone into, and left, for some edits
abbrev pub stepped_in : ℕ → List Edit → List Edit
stepped_in place [] = []
stepped_in place (edit ∷ edits) = StepIn place ∷ ((edit ∷ edits) ++ StepOut ∷ [])

-- an item that stands in a slot, where no edit of its attributes is meant for two of them
pub record Fits (it : Item) : Type 0 where
  pub few : size_of it < 2 ^ 31
  pub clear : Clear it
  pub leaf : (number : ℕ) (key : Value) (children : List Item) → it ≡ item.Region number key children → ⊥

abbrev pub AllFit : List Slot → Type 0
AllFit slots = (place : ℕ) (slot : Slot) → slice_get slots place ≡ Some slot → Fits slot.item

-- the slot at this place, if there is one, is of this label
abbrev pub IsLike : Option ℕ → List Slot → Label → Type 0
IsLike place olds label = (i : ℕ) (old : Slot) → place ≡ Some i → slice_get olds i ≡ Some old → label_of old.item ≡ label

-- the edits of a new slot's item, if there is a slot that it pairs with
abbrev pub Inner : ℕ → Option ℕ → List Slot → Item → List Edit → Type 0
Inner sibling None olds new edits = edits ≡ []
Inner sibling (Some i) olds new edits = (old : Slot) → slice_get olds i ≡ Some old → Changes sibling old.item new edits × Changed old.item new (counts_in edits)

-- the edits of the places before one, and how many they are
abbrev pub Stands : ℕ → List (Option ℕ) → List Slot → List Slot → List WireNode → List Edit → Type 0
Stands place from olds news wires edits = Reached place from olds news wires edits × ((to : List (Option ℕ)) × TellsSlots news olds to × Summed place from to olds news edits)
