-- Component items that pair as a list.
use Rattle.std.specs.Prelude.{◌≡◌, ℕ, ◌<◌, ◌^◌, ◌==◌, not, ◌↔◌, List, slice_get, Option, Some, None}
use Rattle.std.specs.List.{filter, list_any}
use Rattle.cs_ast.specs.declared.value.Value.{Value}
use Rattle.frame_core.specs.declared.made.Made.{Made}
use Rattle.frame_core.specs.declared.item.Item.{Item}
use Rattle.frame_core.specs.declared.item.Item.TheVariants as item
use Rattle.frame_core.specs.declared.item.ItemParameter.{ItemParameter}
use Rattle.frame_core.specs.declared.item_attribute.ItemAttribute.{ItemAttribute}
use Rattle.pairing_meaning.specs.Slots.{Slot, slots_of}
use Rattle.pairing_meaning.specs.Components.{Retained}
use Rattle.item_edits.specs.Renderings.{size_of}

abbrev pub Has : List (ℕ × ℕ) → ℕ → ℕ → Type 0
Has pairs first second = (k : ℕ) × (slice_get pairs k ≡ Some (first, second))

-- the list has those of which this holds, and no others
abbrev pub Lists : List (ℕ × ℕ) → (ℕ → ℕ → Type 0) → Type 0
Lists pairs Holds = (first second : ℕ) → Has pairs first second ↔ Holds first second

-- those of a list that do not stand in another
abbrev pub without : List ℕ → List ℕ → List ℕ
without others orders = filter (λ order. not (list_any (λ other. other == order) others)) orders

-- two items that pair are components, or components pair in them
pub data Within : Item → Item → ℕ → ℕ → Type 0 where
  within_component : (m n first second : ℕ) (what other : Made) (key later : Value) (given supplied : List ItemParameter)
      → Within (item.Component m first what key given) (item.Component n second other later supplied) first second
  within_element : (m n first second : ℕ) (name other : List ℕ) (key later : Value) (was attributes : List ItemAttribute) (before after : List Item) → Retained (slots_of before) (slots_of after) first second
      → Within (item.Element m name key was before) (item.Element n other later attributes after) first second

-- a new item, and the slot at this place
abbrev pub WithinSlot : Option ℕ → List Slot → Item → ℕ → ℕ → Type 0
WithinSlot place olds new first second = (i : ℕ) × (old : Slot) × (place ≡ Some i) × (slice_get olds i ≡ Some old) × Within old.item new first second

-- each slot has fewer items than places have numbers
abbrev pub AllSmall : List Slot → Type 0
AllSmall slots = (place : ℕ) (slot : Slot) → slice_get slots place ≡ Some slot → size_of slot.item < 2 ^ 31

-- those of the new slots before a place
abbrev pub Before : ℕ → List (Option ℕ) → List Slot → List Slot → ℕ → ℕ → Type 0
Before k from olds news first second = (j : ℕ) × (place : Option ℕ) × (new : Slot) × (j < k) × (slice_get from j ≡ Some place) × (slice_get news j ≡ Some new) × WithinSlot place olds new.item first second
