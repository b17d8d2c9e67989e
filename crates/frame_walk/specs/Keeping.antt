-- Which ids the handlers of a new rendering keep, in document order.
use Rattle.std.specs.Prelude.{◌≡◌, ℕ, ◌<◌, ◌^◌, List, [], ◌∷◌, ◌++◌, map, slice_get, Option, Some, None}
use Rattle.cs_ast.specs.declared.value.Value.{Value}
use Rattle.frame_core.specs.declared.made.Made.{Made}
use Rattle.frame_core.specs.declared.item.Item.{Item}
use Rattle.frame_core.specs.declared.item.Item.TheVariants as item
use Rattle.frame_core.specs.declared.item.ItemParameter.{ItemParameter}
use Rattle.frame_core.specs.declared.item_attribute.ItemAttribute.{ItemAttribute}
use Rattle.frame_core.specs.declared.item_attribute.ItemHandler.{ItemHandler}
use Rattle.frame_core.specs.declared.item_attribute.ItemValue.TheVariants as held
use Rattle.pairing_meaning.specs.Slots.{Slot, slots_of}
use Rattle.pairing_meaning.specs.Births.{TellsSlots}
use Rattle.pairing_meaning.specs.Handlers.{SameHandler}
use Rattle.item_edits.specs.Renderings.{size_of}
use Rattle.handler_ids.specs.History.{Past}
use Rattle.frame_walk.specs.Ids.{values_in, values_of, ids_of, Numbered, Disposed}

-- the old attribute is of this name, and its handler stands for the same as the new one
pub record StaysAt (old_attribute : ItemAttribute) (name : List ℕ) (new old : ItemHandler) : Type 0 where
  pub name_is : old_attribute.name ≡ name
  pub value_is : old_attribute.value ≡ held.Handler old
  pub same : SameHandler old new

-- the old handler under this name, where it stands for the same
abbrev pub Stays : List ItemAttribute → List ℕ → ItemHandler → ItemHandler → Type 0
Stays was name new old = (k : ℕ) × (attribute : ItemAttribute) × (slice_get was k ≡ Some attribute) × StaysAt attribute name new old

-- what the handlers of an element keep of what its pair had
pub data KeepsUnder : List ItemAttribute → List ItemAttribute → List (Option ℕ) → Type 0 where
  keeps_nothing : (was : List ItemAttribute) → KeepsUnder was [] []
  keeps_text : (was attributes : List ItemAttribute) (kept : List (Option ℕ)) (attribute : ItemAttribute) (text : List ℕ)
      → KeepsUnder was attributes kept → attribute.value ≡ held.Text text → KeepsUnder was (attributes ++ attribute ∷ []) kept
  keeps_id : (was attributes : List ItemAttribute) (kept : List (Option ℕ)) (attribute : ItemAttribute) (old new : ItemHandler)
      → KeepsUnder was attributes kept → attribute.value ≡ held.Handler new → Stays was attribute.name new old → KeepsUnder was (attributes ++ attribute ∷ []) (kept ++ Some old.id ∷ [])
  keeps_no_id : (was attributes : List ItemAttribute) (kept : List (Option ℕ)) (attribute : ItemAttribute) (new : ItemHandler)
      → KeepsUnder was attributes kept → attribute.value ≡ held.Handler new → ((old : ItemHandler) → Stays was attribute.name new old → ⊥) → KeepsUnder was (attributes ++ attribute ∷ []) (kept ++ None ∷ [])

-- where there is no pair, nothing is kept
abbrev pub none_kept : Item → List (Option ℕ)
none_kept it = map (λ value. None) (values_in it)

mutual
  -- two items that pair
  pub data KeepsIn : Item → Item → List (Option ℕ) → Type 0 where
    keeps_element : (m n : ℕ) (name other : List ℕ) (key later : Value) (was attributes : List ItemAttribute) (olds news : List Item) (own inner : List (Option ℕ))
        → KeepsUnder was attributes own → KeepsAll (slots_of olds) (slots_of news) inner → KeepsIn (item.Element m name key was olds) (item.Element n other later attributes news) (own ++ inner)
    keeps_in_text : (m n : ℕ) (old new : List ℕ) → KeepsIn (item.Text m old) (item.Text n new) []
    keeps_in_markup : (m n : ℕ) (old new : List ℕ) → KeepsIn (item.Markup m old) (item.Markup n new) []
    keeps_in_component : (m n first second : ℕ) (what other : Made) (key later : Value) (given supplied : List ItemParameter) → KeepsIn (item.Component m first what key given) (item.Component n second other later supplied) []

  -- the new slots, each with its pair or alone
  pub data KeepsSlots : List (Option ℕ) → List Slot → List Slot → List (Option ℕ) → Type 0 where
    keeps_none : (olds : List Slot) → KeepsSlots [] olds [] []
    keeps_alone : (from : List (Option ℕ)) (olds news : List Slot) (new : Slot) (kept : List (Option ℕ)) → KeepsSlots from olds news kept → KeepsSlots (from ++ None ∷ []) olds (news ++ new ∷ []) (kept ++ none_kept new.item)
    keeps_pair : (from : List (Option ℕ)) (olds news : List Slot) (new old : Slot) (place : ℕ) (kept more : List (Option ℕ)) → KeepsSlots from olds news kept → slice_get olds place ≡ Some old → KeepsIn old.item new.item more
        → KeepsSlots (from ++ Some place ∷ []) olds (news ++ new ∷ []) (kept ++ more)

  -- for each handler of the new slots the id that it keeps, or none
  pub data KeepsAll : List Slot → List Slot → List (Option ℕ) → Type 0 where
    keeps_all : (olds news : List Slot) (from kept : List (Option ℕ)) → TellsSlots olds news from → KeepsSlots from olds news kept → KeepsAll olds news kept

abbrev pub IsLeaf : Item → Type 0
IsLeaf it = (number : ℕ) (key : Value) (children : List Item) → it ≡ item.Region number key children → ⊥

-- each slot has fewer items than places have numbers, and is no region
abbrev pub AllSmall : List Slot → Type 0
AllSmall slots = (place : ℕ) (slot : Slot) → slice_get slots place ≡ Some slot → (size_of slot.item < 2 ^ 31) × IsLeaf slot.item

-- what a new item keeps of the slot at this place, if there is a place
abbrev pub KeepsSlot : Option ℕ → List Slot → Item → List (Option ℕ) → Type 0
KeepsSlot None olds new kept = kept ≡ none_kept new
KeepsSlot (Some place) olds new kept = (old : Slot) → slice_get olds place ≡ Some old → KeepsIn old.item new kept

-- the handlers of a new rendering get these ids, as this batch
abbrev pub Gives : ℕ → List Item → List Item → List ℕ → List Past → List Past → Type 0
Gives batch olds news ids history next = (kept : List (Option ℕ)) × KeepsAll (slots_of olds) (slots_of news) kept × Numbered batch kept (values_of news) ids history next

-- what a walk makes of the history: the new handlers get their ids, and then the ids that no one has are disposed, where they are live
abbrev pub Walks : ℕ → ℕ → List Item → List Item → List Item → List ℕ → List Past → List Past → Type 0
Walks batch released olds news walked gone history last = (next : List Past) × Gives batch olds news (ids_of walked) history next × Disposed batch released gone next last
