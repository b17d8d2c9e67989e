-- The slots of a list of siblings: its elements, texts, markups and components, and those of its regions in their places.
use Rattle.std.specs.Prelude.{ℕ, ◌==◌, Bool, true, false, ◌&&◌, List, [], ◌∷◌, ◌++◌, map}
use Rattle.frame_core.specs.declared.item.Item.{Item}
use Rattle.frame_core.specs.declared.item.Item.TheOpen.{Item-F, Element, Text, Markup, Component, Region}
use Rattle.frame_core.specs.declared.item.Item.TheVariants as item
use Rattle.frame_core.specs.declared.item.Item.TheFolds.{fold-Item}
use Rattle.pairing_meaning.specs.Labels.{Label, label_by, same_label, like}

-- a region among its siblings: its label, and how many of the same stand before it
pub record Mark : Type 0 where
  pub label : Label
  pub before : ℕ

-- what a slot pairs by: the regions round it, from the outside in, and its own label
pub record Address : Type 0 where
  pub regions : List Mark
  pub label : Label

pub record Slot : Type 0 where
  pub address : Address
  pub item : Item

abbrev pub same_mark : Mark → Mark → Bool
same_mark one other = same_label one.label other.label && one.before == other.before

abbrev pub same_marks : List Mark → List Mark → Bool
same_marks [] [] = true
same_marks (one ∷ ones) (other ∷ others) = same_mark one other && same_marks ones others
same_marks _ _ = false

abbrev pub same_address : Address → Address → Bool
same_address one other = same_label one.label other.label && same_marks one.regions other.regions

-- one region more round a slot
abbrev pub within : Mark → Slot → Slot
within mark slot = record { address = record { regions = mark ∷ slot.address.regions; label = slot.address.label }; item = slot.item }

-- an item, and its slots where so many of the same stand before it
pub record Laid : Type 0 where
  pub item : Item
  pub label : Label
  pub slots : ℕ → List Slot

-- the slots of siblings, behind those with these labels
abbrev pub laid_out : List Label → List Laid → List Slot
laid_out before [] = []
laid_out before (laid ∷ rest) = laid.slots (like same_label laid.label before) ++ laid_out (before ++ laid.label ∷ []) rest

abbrev items_of : List Laid → List Item
items_of laid = map (λ it. it.item) laid

abbrev pub item_by : Item-F Laid → Item
item_by (Element number name key attributes children) = item.Element number name key attributes (items_of children)
item_by (Text number text) = item.Text number text
item_by (Markup number text) = item.Markup number text
item_by (Component number order made key parameters) = item.Component number order made key parameters
item_by (Region number key children) = item.Region number key (items_of children)

-- a region has the slots of its items, and each other item is one slot
abbrev pub slots_by : Label → Item → ℕ → Item-F Laid → List Slot
slots_by label it before (Region number key children) = map (within (record { label = label; before = before })) (laid_out [] children)
slots_by label it before _ = record { address = record { regions = []; label = label }; item = it } ∷ []

abbrev pub laid_layer : Item-F Laid → Laid
laid_layer layer = record { item = item_by layer; label = label_by layer; slots = λ before. slots_by (label_by layer) (item_by layer) before layer }

abbrev pub laid_of : Item → Laid
laid_of = fold-Item Laid laid_layer

abbrev pub slots_of : List Item → List Slot
slots_of items = laid_out [] (map laid_of items)

abbrev pub addresses : List Slot → List Address
addresses slots = map (λ slot. slot.address) slots
