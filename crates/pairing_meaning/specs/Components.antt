-- Which component items of two renderings are of one component: they stay, and the others come and go.
use Rattle.std.specs.Prelude.{◌≡◌, ℕ, List, [], ◌∷◌, slice_get, map, Some}
use Rattle.std.specs.List.{flat_map}
use Rattle.cs_ast.specs.declared.value.Value.{Value}
use Rattle.frame_core.specs.declared.made.Made.{Made}
use Rattle.frame_core.specs.declared.item.Item.{Item}
use Rattle.frame_core.specs.declared.item.Item.TheOpen.{Item-F, Element, Text, Markup, Component, Region}
use Rattle.frame_core.specs.declared.item.Item.TheVariants as item
use Rattle.frame_core.specs.declared.item.Item.TheFolds.{fold-Item}
use Rattle.frame_core.specs.declared.item.ItemParameter.{ItemParameter}
use Rattle.frame_core.specs.declared.item_attribute.ItemAttribute.{ItemAttribute}
use Rattle.pairing_meaning.specs.Slots.{Slot, slots_of, addresses, same_address}
use Rattle.pairing_meaning.specs.Pairs.{Pair}

abbrev orders_layer : Item-F (List ℕ) → List ℕ
orders_layer (Element number name key attributes children) = flat_map (λ orders. orders) children
orders_layer (Text number text) = []
orders_layer (Markup number text) = []
orders_layer (Component number order made key parameters) = order ∷ []
orders_layer (Region number key children) = flat_map (λ orders. orders) children

-- the component items in an item, in document order
abbrev pub orders_in : Item → List ℕ
orders_in = fold-Item (List ℕ) orders_layer

abbrev pub orders_of : List Item → List ℕ
orders_of items = flat_map (λ orders. orders) (map orders_in items)

-- an old component item and a new one pair: in these lists, or in the children of elements that pair
pub data Retained : List Slot → List Slot → ℕ → ℕ → Type 0 where
  retained_here : (olds news : List Slot) (i j m n first second : ℕ) (old new : Slot) (what other : Made) (key later : Value) (given supplied : List ItemParameter)
      → Pair same_address (addresses olds) (addresses news) i j → slice_get olds i ≡ Some old → slice_get news j ≡ Some new
      → old.item ≡ item.Component m first what key given → new.item ≡ item.Component n second other later supplied → Retained olds news first second
  retained_within : (olds news : List Slot) (i j m n first second : ℕ) (old new : Slot) (name other : List ℕ) (key later : Value) (was attributes : List ItemAttribute) (before after : List Item)
      → Pair same_address (addresses olds) (addresses news) i j → slice_get olds i ≡ Some old → slice_get news j ≡ Some new
      → old.item ≡ item.Element m name key was before → new.item ≡ item.Element n other later attributes after
      → Retained (slots_of before) (slots_of after) first second → Retained olds news first second
