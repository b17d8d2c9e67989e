-- Which handlers of a new rendering keep the ids of an old one.
use Rattle.std.specs.Prelude.{◌≡◌, ℕ, List, [], ◌∷◌, slice_get, Some}
use Rattle.cs_ast.specs.declared.value.Value.{Value}
use Rattle.frame_core.specs.declared.item.Item.{Item}
use Rattle.frame_core.specs.declared.item.Item.TheVariants as item
use Rattle.frame_core.specs.declared.item_attribute.ItemAttribute.{ItemAttribute}
use Rattle.frame_core.specs.declared.item_attribute.ItemHandler.{ItemHandler}
use Rattle.frame_core.specs.declared.item_attribute.ItemValue.TheVariants.{Handler}
use Rattle.pairing_meaning.specs.Slots.{Slot, slots_of, addresses, same_address}
use Rattle.pairing_meaning.specs.Pairs.{Pair}

-- a handler by the places of the slots that lead to its element, from the outside in, and the name of its attribute
pub data HandlerAt : List Slot → List ℕ → List ℕ → ItemHandler → Type 0 where
  handler_here : (slots : List Slot) (place k number : ℕ) (slot : Slot) (name : List ℕ) (key : Value) (attributes : List ItemAttribute) (children : List Item) (attribute : ItemAttribute) (handler : ItemHandler)
      → slice_get slots place ≡ Some slot → slot.item ≡ item.Element number name key attributes children
      → slice_get attributes k ≡ Some attribute → attribute.value ≡ Handler handler → HandlerAt slots (place ∷ []) attribute.name handler
  handler_within : (slots : List Slot) (place number : ℕ) (slot : Slot) (name under : List ℕ) (key : Value) (attributes : List ItemAttribute) (children : List Item) (path : List ℕ) (handler : ItemHandler)
      → slice_get slots place ≡ Some slot → slot.item ≡ item.Element number name key attributes children
      → HandlerAt (slots_of children) path under handler → HandlerAt slots (place ∷ path) under handler

-- two slots, by the places that lead to them, pair, and so do all elements round them
pub data PathsPair : List Slot → List Slot → List ℕ → List ℕ → Type 0 where
  paths_here : (olds news : List Slot) (i j : ℕ) → Pair same_address (addresses olds) (addresses news) i j → PathsPair olds news (i ∷ []) (j ∷ [])
  paths_within : (olds news : List Slot) (i j m n : ℕ) (old new : Slot) (name other : List ℕ) (key later : Value) (was attributes : List ItemAttribute) (before after : List Item) (path way : List ℕ)
      → Pair same_address (addresses olds) (addresses news) i j → slice_get olds i ≡ Some old → slice_get news j ≡ Some new
      → old.item ≡ item.Element m name key was before → new.item ≡ item.Element n other later attributes after
      → PathsPair (slots_of before) (slots_of after) path way → PathsPair olds news (i ∷ path) (j ∷ way)

-- two handlers of one attribute stand for the same: receiver, code and captured values
pub record SameHandler (one other : ItemHandler) : Type 0 where
  pub who : one.who ≡ other.who
  pub place : one.place ≡ other.place
  pub captures : one.captures ≡ other.captures

-- the old handler whose id a new one keeps: that of the same attribute of the paired element, where it stands for the same
pub record Keeps (olds news : List Slot) (way name : List ℕ) (new old : ItemHandler) : Type 0 where
  pub path : List ℕ
  pub pairs : PathsPair olds news path way
  pub there : HandlerAt olds path name old
  pub same : SameHandler old new
