-- What a rendering keeps of which edits are made: how long it is, and that no element has two attributes or handlers of one name.
use Rattle.std.specs.Prelude.{◌≡◌, ℕ, ◌+◌, List, [], ◌∷◌, map, sum, slice_get, Some}
use Rattle.cs_ast.specs.declared.value.Value.{Value}
use Rattle.frame_core.specs.declared.made.Made.{Made}
use Rattle.frame_core.specs.declared.item.Item.{Item}
use Rattle.frame_core.specs.declared.item.Item.TheOpen.{Item-F, Element, Text, Markup, Component, Region}
use Rattle.frame_core.specs.declared.item.Item.TheVariants as item
use Rattle.frame_core.specs.declared.item.Item.TheFolds.{fold-Item}
use Rattle.frame_core.specs.declared.item.ItemParameter.{ItemParameter}
use Rattle.frame_core.specs.declared.item_attribute.ItemAttribute.{ItemAttribute}

abbrev pub size_layer : Item-F ℕ → ℕ
size_layer (Element number name key attributes children) = 1 + sum children
size_layer (Text number text) = 1
size_layer (Markup number text) = 1
size_layer (Component number order made key parameters) = 1
size_layer (Region number key children) = 1 + sum children

-- how many items there are in an item, itself among them
abbrev pub size_of : Item → ℕ
size_of = fold-Item ℕ size_layer

abbrev pub sizes : List Item → ℕ
sizes items = sum (map size_of items)

-- what has one name stands at one place
abbrev pub NamesDiffer : List ItemAttribute → Type 0
NamesDiffer attributes = (i j : ℕ) (one other : ItemAttribute) → slice_get attributes i ≡ Some one → slice_get attributes j ≡ Some other → one.name ≡ other.name → i ≡ j

mutual
  -- no element in it has two of one name
  pub data Clear : Item → Type 0 where
    clear_element : (number : ℕ) (name : List ℕ) (key : Value) (attributes : List ItemAttribute) (children : List Item)
        → NamesDiffer attributes → AllClear children → Clear (item.Element number name key attributes children)
    clear_text : (number : ℕ) (text : List ℕ) → Clear (item.Text number text)
    clear_markup : (number : ℕ) (text : List ℕ) → Clear (item.Markup number text)
    clear_component : (number order : ℕ) (what : Made) (key : Value) (parameters : List ItemParameter) → Clear (item.Component number order what key parameters)
    clear_region : (number : ℕ) (key : Value) (children : List Item) → AllClear children → Clear (item.Region number key children)

  pub data AllClear : List Item → Type 0 where
    none_unclear : AllClear []
    clear_more : (it : Item) (items : List Item) → Clear it → AllClear items → AllClear (it ∷ items)
