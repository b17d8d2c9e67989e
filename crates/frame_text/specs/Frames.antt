-- The lines of the frames of a rendering.
use Rattle.std.specs.Prelude.{ℕ, ◌+◌, List, [], ◌∷◌, ◌++◌, codes, length, Option, Some, None, option_map}
use Rattle.frame_core.specs.declared.item.Item.{Item}
use Rattle.frame_core.specs.declared.item.Item.TheOpen.{Item-F}
use Rattle.frame_core.specs.declared.item.Item.TheFolds.{fold-Item}
use Rattle.frame_core.specs.declared.item_attribute.ItemAttribute.{ItemAttribute}
use Rattle.frame_core.specs.declared.item_attribute.ItemValue.{ItemValue}
use Rattle.frame_core.specs.declared.item_attribute.ItemValue.TheVariants as stands
use Rattle.frame_text.specs.Lines.{attribute_line, component_line, element_line, markup_line, region_line, text_line}

-- lines, and how many handlers were given an id so far
pub record Listed : Type 0 where
  pub lines : List (List ℕ)
  pub given : ℕ

abbrev pub listed : List (List ℕ) → ℕ → Listed
listed lines given = record { lines = lines; given = given }

-- the lines behind so many handlers; what stands for a component has none by itself
abbrev pub Lists : Type 0
Lists = ℕ → Option Listed

abbrev pub behind : List (List ℕ) → Option Listed → Option Listed
behind lines None = None
behind lines (Some more) = Some (listed (lines ++ more.lines) more.given)

abbrev pub then_all : Option Listed → Lists → Option Listed
then_all None next = None
then_all (Some first) next = behind first.lines (next first.given)

-- one after another, in the order of the document
abbrev pub all_listed : List Lists → Lists
all_listed [] given = Some (listed [] given)
all_listed (one ∷ others) given = then_all (one given) (all_listed others)

abbrev pub given_behind : ItemValue → ℕ → ℕ
given_behind (stands.Text text) given = given
given_behind (stands.Handler handler) given = given + 1

abbrev pub attribute_listed : ItemAttribute → Lists
attribute_listed one given = Some (listed (attribute_line one given ∷ []) (given_behind one.value given))

-- attributes and handlers in their order
abbrev pub attributes_listed : List ItemAttribute → Lists
attributes_listed [] given = Some (listed [] given)
attributes_listed (one ∷ others) given = then_all (attribute_listed one given) (attributes_listed others)

-- in front of these lines one that says how many they are with it
abbrev pub headed : (ℕ → List ℕ) → Option Listed → Option Listed
headed head None = None
headed head (Some inner) = Some (listed (head (length inner.lines + 1) ∷ inner.lines) inner.given)

-- an item, by the lines of those in it
abbrev pub listed_layer : Item-F Lists → Lists
listed_layer (Item-F.Element number name key worn children) given = headed (element_line number name) (then_all (attributes_listed worn given) (all_listed children))
listed_layer (Item-F.Text number text) given = Some (listed (text_line number text ∷ []) given)
listed_layer (Item-F.Markup number text) given = Some (listed (markup_line number text ∷ []) given)
listed_layer (Item-F.Component number order made key parameters) given = None
listed_layer (Item-F.Region number key children) given = headed (region_line number) (all_listed children given)

abbrev pub item_listed : Item → Lists
item_listed = fold-Item Lists listed_layer

abbrev pub items_listed : List Item → Lists
items_listed [] given = Some (listed [] given)
items_listed (one ∷ others) given = then_all (item_listed one given) (items_listed others)

-- the lines of the first instance, a component of this name, between a line about it and the last
abbrev pub frame_lines : List ℕ → List Item → Option (List (List ℕ))
frame_lines name items = option_map (λ it. component_line name ∷ it.lines ++ codes "done" ∷ []) (items_listed items 0)
