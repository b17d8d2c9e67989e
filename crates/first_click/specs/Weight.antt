-- How large the items of a component are.
use Rattle.std.specs.Prelude.{ℕ, ◌+◌, List, length, map, sum}
use Rattle.first_click.specs.declared.component.Item.{Item}
use Rattle.first_click.specs.declared.component.Item.TheFolds.{fold-Item}
use Rattle.first_click.specs.declared.component.Item.TheOpen.{Item-F}
use Rattle.first_click.specs.declared.component.Item.TheOpen as layer

-- the weight of an item by the weights of its children
abbrev pub weight_by_children : Item-F ℕ → ℕ
weight_by_children (layer.Element name handler children) = 40 + length name + sum children
weight_by_children (layer.Literal text) = 20 + length text
weight_by_children (layer.Shown name) = 40

-- 40 for an element, and its name and its children besides; 20 for a text, and its characters besides; 40 for a shown field
abbrev pub weight : Item → ℕ
weight = fold-Item ℕ weight_by_children

-- the weight of items together
abbrev pub weights : List Item → ℕ
weights items = sum (map weight items)
