-- What a batch says to put in an item with all that is in it. A component item is named by its order.
use Rattle.std.specs.Prelude.{ℕ, List, [], ◌∷◌, map}
use Rattle.std.specs.List.{flat_map}
use Rattle.frame_core.specs.declared.item.Item.{Item}
use Rattle.frame_core.specs.declared.item.Item.TheOpen.{Item-F, Element, Text, Markup, Component, Region}
use Rattle.frame_core.specs.declared.item.Item.TheFolds.{fold-Item}
use Rattle.frame_core.specs.declared.item_attribute.ItemAttribute.{ItemAttribute}
use Rattle.frame_core.specs.declared.item_attribute.ItemValue.{ItemValue}
use Rattle.frame_core.specs.declared.item_attribute.ItemValue.TheVariants as held
use Rattle.frame_core.specs.declared.wire_node.WireAttribute.{WireAttribute}
use Rattle.frame_core.specs.declared.wire_node.WireValue.{WireValue}
use Rattle.frame_core.specs.declared.wire_node.WireValue.TheVariants as said
use Rattle.frame_core.specs.declared.wire_node.WireNode.{WireNode}
use Rattle.frame_core.specs.declared.wire_node.WireNode.TheVariants as wire
use Rattle.edit_meaning.specs.declared.names.Names.{Names}
use Rattle.edit_meaning.specs.Attributes.{all_set}

-- of a handler it says the id
abbrev pub wire_value : ItemValue → WireValue
wire_value (held.Text text) = said.Text text
wire_value (held.Handler handler) = said.Handler handler.id

abbrev pub wire_attribute : ItemAttribute → WireAttribute
wire_attribute attribute = record { name = attribute.name; value = wire_value attribute.value }

abbrev pub wire_attributes : List ItemAttribute → List WireAttribute
wire_attributes attributes = map wire_attribute attributes

-- what an element of these attributes has under its names
abbrev pub names_of : List ItemAttribute → Names
names_of attributes = all_set (wire_attributes attributes)

abbrev pub wires_layer : Item-F (List WireNode) → List WireNode
wires_layer (Element number name key attributes children) = wire.Element name (wire_attributes attributes) (flat_map (λ wires. wires) children) ∷ []
wires_layer (Text number text) = wire.Text text ∷ []
wires_layer (Markup number text) = wire.Markup text ∷ []
wires_layer (Component number order made key parameters) = wire.Component order ∷ []
wires_layer (Region number key children) = flat_map (λ wires. wires) children

abbrev pub wires_in : Item → List WireNode
wires_in = fold-Item (List WireNode) wires_layer

-- one for each slot
abbrev pub wires_of : List Item → List WireNode
wires_of items = flat_map (λ wires. wires) (map wires_in items)
