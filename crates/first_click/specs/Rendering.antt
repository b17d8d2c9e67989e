-- The fresh rendering of a component.
use Rattle.std.specs.Prelude.{ℕ, List, [], ◌∷◌, map, codes, Option, Some, None, if◌then◌else◌}
use Rattle.std.specs.Str.{bytes_eq}
use Rattle.cs_ast.specs.Texts.{text_of}
use Rattle.cs_ast.specs.declared.value.Value.{Value}
use Rattle.page_core.specs.declared.node.Node.{Node}
use Rattle.page_core.specs.declared.node.Node.TheOpen as node
use Rattle.page_core.specs.declared.node.Node.TheViews.{roll-Node}
use Rattle.first_click.specs.declared.component.Component.{Component}
use Rattle.first_click.specs.declared.component.Field.{Field}
use Rattle.first_click.specs.declared.component.Item.{Item}
use Rattle.first_click.specs.declared.component.Item.TheFolds.{fold-Item}
use Rattle.first_click.specs.declared.component.Item.TheOpen.{Item-F}
use Rattle.first_click.specs.declared.component.Item.TheOpen as item

-- the text, or the empty one
abbrev pub or_empty : Option (List ℕ) → List ℕ
or_empty (Some text) = text
or_empty None = []

-- what a value shows: its text, or nothing where it has none
abbrev pub shown_text : Value → List ℕ
shown_text value = or_empty (text_of value)

-- what a field of the name shows
abbrev pub field_text : List Field → List ℕ → List ℕ
field_text [] name = []
field_text (field ∷ fields) name = if bytes_eq field.name name then shown_text field.value else field_text fields name

-- the handlers of an element: that of clicks, if it has one
abbrev pub handlers_of : Option ℕ → List (List ℕ × ℕ)
handlers_of None = []
handlers_of (Some id) = (codes "onclick", id) ∷ []

-- an element is an element without attributes, literal text is text, and a shown field is the text of its value
abbrev pub fresh_layer : ℕ → List Field → Item-F Node → Node
fresh_layer born fields (item.Element name handler children) = roll-Node (node.Element born name [] (handlers_of handler) children)
fresh_layer born fields (item.Literal text) = roll-Node (node.Text born text)
fresh_layer born fields (item.Shown name) = roll-Node (node.Text born (field_text fields name))

-- the node of an item
abbrev pub fresh_node : ℕ → List Field → Item → Node
fresh_node born fields = fold-Item Node (fresh_layer born fields)

-- the nodes of items, one for each
abbrev pub fresh_nodes : ℕ → List Field → List Item → List Node
fresh_nodes born fields items = map (fresh_node born fields) items

-- the nodes of a component over its initial values, each born with that batch
abbrev pub fresh : ℕ → Component → List Node
fresh born component = fresh_nodes born component.fields component.items
