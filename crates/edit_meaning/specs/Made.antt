-- The nodes that a batch makes of what it says, and the components among them.
use Rattle.std.specs.Prelude.{ℕ, List, [], ◌∷◌}
use Rattle.std.specs.List.{concat}
use Rattle.frame_core.specs.declared.wire_node.WireAttribute.{WireAttribute}
use Rattle.frame_core.specs.declared.wire_node.WireNode.{WireNode}
use Rattle.frame_core.specs.declared.wire_node.WireNode.TheOpen.{WireNode-F, Element, Text, Markup, Component}
use Rattle.frame_core.specs.declared.wire_node.WireNode.TheFolds.{fold-WireNode}
use Rattle.edit_meaning.specs.declared.browser_node.BrowserNode.{BrowserNode}
use Rattle.edit_meaning.specs.declared.browser_node.BrowserNode.TheVariants as node
use Rattle.edit_meaning.specs.Attributes.{all_set}

abbrev made_layer : ℕ → WireNode-F BrowserNode → BrowserNode
made_layer batch (Element name attributes children) = node.Element batch name (all_set attributes) children
made_layer batch (Text text) = node.Text batch text
made_layer batch (Markup text) = node.Markup batch text
made_layer batch (Component number) = node.Component number

-- the node that this batch makes: each node in it has the batch's number as its birth
abbrev pub made : ℕ → WireNode → BrowserNode
made batch = fold-WireNode BrowserNode (made_layer batch)

abbrev components_in_layer : WireNode-F (List ℕ) → List ℕ
components_in_layer (Element name attributes children) = concat children
components_in_layer (Text text) = []
components_in_layer (Markup text) = []
components_in_layer (Component number) = number ∷ []

-- the numbers of the components in it, in their order
abbrev pub components_in : WireNode → List ℕ
components_in = fold-WireNode (List ℕ) components_in_layer
