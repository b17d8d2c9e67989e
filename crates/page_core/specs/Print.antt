-- What a page prints.
use Rattle.std.specs.Prelude.{ℕ, List, [], ◌++◌, codes, map, if◌then◌else◌}
use Rattle.std.specs.List.{flat_map, concat}
use Rattle.page_core.specs.Escapes.{escaped_text, escaped_value}
use Rattle.page_core.specs.Void.{is_void}
use Rattle.page_core.specs.declared.node.Node.{Node}
use Rattle.page_core.specs.declared.node.Node.TheOpen.{Node-F, Element, Text, Markup}
use Rattle.page_core.specs.declared.node.Node.TheFolds.{fold-Node}
use Rattle.page_core.specs.declared.node.Page.{Page}

-- an attribute, its value in quotes
abbrev pub attribute_text : List ℕ × List ℕ → List ℕ
attribute_text (name, value) = codes " " ++ name ++ codes "=\"" ++ escaped_value value ++ codes "\""

-- attributes, one after another
abbrev pub attributes_text : List (List ℕ × List ℕ) → List ℕ
attributes_text = flat_map attribute_text

-- the tag before the children of an element
abbrev pub start_tag : List ℕ → List (List ℕ × List ℕ) → List ℕ
start_tag name attributes = codes "<" ++ name ++ attributes_text attributes ++ codes ">"

-- the tag behind them, which a void element does not have
abbrev pub end_tag : List ℕ → List ℕ
end_tag name = if is_void name then [] else codes "</" ++ name ++ codes ">"

-- a node, with what each child prints in its place
abbrev pub layer_text : Node-F (List ℕ) → List ℕ
layer_text (Element born name attributes handlers children) = start_tag name attributes ++ concat children ++ end_tag name
layer_text (Text born text) = escaped_text text
layer_text (Markup born text) = text

-- a node
abbrev pub node_text : Node → List ℕ
node_text = fold-Node (List ℕ) layer_text

-- nodes, one after another
abbrev pub nodes_text : List Node → List ℕ
nodes_text nodes = concat (map node_text nodes)

-- a page
abbrev pub page_text : Page → List ℕ
page_text page = nodes_text page.nodes
