-- The page that a tree shows.
use Rattle.std.specs.Prelude.{ℕ, zero, suc, List, [], ◌∷◌, length}
use Rattle.std.specs.Option.{unwrap_or}
use Rattle.std.specs.List.{flat_map}
use Rattle.page_core.specs.declared.node.Node.{Node}
use Rattle.page_core.specs.declared.node.Node.TheVariants as page
use Rattle.edit_meaning.specs.declared.browser_node.BrowserNode.{BrowserNode}
use Rattle.edit_meaning.specs.declared.browser_node.BrowserNode.TheOpen.{BrowserNode-F, Element, Text, Markup, Component}
use Rattle.edit_meaning.specs.declared.browser_node.BrowserNode.TheFolds.{fold-BrowserNode}
use Rattle.edit_meaning.specs.Focus.{Tree}
use Rattle.edit_meaning.specs.Edits.{nodes_of}

-- what one layer of a node shows, where its children show these
abbrev pub shown_layer : (ℕ → List Node) → BrowserNode-F (List Node) → List Node
shown_layer shown_of (Element born name names children) = page.Element born name names.attributes names.handlers (flat_map (λ child. child) children) ∷ []
shown_layer shown_of (Text born text) = page.Text born text ∷ []
shown_layer shown_of (Markup born text) = page.Markup born text ∷ []
shown_layer shown_of (Component number) = shown_of number

-- what a node shows: the place of a component shows what the component shows
abbrev pub shown : (ℕ → List Node) → BrowserNode → List Node
shown shown_of = fold-BrowserNode (List Node) (shown_layer shown_of)

-- the nodes of a component, or none where the tree has no such component
abbrev pub nodes_or_none : Tree → ℕ → List BrowserNode
nodes_or_none tree number = unwrap_or (nodes_of tree number) []

-- what a component shows; so many components at most stand in one another
abbrev pub component_shown : ℕ → Tree → ℕ → List Node
component_shown zero tree number = []
component_shown (suc within) tree number = flat_map (shown (component_shown within tree)) (nodes_or_none tree number)

-- what component 1 shows. No more components than there are stand in one another, since none stands in itself
abbrev pub page_of : Tree → List Node
page_of tree = component_shown (length tree) tree 1
