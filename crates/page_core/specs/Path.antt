-- The node that a path names.
use Rattle.std.specs.Prelude.{ℕ, List, [], ◌∷◌, slice_get, Option, Some, None}
use Rattle.page_core.specs.declared.node.Node.{Node, out-Node}
use Rattle.page_core.specs.declared.node.Node.TheOpen.{Node-F, Element, Text, Markup}

-- what stands in a node of this layer
abbrev pub inside : Node-F Node → List Node
inside (Element born name attributes handlers children) = children
inside (Text born text) = []
inside (Markup born text) = []

-- the children of a node, where it is an element
abbrev pub children_of : Node → List Node
children_of node = inside (out-Node node)

-- the node at the end of a path whose first step led to this one, or to none
abbrev pub node_behind : Option Node → List ℕ → Option Node
node_behind None places = None
node_behind (Some node) [] = Some node
node_behind (Some node) (place ∷ places) = node_behind (slice_get (children_of node) place) places

-- the node that a path names among these
abbrev pub node_at : List Node → List ℕ → Option Node
node_at nodes [] = None
node_at nodes (place ∷ places) = node_behind (slice_get nodes place) places
