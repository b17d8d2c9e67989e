-- The bytes of a plain page: each node with its kind before it, and an end behind the last of siblings.
use Rattle.std.specs.Prelude.{◌≡◌, ℕ, ◌≤◌, List, [], ◌∷◌, ◌++◌, map, length, Option, Some, None, IsTrue}
use Rattle.std.specs.List.{concat}
use Rattle.text_core.specs.Words.{u64_bytes}
use Rattle.text_core.specs.TextBytes.{text_bytes}
use Rattle.page_core.specs.declared.node.Node.{Node}
use Rattle.page_core.specs.declared.node.Node.TheOpen.{Node-F, Element, Text, Markup}
use Rattle.page_core.specs.declared.node.Node.TheFolds.{fold-Node}
use Rattle.plain_page.specs.Click.{click_handler}
use Rattle.plain_page.specs.Plain.{are_plain, are_stored}

-- a kind, a birth and a text
abbrev pub spelled_front : ℕ → ℕ → List ℕ → List ℕ
spelled_front kind born text = kind ∷ (u64_bytes born ++ text_bytes text)

-- an element before its children, of which the kind says whether it has a handler of clicks
abbrev pub spelled_start : ℕ → List ℕ → Option ℕ → List ℕ
spelled_start born name None = spelled_front 2 born name
spelled_start born name (Some id) = spelled_front 3 born name ++ u64_bytes id

-- siblings, each spelled
abbrev pub spelled_all : List (List ℕ) → List ℕ
spelled_all nodes = concat nodes ++ 0 ∷ []

-- a node of this layer, with its children spelled
abbrev pub spelled_layer : Node-F (List ℕ) → List ℕ
spelled_layer (Element born name attributes handlers children) = spelled_start born name (click_handler handlers) ++ spelled_all children
spelled_layer (Text born text) = spelled_front 1 born text
spelled_layer (Markup born text) = []

-- a node
abbrev pub spelled_node : Node → List ℕ
spelled_node = fold-Node (List ℕ) spelled_layer

-- nodes
abbrev pub spelled_nodes : List Node → List ℕ
spelled_nodes nodes = spelled_all (map spelled_node nodes)

-- bytes, few enough for a batch, spell a plain page
pub record Spells (bytes : List ℕ) (nodes : List Node) : Type 0 where
  pub bytes_are : bytes ≡ spelled_nodes nodes
  pub plain : IsTrue (are_plain nodes)
  pub stored : IsTrue (are_stored nodes)
  pub few : length bytes ≤ 33554368
