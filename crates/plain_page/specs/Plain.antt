-- Plain pages: elements that have no attributes and no handler but one of clicks, and texts.
use Rattle.std.specs.Prelude.{ℕ, ◌^◌, Bool, true, false, ◌&&◌, List, [], ◌∷◌, map, length, nat_lt, Option, Some, None, encode_utf8_all}
use Rattle.std.specs.List.{list_all}
use Rattle.std.specs.Str.{bytes_eq, all_scalars}
use Rattle.page_core.specs.declared.node.Node.{Node}
use Rattle.page_core.specs.declared.node.Node.TheOpen.{Node-F, Element, Text, Markup}
use Rattle.page_core.specs.declared.node.Node.TheFolds.{fold-Node}
use Rattle.plain_page.specs.Click.{onclick, click_handler}

-- there are none
abbrev pub is_empty : {X : Type 0} → List X → Bool
is_empty [] = true
is_empty (item ∷ items) = false

-- no handler, or one of clicks
abbrev pub are_of_clicks : List (List ℕ × ℕ) → Bool
are_of_clicks [] = true
are_of_clicks (handler ∷ []) = bytes_eq handler.0 onclick
are_of_clicks (handler ∷ other ∷ more) = false

-- a text's length in UTF-8 has at most 28 bits
abbrev pub is_short : List ℕ → Bool
is_short text = nat_lt (length (encode_utf8_all text)) (2 ^ 28)

-- all hold
abbrev pub are_all : List Bool → Bool
are_all = list_all (λ holds. holds)

-- a node of this layer, whose children are plain or not
abbrev pub is_plain_layer : Node-F Bool → Bool
is_plain_layer (Element born name attributes handlers children) = is_short name && is_empty attributes && are_of_clicks handlers && are_all children
is_plain_layer (Text born text) = is_short text
is_plain_layer (Markup born text) = false

-- a plain node
abbrev pub is_plain : Node → Bool
is_plain = fold-Node Bool is_plain_layer

-- plain nodes
abbrev pub are_plain : List Node → Bool
are_plain nodes = are_all (map is_plain nodes)

-- a handler's id, if there is one, has 64 bits
abbrev pub fits_word : Option ℕ → Bool
fits_word None = true
fits_word (Some id) = nat_lt id (2 ^ 64)

-- numbers have 64 bits, and texts are of characters: a node of this layer, whose children are so or not
abbrev pub is_stored_layer : Node-F Bool → Bool
is_stored_layer (Element born name attributes handlers children) =
    nat_lt born (2 ^ 64) && all_scalars name && fits_word (click_handler handlers) && are_all children
is_stored_layer (Text born text) = nat_lt born (2 ^ 64) && all_scalars text
is_stored_layer (Markup born text) = nat_lt born (2 ^ 64) && all_scalars text

-- a node that memory may hold
abbrev pub is_stored : Node → Bool
is_stored = fold-Node Bool is_stored_layer

-- nodes that memory may hold
abbrev pub are_stored : List Node → Bool
are_stored nodes = are_all (map is_stored nodes)
