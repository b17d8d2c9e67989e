-- What changes between two pages that are alike: their nodes are of the same kinds, births, names and handlers of
-- clicks, and have as many children each. Only texts may differ.
use Rattle.std.specs.Prelude.{ℕ, ◌+◌, Bool, true, false, ◌&&◌, ◌==◌, if◌then◌else◌, List, [], ◌∷◌, map, min, ◌-◌, ◌^◌, Option, Some, None, option_map, option_and_then}
use Rattle.std.specs.Str.{bytes_eq}
use Rattle.page_core.specs.declared.node.Node.{Node, out-Node}
use Rattle.page_core.specs.declared.node.Node.TheOpen.{Node-F, Element, Text}
use Rattle.page_core.specs.declared.node.Node.TheFolds.{fold-Node}
use Rattle.plain_page.specs.declared.changes.Changed.{Changed}
use Rattle.plain_page.specs.Click.{click_handler}

-- nothing changes
abbrev pub unchanged : Changed
unchanged = record { texts = 0; elements = 0 }

-- one change beside another
abbrev pub together : Changed → Changed → Changed
together one other = record { texts = one.texts + other.texts; elements = one.elements + other.elements }

-- one text and another in its place
abbrev pub text_change : List ℕ → List ℕ → Changed
text_change before after = if bytes_eq before after then unchanged else record { texts = 1; elements = 0 }

-- an element counts where some text in it changes, at any depth
abbrev pub element_change : Changed → Changed
element_change inside = if inside.texts == 0 then inside else record { texts = inside.texts; elements = inside.elements + 1 }

-- two handlers' ids are the same, or there are none
abbrev pub is_same_handler : Option ℕ → Option ℕ → Bool
is_same_handler None None = true
is_same_handler (Some one) (Some other) = one == other
is_same_handler _ _ = false

-- the changes of siblings, each to the one in its place
abbrev pub along : List (Node → Option Changed) → List Node → Option Changed
along [] [] = Some unchanged
along (change ∷ changes) (node ∷ nodes) =
    option_and_then (λ here. option_map (λ behind. together here behind) (along changes nodes)) (change node)
along _ _ = None

-- the changes of a node, with those of its children in their places, to another
abbrev pub layer_changes : Node-F (Node → Option Changed) → Node-F Node → Option Changed
layer_changes (Element born name attributes handlers children) (Element other_born other_name others other_handlers nodes) =
    if born == other_born && bytes_eq name other_name && is_same_handler (click_handler handlers) (click_handler other_handlers)
    then option_map element_change (along children nodes)
    else None
layer_changes (Text born text) (Text other_born other) = if born == other_born then Some (text_change text other) else None
layer_changes _ _ = None

-- the changes of a node to another; none where they are not alike
abbrev pub node_changes : Node → Node → Option Changed
node_changes = fold-Node (Node → Option Changed) (λ layer other. layer_changes layer (out-Node other))

-- the changes of a page to another; none where they are not alike
abbrev pub page_changes : List Node → List Node → Option Changed
page_changes before after = along (map node_changes before) after

-- as counts of 32 bits that stay at the greatest
abbrev pub capped : Changed → Changed
capped change = record { texts = min change.texts (2 ^ 32 - 1); elements = min change.elements (2 ^ 32 - 1) }
