-- Whether tags of components are in a template is the same to what says which components stand alone and to what says which show a page.
use Rattle.std.proofs.Common.{◌≡◌, List, [], ◌∷◌, map, refl, sym, ap, subst, ◌∙◌}
use Rattle.std.specs.Prelude.{Bool, true, false, ◌||◌, Some, None}
use Rattle.razor_ast.specs.declared.node.TNode.{TNode, TNode-F, roll-TNode}
use Rattle.razor_ast.specs.declared.node.TNode.TheFolds.{ind-TNode, map-TNode, fold-roll-TNode, fold_out-TSection}
use Rattle.razor_ast.specs.declared.node.TNode.TheViews.{out-roll-TSection}
use Rattle.razor_ast.specs.declared.node.TSection.{TSection, TSection-F, roll-TSection}
use Rattle.standing_alone.specs.Tags as alone
use Rattle.standing_alone.specs.Tags.{layer_has_tag}
use Rattle.page_typing.specs.Pages.{any_tag, tag_in, has_tag}
use Rattle.page_typing.proofs.TagLaws.{section_tag, tag_at, tag_at_section}

abbrev SameNode : TNode → Type 0
SameNode node = alone.has_tag node ≡ has_tag node

abbrev SameSection : TSection → Type 0
SameSection it = alone.section_has_tag it ≡ section_tag it

abbrev SuchNode : Type 0
SuchNode = (node : TNode) × SameNode node

abbrev SuchSection : Type 0
SuchSection = (it : TSection) × SameSection it

abbrev Layer : Type 0
Layer = TNode-F SuchNode SuchSection

abbrev known : Layer → TNode-F TNode TSection
known y = map-TNode SuchNode SuchSection TNode TSection (λ z. z.0) (λ z. z.0) y

such_nodes : (all : List SuchNode) → alone.any_of (map alone.has_tag (map (λ (z : SuchNode). z.0) all)) ≡ any_tag (map has_tag (map (λ (z : SuchNode). z.0) all))
such_nodes [] = refl
such_nodes (one ∷ others) =
    ap (λ (yes : Bool). yes || alone.any_of (map alone.has_tag (map (λ (z : SuchNode). z.0) others))) one.1
    ∙ ap (λ (yes : Bool). has_tag one.0 || yes) (such_nodes others)

such_sections : (all : List SuchSection) → alone.any_of (map alone.section_has_tag (map (λ (z : SuchSection). z.0) all)) ≡ any_tag (map section_tag (map (λ (z : SuchSection). z.0) all))
such_sections [] = refl
such_sections (one ∷ others) =
    ap (λ (yes : Bool). yes || alone.any_of (map alone.section_has_tag (map (λ (z : SuchSection). z.0) others))) one.1
    ∙ ap (λ (yes : Bool). section_tag one.0 || yes) (such_sections others)

abbrev in_alone : TNode-F TNode TSection → Bool
in_alone x = layer_has_tag (map-TNode TNode TSection Bool Bool alone.has_tag alone.section_has_tag x)

abbrev in_pages : TNode-F TNode TSection → Bool
in_pages x = tag_in (map-TNode TNode TSection Bool Bool has_tag section_tag x)

layer_same : (y : Layer) → in_alone (known y) ≡ in_pages (known y)
layer_same (TNode-F.Element number place name attributes children) = such_nodes children
layer_same (TNode-F.Child number place name attributes children) = refl
layer_same (TNode-F.Text number place said) = refl
layer_same (TNode-F.Raw number place said) = refl
layer_same (TNode-F.Content number place a) = refl
layer_same (TNode-F.Group place items) = such_nodes items
layer_same (TNode-F.Statement one) = refl
layer_same (TNode-F.Block place items) = such_nodes items
layer_same (TNode-F.If place test holds None) = either (alone.has_tag holds.0) ∙ holds.1
  where
    either : (b : Bool) → (b || alone.if_there None) ≡ b
    either true = refl
    either false = refl
layer_same (TNode-F.If place test holds (Some fails)) =
    ap (λ (yes : Bool). yes || alone.has_tag fails.0) holds.1 ∙ ap (λ (yes : Bool). has_tag holds.0 || yes) fails.1
layer_same (TNode-F.Switch place a sections) = such_sections sections
layer_same (TNode-F.For number place start test step turn) = turn.1
layer_same (TNode-F.ForEach number place name list turn) = turn.1
layer_same (TNode-F.While number place test turn) = turn.1

node_step : (y : Layer) → SameNode (roll-TNode (known y))
node_step y =
    fold-roll-TNode Bool Bool layer_has_tag (λ it. alone.any_of it.items) (known y)
    ∙ layer_same y ∙ sym (tag_at (roll-TNode (known y)) (known y) refl)

section_step : (y : TSection-F SuchNode SuchSection) → SameSection (roll-TSection (record { labels = y.labels; items = map (λ (z : SuchNode). z.0) y.items }))
section_step y =
    let one : TSection = roll-TSection (record { labels = y.labels; items = map (λ (z : SuchNode). z.0) y.items }) in
    fold_out-TSection Bool Bool layer_has_tag (λ it. alone.any_of it.items) one
    ∙ ap (λ o. alone.any_of (map alone.has_tag o.items)) (out-roll-TSection (record { labels = y.labels; items = map (λ (z : SuchNode). z.0) y.items }))
    ∙ such_nodes y.items
    ∙ sym (tag_at_section y.labels (map (λ (z : SuchNode). z.0) y.items))

same_node : (node : TNode) → SameNode node
same_node =
    ind-TNode SameNode SameSection (λ x y is. subst (λ (z : TNode-F TNode TSection). SameNode (roll-TNode z)) is (node_step y))
    (λ x y is. subst (λ z. SameSection (roll-TSection z)) is (section_step y))

pub same_tags : (nodes : List TNode) → alone.any_of (map alone.has_tag nodes) ≡ any_tag (map has_tag nodes)
same_tags [] = refl
same_tags (one ∷ others) =
    ap (λ (yes : Bool). yes || alone.any_of (map alone.has_tag others)) (same_node one)
    ∙ ap (λ (yes : Bool). has_tag one || yes) (same_tags others)
