-- Nodes behind nodes.
use Rattle.std.proofs.Common.{◌≡◌, ◌∙◌, refl, sym, ap, ℕ, List, [], ◌∷◌, ◌++◌, map, append_assoc}
use Rattle.std.specs.Prelude.{Option, Some, None}
use Rattle.cs_ast.specs.declared.value.Value.{Value}
use Rattle.page_core.specs.declared.node.Node.{Node}
use Rattle.frame_core.specs.declared.item.Item.{Item}
use Rattle.frame_core.specs.declared.item.Item.TheOpen.{Item-F}
use Rattle.frame_core.specs.declared.item.Item.TheVariants as item
use Rattle.frame_core.specs.declared.item.Item.TheFolds.{fold-roll-Item}
use Rattle.frame_core.specs.declared.item_attribute.ItemAttribute.{ItemAttribute}
use Rattle.page_meaning.specs.Fresh.{Shown, shown, Shows, and_also, then_all, all_shown, dressed, in_element, shown_layer, shown_item, items_shown}

pub also_also : (nodes more : List Node) (found : Option Shown) → and_also nodes (and_also more found) ≡ and_also (nodes ++ more) found
also_also nodes more None = refl
also_also nodes more (Some it) = ap (λ all. Some (shown all it.given)) (sym (append_assoc nodes more it.nodes))

then-same : (found : Option Shown) (next other : Shows) → ((given : ℕ) → next given ≡ other given) → then_all found next ≡ then_all found other
then-same None next other same = refl
then-same (Some first) next other same = ap (and_also first.nodes) (same first.given)

all-items : (born : ℕ) (items : List Item) (given : ℕ) → all_shown (map (shown_item born) items) given ≡ items_shown born items given
all-items born [] given = refl
all-items born (one ∷ others) given = then-same (shown_item born one given) (all_shown (map (shown_item born) others)) (items_shown born others) (all-items born others)

pub element_shown : (born number : ℕ) (name : List ℕ) (key : Value) (worn : List ItemAttribute) (children : List Item) (given : ℕ)
    → shown_item born (item.Element number name key worn children) given ≡ in_element born name (dressed given worn) (items_shown born children (dressed given worn).given)
element_shown born number name key worn children given =
    ap (λ it. shown_item born it given) (sym (item.rolls-Element number name key worn children))
    ∙ ap (λ (f : Shows). f given) (fold-roll-Item Shows (shown_layer born) (Item-F.Element number name key worn children))
    ∙ ap (in_element born name (dressed given worn)) (all-items born children (dressed given worn).given)

pub region_shown : (born number : ℕ) (key : Value) (children : List Item) (given : ℕ)
    → shown_item born (item.Region number key children) given ≡ items_shown born children given
region_shown born number key children given =
    ap (λ it. shown_item born it given) (sym (item.rolls-Region number key children))
    ∙ ap (λ (f : Shows). f given) (fold-roll-Item Shows (shown_layer born) (Item-F.Region number key children))
    ∙ all-items born children given
