-- The fresh rendering of a small component.
use Rattle.std.proofs.Common.{◌≡◌, ℕ, zero, suc, ◌<◌, sym, ap, ◌∙◌, List, map, arith}
use Rattle.std.specs.Prelude.{[], ◌∷◌, codes, false, Some, encode_utf8_all}
use Rattle.std.proofs.lemmas.Str.{encodes-IsAscii}
use Rattle.text_core.specs.declared.place.Place.{Place}
use Rattle.page_core.specs.declared.node.Node.TheOpen as node
use Rattle.page_core.specs.declared.node.Node.TheViews.{roll-Node}
use Rattle.std.specs.Str.{IsAscii}
use Rattle.cs_ast.specs.declared.value.Value.{Value}
use Rattle.cs_ast.specs.declared.value.Value.TheVariants as v
use Rattle.frame_core.specs.declared.item_attribute.ItemAttribute.{ItemAttribute}
use Rattle.frame_core.specs.declared.item.Item.{Item, Item-F}
use Rattle.frame_core.specs.declared.item.Item.TheVariants as item
use Rattle.frame_core.specs.declared.item.Item.TheFolds.{fold-roll-Item}
use Rattle.razor_ast.specs.declared.component.Component.{Component}
use Rattle.razor_ast.specs.declared.node.TNode.{TNode-F, roll-TNode}
use Rattle.drawing_meaning.specs.Drawing.{begun, begun_at}
use Rattle.page_meaning.specs.Fresh.{fresh_alone, page, shown_item, shown_layer, Shows, items_shown, then_all, nodes_of}
use Rattle.drawing_meaning.specs.Acts.{in_order}
use Rattle.drawing_meaning.specs.Attributes.{all_worn}
use Rattle.drawing_meaning.specs.Keys.{siblings}
use Rattle.drawing_meaning.specs.Nodes.{element, text}
use Rattle.page_meaning.specs.Items.{items_from, component_acts}
use Rattle.page_meaning.specs.Nodes.{element as resolved_element, text as resolved_text}
use Rattle.page_meaning.proofs.PartLaws.{part_law}

abbrev at : ℕ → Place
at column = record { line = 1; column = column }

-- `<p>x</p>`
abbrev small : Component
small = record {
  name = codes "A";
  disposes = false;
  members = [];
  nodes = roll-TNode (TNode-F.Element 0 (at 1) (record { place = at 2; name = codes "p" }) [] (roll-TNode (TNode-F.Text 1 (at 4) (codes "x")) ∷ [])) ∷ [];
}

below_128 : (c : ℕ) → c < 128 → IsAscii (c ∷ [])
below_128 c h zero = h
below_128 c h (suc i) = omega arith

p_bytes : encode_utf8_all (codes "p") ≡ codes "p"
p_bytes = encodes-IsAscii (codes "p") (below_128 112 (omega arith))

x_bytes : encode_utf8_all (codes "x") ≡ codes "x"
x_bytes = encodes-IsAscii (codes "x") (below_128 120 (omega arith))

text_shown : (born number : ℕ) (said : List ℕ) → shown_item born (item.Text number said) ≡ shown_layer born (Item-F.Text number said)
text_shown born number said = ap (shown_item born) (sym (item.rolls-Text number said)) ∙ fold-roll-Item Shows (shown_layer born) (Item-F.Text number said)

element_shown : (born number : ℕ) (name : List ℕ) (key : Value) (attributes : List ItemAttribute) (children : List Item) →
    shown_item born (item.Element number name key attributes children) ≡ shown_layer born (Item-F.Element number name key attributes (map (shown_item born) children))
element_shown born number name key attributes children =
    ap (shown_item born) (sym (item.rolls-Element number name key attributes children))
    ∙ fold-roll-Item Shows (shown_layer born) (Item-F.Element number name key attributes children)

as_items : items_shown 1 (item.Element 0 (codes "p") v.Null [] (item.Text 1 (codes "x") ∷ []) ∷ []) 0 ≡ Some (record { nodes = roll-Node (node.Element 1 (codes "p") [] [] (roll-Node (node.Text 1 (codes "x")) ∷ [])) ∷ []; given = 0 })
as_items =
    ap (λ (f : Shows). then_all (f 0) (items_shown 1 []))
    (element_shown 1 0 (codes "p") v.Null [] (item.Text 1 (codes "x") ∷ []) ∙ ap (λ (g : Shows). shown_layer 1 (Item-F.Element 0 (codes "p") v.Null [] (g ∷ []))) (text_shown 1 1 (codes "x")))

shown : fresh_alone small ≡ page (roll-Node (node.Element 1 (codes "p") [] [] (roll-Node (node.Text 1 (codes "x")) ∷ [])) ∷ [])
unfolding fresh_alone items_from component_acts resolved_element resolved_text element text in_order all_worn siblings begun begun_at
shown = simp (part_law, p_bytes, x_bytes, item.outs-Text, item.outs-Element) (ap nodes_of as_items)
