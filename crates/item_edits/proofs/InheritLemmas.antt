-- What the slots of items have of their items.
use Rattle.std.proofs.Common.{◌≡◌, ◌∙◌, refl, ap, sym, subst, ℕ, ◌+◌, List, [], ◌∷◌, ◌++◌, length, map, arith, length-append}
use Rattle.std.specs.List.{flat_map}
use Rattle.std.proofs.lemmas.List.{length-map}
use Rattle.cs_ast.specs.declared.value.Value.{Value}
use Rattle.frame_core.specs.declared.item.Item.{Item}
use Rattle.frame_core.specs.declared.item.Item.TheViews.{out-Item, roll-Item, out-roll-Item}
use Rattle.frame_core.specs.declared.item.Item.TheOpen.{Item-F, Element, Text, Markup, Component, Region}
use Rattle.frame_core.specs.declared.item.Item.TheVariants as item
use Rattle.frame_core.specs.declared.item.Item.TheFolds.{fold-Item, map-Item, fold-roll-Item, ind-Item}
use Rattle.frame_core.specs.declared.wire_node.WireNode.{WireNode}
use Rattle.pairing_meaning.specs.Labels.{Label, same_label, like}
use Rattle.pairing_meaning.specs.Slots.{Mark, Slot, Laid, within, laid_out, laid_layer, laid_of, slots_of}
use Rattle.pairing_meaning.specs.Wires.{wires_layer, wires_in, wires_of}

abbrev Long : Item → Type 0
Long it = (before : ℕ) → length (wires_in it) ≡ length ((laid_of it).slots before)

abbrev Such : Type 0
Such = (it : Item) × Long it

abbrev plain : List Such → List Item
plain items = map (λ it. it.0) items

abbrev known : Item-F Such → Item-F Item
known y = map-Item Such Item (λ it. it.0) y

all-long : (before : List Label) (items : List Such) → length (wires_of (plain items)) ≡ length (laid_out before (map laid_of (plain items)))
all-long before [] = refl
all-long before (it ∷ items) =
    let label = (laid_of it.0).label in
    let here = it.1 (like same_label label before) in
    let rest = all-long (before ++ label ∷ []) items in
    length-append (wires_in it.0) (wires_of (plain items))
    ∙ omega (arith, here, rest)
    ∙ sym (length-append ((laid_of it.0).slots (like same_label label before)) (laid_out (before ++ label ∷ []) (map laid_of (plain items))))

layer-long : (y : Item-F Such) → Long (roll-Item (known y))
layer-long (Element number name key attributes children) before =
    ap length (fold-roll-Item (List WireNode) wires_layer (Element number name key attributes (plain children)))
    ∙ sym (ap (λ (l : Laid). length (l.slots before)) (fold-roll-Item Laid laid_layer (Element number name key attributes (plain children))))
layer-long (Text number text) before =
    ap length (fold-roll-Item (List WireNode) wires_layer (Text number text)) ∙ sym (ap (λ (l : Laid). length (l.slots before)) (fold-roll-Item Laid laid_layer (Text number text)))
layer-long (Markup number text) before =
    ap length (fold-roll-Item (List WireNode) wires_layer (Markup number text)) ∙ sym (ap (λ (l : Laid). length (l.slots before)) (fold-roll-Item Laid laid_layer (Markup number text)))
layer-long (Component number order made key parameters) before =
    ap length (fold-roll-Item (List WireNode) wires_layer (Component number order made key parameters)) ∙ sym (ap (λ (l : Laid). length (l.slots before)) (fold-roll-Item Laid laid_layer (Component number order made key parameters)))
layer-long (Region number key children) before =
    ap length (fold-roll-Item (List WireNode) wires_layer (Region number key (plain children)))
    ∙ all-long [] children
    ∙ sym (length-map (laid_out [] (map laid_of (plain children))) _)
    ∙ sym (ap (λ (l : Laid). length (l.slots before)) (fold-roll-Item Laid laid_layer (Region number key (plain children))))

step : (x : Item-F Item) (y : Item-F Such) → known y ≡ x → Long (roll-Item x)
step x y e = subst (λ (z : Item-F Item). Long (roll-Item z)) e (layer-long y)

one-long : (it : Item) → Long it
one-long it = ind-Item Long step it

such : List Item → List Such
such [] = []
such (it ∷ items) = (it, one-long it) ∷ such items

plain-such : (items : List Item) → plain (such items) ≡ items
unfolding such
plain-such [] = refl
plain-such (it ∷ items) = ap (λ (rest : List Item). it ∷ rest) (plain-such items)

-- one wire for each slot
pub wires-long : (items : List Item) → length (wires_of items) ≡ length (slots_of items)
wires-long items = subst (λ (them : List Item). length (wires_of them) ≡ length (slots_of them)) (plain-such items) (all-long [] (such items))
