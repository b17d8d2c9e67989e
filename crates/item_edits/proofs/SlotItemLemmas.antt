-- What passes from items to the items of their slots.
use Rattle.std.proofs.Common.{◌≡◌, ◌∙◌, refl, ap, sym, subst, ℕ, zero, suc, List, [], ◌∷◌, ◌++◌, map, slice_get, Some}
use Rattle.cs_ast.specs.declared.value.Value.{Value}
use Rattle.frame_core.specs.declared.item.Item.{Item}
use Rattle.frame_core.specs.declared.item.Item.TheViews.{out-Item, roll-Item, out-roll-Item}
use Rattle.frame_core.specs.declared.item.Item.TheOpen.{Item-F, Element, Text, Markup, Component, Region}
use Rattle.frame_core.specs.declared.item.Item.TheVariants as item
use Rattle.frame_core.specs.declared.item.Item.TheFolds.{map-Item, ind-Item}
use Rattle.pairing_meaning.specs.Labels.{Label, label_of, same_label, like}
use Rattle.pairing_meaning.specs.Slots.{Mark, Slot, laid_out, laid_of, slots_of}
use Rattle.item_pairing.specs.Standing.{behind, slots_at}
use Rattle.item_pairing.proofs.SlotLemmas.{region-slots, leaf-slots}

-- an item that is no region
abbrev pub Leaf : Item → Type 0
Leaf it = (number : ℕ) (key : Value) (children : List Item) → it ≡ item.Region number key children → ⊥

module _ (Q : Item → Type 0) where
  abbrev pub EachItem : List Item → Type 0
  EachItem [] = Unit {0}
  EachItem (it ∷ items) = Q it × EachItem items

  abbrev pub EachSlot : List Slot → Type 0
  EachSlot [] = Unit {0}
  EachSlot (slot ∷ slots) = Q slot.item × Leaf slot.item × EachSlot slots

  each-append : (slots more : List Slot) → EachSlot slots → EachSlot more → EachSlot (slots ++ more)
  each-append [] more each rest = rest
  each-append (slot ∷ slots) more each rest = (each.0, each.1, each-append slots more each.2 rest)

  each-behind : (marks : List Mark) (slots : List Slot) → EachSlot slots → EachSlot (map (behind marks) slots)
  each-behind marks [] each = tt
  each-behind marks (slot ∷ slots) each = (each.0, each.1, each-behind marks slots each.2)

  each-before : (marks : List Mark) (slots : List Slot) → EachSlot (map (behind marks) slots) → EachSlot slots
  each-before marks [] each = tt
  each-before marks (slot ∷ slots) each = (each.0, each.1, each-before marks slots each.2)

  -- a slot's item has it, and is no region
  pub slot-has : (slots : List Slot) (place : ℕ) (slot : Slot) → EachSlot slots → slice_get slots place ≡ Some slot → Q slot.item × Leaf slot.item
  slot-has [] place slot each is = absurd (cc)
  slot-has (first ∷ slots) zero slot each is = let same : first ≡ slot = cc in subst (λ (z : Slot). Q z.item × Leaf z.item) same (each.0, each.1)
  slot-has (first ∷ slots) (suc place) slot each is = slot-has slots place slot each.2 is

  module _ (goes : (number : ℕ) (key : Value) (children : List Item) → Q (item.Region number key children) → EachItem children) where
    abbrev Passes : Item → Type 0
    Passes it = Q it → (before : ℕ) → EachSlot (slots_at it before)

    abbrev Such : Type 0
    Such = (it : Item) × Passes it

    abbrev plain : List Such → List Item
    plain items = map (λ it. it.0) items

    abbrev known : Item-F Such → Item-F Item
    known y = map-Item Such Item (λ it. it.0) y

    all-pass : (before : List Label) (items : List Such) → EachItem (plain items) → EachSlot (laid_out before (map laid_of (plain items)))
    all-pass before [] each = tt
    all-pass before (it ∷ items) each =
        let label = (laid_of it.0).label in
        each-append (slots_at it.0 (like same_label label before)) (laid_out (before ++ label ∷ []) (map laid_of (plain items)))
        (it.1 each.0 (like same_label label before)) (all-pass (before ++ label ∷ []) items each.1)

    leaf : (it : Item) → Leaf it → Passes it
    leaf it other q before = each-before [] (slots_at it before) (subst (λ (slots : List Slot). EachSlot slots) (sym (leaf-slots [] it before other)) (q, other, tt))

    no-region : (x : Item-F Item) → ((number : ℕ) (key : Value) (children : List Item) → x ≡ Region number key children → ⊥) → (number : ℕ) (key : Value) (children : List Item) → roll-Item x ≡ item.Region number key children → ⊥
    no-region x other number key children is =
        other number key children (sym (out-roll-Item x) ∙ ap out-Item (is ∙ sym (item.rolls-Region number key children)) ∙ out-roll-Item (Region number key children))

    layer-passes : (y : Item-F Such) → Passes (roll-Item (known y))
    layer-passes (Element number name key attributes children) q before = leaf (roll-Item (Element number name key attributes (plain children))) (no-region (Element number name key attributes (plain children)) (λ n k cs e. cc)) q before
    layer-passes (Text number text) q before = leaf (roll-Item (Text number text)) (no-region (Text number text) (λ n k cs e. cc)) q before
    layer-passes (Markup number text) q before = leaf (roll-Item (Markup number text)) (no-region (Markup number text) (λ n k cs e. cc)) q before
    layer-passes (Component number order made key parameters) q before = leaf (roll-Item (Component number order made key parameters)) (no-region (Component number order made key parameters) (λ n k cs e. cc)) q before
    layer-passes (Region number key children) q before =
        let it = roll-Item (Region number key (plain children)) in
        let is : it ≡ item.Region number key (plain children) = item.rolls-Region number key (plain children) in
        let inner = all-pass [] children (goes number key (plain children) (subst Q is q)) in
        each-before [] (slots_at it before)
        (subst (λ (slots : List Slot). EachSlot slots) (sym (region-slots [] it number key (plain children) before is))
        (each-behind (record { label = label_of it; before = before } ∷ []) (slots_of (plain children)) inner))

    step : (x : Item-F Item) (y : Item-F Such) → known y ≡ x → Passes (roll-Item x)
    step x y e = subst (λ (z : Item-F Item). Passes (roll-Item z)) e (layer-passes y)

    one-passes : (it : Item) → Passes it
    one-passes it = ind-Item Passes step it

    such : List Item → List Such
    such [] = []
    such (it ∷ items) = (it, one-passes it) ∷ such items

    plain-such : (items : List Item) → plain (such items) ≡ items
    unfolding such
    plain-such [] = refl
    plain-such (it ∷ items) = ap (λ (rest : List Item). it ∷ rest) (plain-such items)

    -- what each item has, each slot's item has
    pub each-slot : (items : List Item) → EachItem items → EachSlot (slots_of items)
    each-slot items each =
        subst (λ (them : List Item). EachSlot (slots_of them)) (plain-such items) (all-pass [] (such items) (subst (λ (them : List Item). EachItem them) (sym (plain-such items)) each))
