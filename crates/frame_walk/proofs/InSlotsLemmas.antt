-- What items have, the items of their slots have in the same order.
use Rattle.std.proofs.Common.{◌≡◌, ◌∙◌, refl, ap, sym, subst, ℕ, List, [], ◌∷◌, ◌++◌, map, append_assoc, append-nil}
use Rattle.std.specs.List.{flat_map}
use Rattle.cs_ast.specs.declared.value.Value.{Value}
use Rattle.frame_core.specs.declared.item.Item.{Item}
use Rattle.frame_core.specs.declared.item.Item.TheViews.{out-Item, roll-Item, out-roll-Item}
use Rattle.frame_core.specs.declared.item.Item.TheOpen.{Item-F, Element, Text, Markup, Component, Region}
use Rattle.frame_core.specs.declared.item.Item.TheVariants as item
use Rattle.frame_core.specs.declared.item.Item.TheFolds.{map-Item, ind-Item}
use Rattle.pairing_meaning.specs.Labels.{Label, label_of, same_label, like}
use Rattle.pairing_meaning.specs.Slots.{Mark, Slot, laid_out, laid_of, slots_of}
use Rattle.item_pairing.specs.Standing.{behind, slots_at}
use Rattle.item_pairing.proofs.SlotLemmas.{region-slots, leaf-slots}

pub flat-append : {X Y : Type 0} (f : X → List Y) (xs ys : List X) → flat_map f (xs ++ ys) ≡ flat_map f xs ++ flat_map f ys
flat-append f [] ys = refl
flat-append f (x ∷ xs) ys = ap (λ zs. f x ++ zs) (flat-append f xs ys) ∙ sym (append_assoc (f x) (flat_map f xs) (flat_map f ys))

pub flat-one : {X Y : Type 0} (f : X → List Y) (xs : List X) (x : X) → flat_map f (xs ++ x ∷ []) ≡ flat_map f xs ++ f x
flat-one f xs x = flat-append f xs (x ∷ []) ∙ ap (λ ys. flat_map f xs ++ ys) (append-nil (f x))

-- an item that is no region
abbrev pub NoRegion : Item → Type 0
NoRegion it = (number : ℕ) (key : Value) (children : List Item) → it ≡ item.Region number key children → ⊥

pub no-region : (x : Item-F Item) → ((number : ℕ) (key : Value) (children : List Item) → x ≡ Region number key children → ⊥) → NoRegion (roll-Item x)
no-region x other number key children is =
    other number key children (sym (out-roll-Item x) ∙ ap out-Item (is ∙ sym (item.rolls-Region number key children)) ∙ out-roll-Item (Region number key children))

module _ {Y : Type 0} (f : Item → List Y) (region : (it : Item) (number : ℕ) (key : Value) (children : List Item) → it ≡ item.Region number key children → f it ≡ flat_map (λ ys. ys) (map f children)) where
  abbrev of_slot : Slot → List Y
  of_slot slot = f slot.item

  Same : Item → Type 0
  Same it = (before : ℕ) → flat_map of_slot (slots_at it before) ≡ f it

  abbrev Such : Type 0
  Such = (it : Item) × Same it

  abbrev plain : List Such → List Item
  plain items = map (λ it. it.0) items

  abbrev known : Item-F Such → Item-F Item
  known y = map-Item Such Item (λ it. it.0) y

  all-same : (before : List Label) (items : List Such) → flat_map of_slot (laid_out before (map laid_of (plain items))) ≡ flat_map (λ ys. ys) (map f (plain items))
  unfolding Same
  all-same before [] = refl
  all-same before (it ∷ items) =
      let label = (laid_of it.0).label in
      flat-append of_slot (slots_at it.0 (like same_label label before)) (laid_out (before ++ label ∷ []) (map laid_of (plain items)))
      ∙ ap (λ (ys : List Y). ys ++ flat_map of_slot (laid_out (before ++ label ∷ []) (map laid_of (plain items)))) (it.1 (like same_label label before))
      ∙ ap (λ (ys : List Y). f it.0 ++ ys) (all-same (before ++ label ∷ []) items)

  flat-behind : (marks : List Mark) (slots : List Slot) → flat_map of_slot (map (behind marks) slots) ≡ flat_map of_slot slots
  flat-behind marks [] = refl
  flat-behind marks (slot ∷ slots) = ap (λ (ys : List Y). f slot.item ++ ys) (flat-behind marks slots)

  leaf : (it : Item) → NoRegion it → Same it
  unfolding Same
  leaf it other before = sym (flat-behind [] (slots_at it before)) ∙ ap (flat_map of_slot) (leaf-slots [] it before other) ∙ append-nil (f it)

  region-same : (children : List Such) (number : ℕ) (key : Value) (it : Item) → it ≡ item.Region number key (plain children) → Same it
  unfolding Same
  region-same children number key it is before =
      let mark : Mark = record { label = label_of it; before = before } in
      sym (flat-behind [] (slots_at it before))
      ∙ ap (flat_map of_slot) (region-slots [] it number key (plain children) before is)
      ∙ flat-behind (mark ∷ []) (slots_of (plain children))
      ∙ all-same [] children
      ∙ sym (region it number key (plain children) is)

  layer-same : (y : Item-F Such) → Same (roll-Item (known y))
  layer-same (Element number name key attributes children) = leaf (roll-Item (Element number name key attributes (plain children))) (no-region (Element number name key attributes (plain children)) (λ n k cs e. cc))
  layer-same (Text number text) = leaf (roll-Item (Text number text)) (no-region (Text number text) (λ n k cs e. cc))
  layer-same (Markup number text) = leaf (roll-Item (Markup number text)) (no-region (Markup number text) (λ n k cs e. cc))
  layer-same (Component number order made key parameters) = leaf (roll-Item (Component number order made key parameters)) (no-region (Component number order made key parameters) (λ n k cs e. cc))
  layer-same (Region number key children) = region-same children number key (roll-Item (Region number key (plain children))) (item.rolls-Region number key (plain children))

  step : (x : Item-F Item) (y : Item-F Such) → known y ≡ x → Same (roll-Item x)
  step x y e = subst (λ (z : Item-F Item). Same (roll-Item z)) e (layer-same y)

  one-item : (it : Item) → Same it
  one-item it = ind-Item Same step it

  such : List Item → List Such
  such [] = []
  such (it ∷ items) = (it, one-item it) ∷ such items

  plain-such : (items : List Item) → plain (such items) ≡ items
  unfolding such
  plain-such [] = refl
  plain-such (it ∷ items) = ap (λ (rest : List Item). it ∷ rest) (plain-such items)

  pub in-slots : (items : List Item) → flat_map (λ (slot : Slot). f slot.item) (slots_of items) ≡ flat_map (λ ys. ys) (map f items)
  in-slots items = subst (λ (them : List Item). flat_map of_slot (slots_of them) ≡ flat_map (λ ys. ys) (map f them)) (plain-such items) (all-same [] (such items))
