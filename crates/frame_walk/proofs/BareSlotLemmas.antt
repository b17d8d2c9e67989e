-- Items that differ in ids alone have as many handlers, and the same slots.
use Rattle.std.proofs.Common.{◌≡◌, ◌∙◌, refl, ap, sym, subst, ℕ, ◌+◌, List, [], ◌∷◌, ◌++◌, length, map, length-append}
use Rattle.std.specs.List.{flat_map}
use Rattle.cs_ast.specs.declared.value.Value.{Value}
use Rattle.frame_core.specs.declared.item.Item.{Item}
use Rattle.frame_core.specs.declared.item.Item.TheViews.{out-Item, roll-Item}
use Rattle.frame_core.specs.declared.item.Item.TheOpen.{Item-F, Element, Text, Markup, Component, Region}
use Rattle.frame_core.specs.declared.item.Item.TheVariants as item
use Rattle.frame_core.specs.declared.item.Item.TheFolds.{map-Item, fold-roll-Item, fold_out-Item, ind-Item}
use Rattle.frame_core.specs.declared.item_attribute.ItemAttribute.{ItemAttribute}
use Rattle.frame_core.specs.declared.item_attribute.ItemValue.{ItemValue}
use Rattle.frame_core.specs.declared.item_attribute.ItemValue.TheVariants as held
use Rattle.handler_ids.specs.declared.handler_value.HandlerValue.{HandlerValue}
use Rattle.pairing_meaning.specs.Labels.{Label, label_by, label_of, same_label, like}
use Rattle.pairing_meaning.specs.Slots.{Mark, Slot, Laid, laid_out, laid_layer, laid_of, slots_of, addresses}
use Rattle.item_pairing.specs.Standing.{behind, slots_at}
use Rattle.item_pairing.proofs.SlotLemmas.{laid-label, region-slots, leaf-slots}
use Rattle.item_edits.proofs.PairLemmas.{out-element, out-region}
use Rattle.frame_walk.specs.Ids.{value_under, value_of, values_layer, values_in, values_of, id_under, id_of, ids_layer, ids_in, ids_of, bare_value, bare_attribute, bare_layer, bare}
use Rattle.frame_walk.proofs.InSlotsLemmas.{NoRegion, no-region}

-- a slot whose handlers have no ids
abbrev pub bare_slot : Slot → Slot
bare_slot slot = record { address = slot.address; item = bare slot.item }

pub values-element : (n : ℕ) (name : List ℕ) (key : Value) (attributes : List ItemAttribute) (children : List Item) → values_in (item.Element n name key attributes children) ≡ flat_map value_of attributes ++ values_of children
values-element n name key attributes children = ap values_in (sym (item.rolls-Element n name key attributes children)) ∙ fold-roll-Item (List HandlerValue) values_layer (Element n name key attributes children)

pub ids-element : (n : ℕ) (name : List ℕ) (key : Value) (attributes : List ItemAttribute) (children : List Item) → ids_in (item.Element n name key attributes children) ≡ flat_map id_of attributes ++ ids_of children
ids-element n name key attributes children = ap ids_in (sym (item.rolls-Element n name key attributes children)) ∙ fold-roll-Item (List ℕ) ids_layer (Element n name key attributes children)

pub values-region : (it : Item) (n : ℕ) (key : Value) (children : List Item) → it ≡ item.Region n key children → values_in it ≡ values_of children
values-region it n key children is = ap values_in (is ∙ sym (item.rolls-Region n key children)) ∙ fold-roll-Item (List HandlerValue) values_layer (Region n key children)

pub ids-region : (it : Item) (n : ℕ) (key : Value) (children : List Item) → it ≡ item.Region n key children → ids_in it ≡ ids_of children
ids-region it n key children is = ap ids_in (is ∙ sym (item.rolls-Region n key children)) ∙ fold-roll-Item (List ℕ) ids_layer (Region n key children)

value-bare : (name : List ℕ) (value : ItemValue) → value_under name (bare_value value) ≡ value_under name value
value-bare name (held.Text text) = refl
value-bare name (held.Handler handler) = refl

values-bare : (attributes : List ItemAttribute) → flat_map value_of (map bare_attribute attributes) ≡ flat_map value_of attributes
values-bare [] = refl
values-bare (attribute ∷ attributes) =
    ap (λ (vs : List HandlerValue). vs ++ flat_map value_of (map bare_attribute attributes)) (value-bare attribute.name attribute.value) ∙ ap (λ (vs : List HandlerValue). value_of attribute ++ vs) (values-bare attributes)

id-value : (name : List ℕ) (value : ItemValue) → length (id_under value) ≡ length (value_under name value)
id-value name (held.Text text) = refl
id-value name (held.Handler handler) = refl

ids-values : (attributes : List ItemAttribute) → length (flat_map id_of attributes) ≡ length (flat_map value_of attributes)
ids-values [] = refl
ids-values (attribute ∷ attributes) =
    length-append (id_of attribute) (flat_map id_of attributes)
    ∙ ap (λ n. n + length (flat_map id_of attributes)) (id-value attribute.name attribute.value)
    ∙ ap (λ n. length (value_of attribute) + n) (ids-values attributes)
    ∙ sym (length-append (value_of attribute) (flat_map value_of attributes))

-- attributes that differ in ids alone have as many handlers
pub as-many : (walked attributes : List ItemAttribute) → map bare_attribute walked ≡ map bare_attribute attributes → length (flat_map id_of walked) ≡ length (flat_map value_of attributes)
as-many walked attributes same = ids-values walked ∙ ap length (sym (values-bare walked) ∙ ap (flat_map value_of) same ∙ values-bare attributes)

map-join : {X Y : Type 0} (f : X → Y) (xs ys : List X) → map f (xs ++ ys) ≡ map f xs ++ map f ys
map-join f [] ys = refl
map-join f (x ∷ xs) ys = ap (λ zs. f x ∷ zs) (map-join f xs ys)

behind-nothing : (slots : List Slot) → map (behind []) slots ≡ slots
behind-nothing [] = refl
behind-nothing (slot ∷ slots) = ap (λ (rest : List Slot). slot ∷ rest) (behind-nothing slots)

behind-bare : (marks : List Mark) (slots : List Slot) → map (behind marks) (map bare_slot slots) ≡ map bare_slot (map (behind marks) slots)
behind-bare marks [] = refl
behind-bare marks (slot ∷ slots) = ap (λ (rest : List Slot). behind marks (bare_slot slot) ∷ rest) (behind-bare marks slots)

-- what an item has in common with the same one without ids
pub record Twin (it : Item) : Type 0 where
  pub values : values_in (bare it) ≡ values_in it
  pub ids : length (ids_in it) ≡ length (values_in it)
  pub label : label_of (bare it) ≡ label_of it
  pub slots : (before : ℕ) → slots_at (bare it) before ≡ map bare_slot (slots_at it before)

abbrev Such : Type 0
Such = (it : Item) × Twin it

abbrev plain : List Such → List Item
plain items = map (λ it. it.0) items

abbrev known : Item-F Such → Item-F Item
known y = map-Item Such Item (λ it. it.0) y

all-values : (items : List Such) → values_of (map bare (plain items)) ≡ values_of (plain items)
all-values [] = refl
all-values (it ∷ items) =
    ap (λ (vs : List HandlerValue). vs ++ values_of (map bare (plain items))) it.1.values ∙ ap (λ (vs : List HandlerValue). values_in it.0 ++ vs) (all-values items)

all-ids : (items : List Such) → length (ids_of (plain items)) ≡ length (values_of (plain items))
all-ids [] = refl
all-ids (it ∷ items) =
    length-append (ids_in it.0) (ids_of (plain items))
    ∙ ap (λ n. n + length (ids_of (plain items))) it.1.ids
    ∙ ap (λ n. length (values_in it.0) + n) (all-ids items)
    ∙ sym (length-append (values_in it.0) (values_of (plain items)))

all-slots : (before : List Label) (items : List Such) → laid_out before (map laid_of (map bare (plain items))) ≡ map bare_slot (laid_out before (map laid_of (plain items)))
all-slots before [] = refl
all-slots before (it ∷ items) =
    let label = (laid_of it.0).label in
    let rest = map laid_of (map bare (plain items)) in
    ap (λ (l : Label). slots_at (bare it.0) (like same_label l before) ++ laid_out (before ++ l ∷ []) rest) (laid-label (bare it.0) ∙ it.1.label ∙ sym (laid-label it.0))
    ∙ ap (λ (ss : List Slot). ss ++ laid_out (before ++ label ∷ []) rest) (it.1.slots (like same_label label before))
    ∙ ap (λ (ss : List Slot). map bare_slot (slots_at it.0 (like same_label label before)) ++ ss) (all-slots (before ++ label ∷ []) items)
    ∙ sym (map-join bare_slot (slots_at it.0 (like same_label label before)) (laid_out (before ++ label ∷ []) (map laid_of (plain items))))

leaf-slot : (it : Item) (before : ℕ) → NoRegion it → slots_at it before ≡ record { address = record { regions = []; label = label_of it }; item = it } ∷ []
leaf-slot it before other = sym (behind-nothing (slots_at it before)) ∙ leaf-slots [] it before other

leaf-twin : (it : Item) (before : ℕ) → label_of (bare it) ≡ label_of it → NoRegion it → NoRegion (bare it) → slots_at (bare it) before ≡ map bare_slot (slots_at it before)
leaf-twin it before same other bare-other =
    leaf-slot (bare it) before bare-other
    ∙ ap (λ (l : Label). record { address = record { regions = []; label = l }; item = bare it } ∷ []) same
    ∙ sym (ap (map bare_slot) (leaf-slot it before other))

same-twin : (it : Item) → bare it ≡ it → length (ids_in it) ≡ length (values_in it) → NoRegion it → Twin it
same-twin it same long other =
    let label : label_of (bare it) ≡ label_of it = ap label_of same in
    record { values = ap values_in same; ids = long; label = label; slots = λ before. leaf-twin it before label other (subst NoRegion (sym same) other) }

element-twin : (it : Item) (number : ℕ) (name : List ℕ) (key : Value) (attributes : List ItemAttribute) (children : List Such) → it ≡ item.Element number name key attributes (plain children)
    → bare it ≡ item.Element number name key (map bare_attribute attributes) (map bare (plain children)) → NoRegion it → NoRegion (bare it) → Twin it
element-twin it number name key attributes children own is other bare-other =
    let label : label_of (bare it) ≡ label_of it =
    ap label_of is ∙ ap (λ (x : Item-F Item). label_by x) (out-element number name key (map bare_attribute attributes) (map bare (plain children)))
    ∙ sym (ap label_of own ∙ ap (λ (x : Item-F Item). label_by x) (out-element number name key attributes (plain children))) in
    let held-values = ap values_in own ∙ values-element number name key attributes (plain children) in
    record {
      values = ap values_in is ∙ values-element number name key (map bare_attribute attributes) (map bare (plain children))
          ∙ ap (λ (vs : List HandlerValue). vs ++ values_of (map bare (plain children))) (values-bare attributes)
          ∙ ap (λ (vs : List HandlerValue). flat_map value_of attributes ++ vs) (all-values children)
          ∙ sym held-values;
      ids = ap length (ap ids_in own ∙ ids-element number name key attributes (plain children))
          ∙ length-append (flat_map id_of attributes) (ids_of (plain children))
          ∙ ap (λ n. n + length (ids_of (plain children))) (ids-values attributes)
          ∙ ap (λ n. length (flat_map value_of attributes) + n) (all-ids children)
          ∙ sym (ap length held-values ∙ length-append (flat_map value_of attributes) (values_of (plain children)));
      label = label;
      slots = λ before. leaf-twin it before label other bare-other;
    }

region-twin : (it : Item) (number : ℕ) (key : Value) (children : List Such) → it ≡ item.Region number key (plain children) → bare it ≡ item.Region number key (map bare (plain children)) → Twin it
region-twin it number key children own is =
    let label : label_of (bare it) ≡ label_of it =
    ap label_of is ∙ ap (λ (x : Item-F Item). label_by x) (out-region number key (map bare (plain children))) ∙ sym (ap label_of own ∙ ap (λ (x : Item-F Item). label_by x) (out-region number key (plain children))) in
    record {
      values = values-region (bare it) number key (map bare (plain children)) is ∙ all-values children ∙ sym (values-region it number key (plain children) own);
      ids = ap length (ids-region it number key (plain children) own) ∙ all-ids children ∙ sym (ap length (values-region it number key (plain children) own));
      label = label;
      slots = λ before.
          let mark : Mark = record { label = label_of it; before = before } in
          sym (behind-nothing (slots_at (bare it) before))
          ∙ region-slots [] (bare it) number key (map bare (plain children)) before is
          ∙ ap (λ (l : Label). map (behind (record { label = l; before = before } ∷ [])) (slots_of (map bare (plain children)))) label
          ∙ ap (map (behind (mark ∷ []))) (all-slots [] children)
          ∙ behind-bare (mark ∷ []) (slots_of (plain children))
          ∙ sym (ap (map bare_slot) (sym (behind-nothing (slots_at it before)) ∙ region-slots [] it number key (plain children) before own));
    }

layer-twin : (y : Item-F Such) → Twin (roll-Item (known y))
layer-twin (Element number name key attributes children) =
    let layer = Element number name key attributes (plain children) in
    let is : bare (roll-Item layer) ≡ item.Element number name key (map bare_attribute attributes) (map bare (plain children)) = fold-roll-Item Item bare_layer layer in
    element-twin (roll-Item layer) number name key attributes children (item.rolls-Element number name key attributes (plain children)) is (no-region layer (λ n k cs e. cc))
    (subst NoRegion (item.rolls-Element number name key (map bare_attribute attributes) (map bare (plain children)) ∙ sym is) (no-region (Element number name key (map bare_attribute attributes) (map bare (plain children))) (λ n k cs e. cc)))
layer-twin (Text number text) =
    let layer = Text number text in
    same-twin (roll-Item layer) (fold-roll-Item Item bare_layer layer ∙ sym (item.rolls-Text number text))
    (ap length (fold-roll-Item (List ℕ) ids_layer layer) ∙ sym (ap length (fold-roll-Item (List HandlerValue) values_layer layer))) (no-region layer (λ n k cs e. cc))
layer-twin (Markup number text) =
    let layer = Markup number text in
    same-twin (roll-Item layer) (fold-roll-Item Item bare_layer layer ∙ sym (item.rolls-Markup number text))
    (ap length (fold-roll-Item (List ℕ) ids_layer layer) ∙ sym (ap length (fold-roll-Item (List HandlerValue) values_layer layer))) (no-region layer (λ n k cs e. cc))
layer-twin (Component number order made key parameters) =
    let layer = Component number order made key parameters in
    same-twin (roll-Item layer) (fold-roll-Item Item bare_layer layer ∙ sym (item.rolls-Component number order made key parameters))
    (ap length (fold-roll-Item (List ℕ) ids_layer layer) ∙ sym (ap length (fold-roll-Item (List HandlerValue) values_layer layer))) (no-region layer (λ n k cs e. cc))
layer-twin (Region number key children) =
    let layer = Region number key (plain children) in
    region-twin (roll-Item layer) number key children (item.rolls-Region number key (plain children)) (fold-roll-Item Item bare_layer layer)

step : (x : Item-F Item) (y : Item-F Such) → known y ≡ x → Twin (roll-Item x)
step x y e = subst (λ (z : Item-F Item). Twin (roll-Item z)) e (layer-twin y)

one-twin : (it : Item) → Twin it
one-twin it = ind-Item Twin step it

such : List Item → List Such
such [] = []
such (it ∷ items) = (it, one-twin it) ∷ such items

plain-such : (items : List Item) → plain (such items) ≡ items
unfolding such
plain-such [] = refl
plain-such (it ∷ items) = ap (λ (rest : List Item). it ∷ rest) (plain-such items)

slots-bare : (items : List Item) → slots_of (map bare items) ≡ map bare_slot (slots_of items)
slots-bare items = subst (λ (them : List Item). slots_of (map bare them) ≡ map bare_slot (slots_of them)) (plain-such items) (all-slots [] (such items))

-- what differs in ids alone has the same slots, but for ids
pub same-slots : (items others : List Item) → map bare items ≡ map bare others → map bare_slot (slots_of items) ≡ map bare_slot (slots_of others)
same-slots items others same = sym (slots-bare items) ∙ ap slots_of same ∙ slots-bare others

-- and as many handlers
pub same-count : (it other : Item) → bare it ≡ bare other → length (ids_in it) ≡ length (values_in other)
same-count it other same = (one-twin it).ids ∙ ap length (sym (one-twin it).values ∙ ap values_in same ∙ (one-twin other).values)

addresses-bare : (slots : List Slot) → addresses (map bare_slot slots) ≡ addresses slots
addresses-bare [] = refl
addresses-bare (slot ∷ slots) = ap (λ rest. slot.address ∷ rest) (addresses-bare slots)

-- and the same addresses
pub same-addresses : (slots others : List Slot) → map bare_slot slots ≡ map bare_slot others → addresses slots ≡ addresses others
same-addresses slots others same = sym (addresses-bare slots) ∙ ap addresses same ∙ addresses-bare others
