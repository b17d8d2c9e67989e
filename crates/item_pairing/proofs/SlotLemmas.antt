-- The slots of one more item.
use Rattle.std.specs.Prelude.{◌↔◌, IsTrue, Bool}
use Rattle.std.proofs.Common.{◌≡◌, ℕ, zero, suc, ◌+◌, ◌<◌, List, [], ◌∷◌, ◌++◌, length, map, take, drop, get_or, refl, sym, ap, ◌∙◌, subst, append_assoc, append-nil, arith}
use Rattle.frame_core.specs.declared.item.Item.{Item}
use Rattle.frame_core.specs.declared.item.Item.TheViews.{out-Item, roll-Item, out-roll-Item, roll-out-Item}
use Rattle.frame_core.specs.declared.item.Item.TheOpen.{Item-F, Element, Text, Markup, Component, Region}
use Rattle.frame_core.specs.declared.item.Item.TheVariants as item
use Rattle.frame_core.specs.declared.item.Item.TheFolds.{fold-Item, map-Item, fold-roll-Item, fold_out-Item, ind-Item}
use Rattle.cs_ast.specs.declared.value.Value.{Value}
use Rattle.pairing_meaning.specs.Labels.{Label, label_by, label_of, same_label, like}
use Rattle.pairing_meaning.specs.Slots.{Mark, Address, Slot, Laid, addresses, within, laid_out, laid_layer, laid_of, item_by, slots_by, slots_of}
use Rattle.item_pairing.specs.declared.slots.Around.{Around}
use Rattle.item_pairing.specs.declared.slots.Slot.{Slot as Held}
use Rattle.item_pairing.specs.Standing.{mark_of, address_of, slot_of, behind, slots_at}

abbrev Such : Type 0
Such = (it : Item) × ((laid_of it).item ≡ it)

abbrev plain : List Such → List Item
plain items = map (λ it. it.0) items

all-same : (items : List Such) → map (λ it. it.item) (map laid_of (plain items)) ≡ plain items
all-same [] = refl
all-same (it ∷ items) = ap (λ (x : Item). x ∷ map (λ l. l.item) (map laid_of (plain items))) it.1 ∙ ap (λ (xs : List Item). it.0 ∷ xs) (all-same items)

abbrev known : Item-F Such → Item-F Item
known y = map-Item Such Item (λ it. it.0) y

layer-same : (y : Item-F Such) → (laid_of (roll-Item (known y))).item ≡ roll-Item (known y)
layer-same (Element number name key attributes children) =
    ap (λ (l : Laid). l.item) (fold-roll-Item Laid laid_layer (Element number name key attributes (plain children)))
    ∙ ap (λ (xs : List Item). item.Element number name key attributes xs) (all-same children) ∙ sym (item.rolls-Element number name key attributes (plain children))
layer-same (Text number text) = ap (λ (l : Laid). l.item) (fold-roll-Item Laid laid_layer (Text number text)) ∙ sym (item.rolls-Text number text)
layer-same (Markup number text) = ap (λ (l : Laid). l.item) (fold-roll-Item Laid laid_layer (Markup number text)) ∙ sym (item.rolls-Markup number text)
layer-same (Component number order made key parameters) =
    ap (λ (l : Laid). l.item) (fold-roll-Item Laid laid_layer (Component number order made key parameters)) ∙ sym (item.rolls-Component number order made key parameters)
layer-same (Region number key children) =
    ap (λ (l : Laid). l.item) (fold-roll-Item Laid laid_layer (Region number key (plain children)))
    ∙ ap (λ (xs : List Item). item.Region number key xs) (all-same children) ∙ sym (item.rolls-Region number key (plain children))

step : (x : Item-F Item) (y : Item-F Such) → known y ≡ x → (laid_of (roll-Item x)).item ≡ roll-Item x
step x y e = subst (λ (z : Item-F Item). (laid_of (roll-Item z)).item ≡ roll-Item z) e (layer-same y)

laid-item : (it : Item) → (laid_of it).item ≡ it
laid-item it = ind-Item (λ (z : Item). (laid_of z).item ≡ z) step it

label-layer : (x : Item-F Item) → label_by (map-Item Item Laid laid_of x) ≡ label_by x
label-layer (Element number name key attributes children) = refl
label-layer (Text number text) = refl
label-layer (Markup number text) = refl
label-layer (Component number order made key parameters) = refl
label-layer (Region number key children) = refl

pub laid-label : (it : Item) → (laid_of it).label ≡ label_of it
laid-label it = ap (λ (l : Laid). l.label) (fold_out-Item Laid laid_layer it) ∙ label-layer (out-Item it)

-- the slots of an item by its layer
at-layer : (it : Item) (before : ℕ) (x : Item-F Item) → out-Item it ≡ x → slots_at it before ≡ slots_by (label_of it) it before (map-Item Item Laid laid_of x)
at-layer it before x e =
    let layer = map-Item Item Laid laid_of (out-Item it) in
    ap (λ (l : Laid). l.slots before) (fold_out-Item Laid laid_layer it)
    ∙ ap (λ (l : Label). slots_by l (item_by layer) before layer) (label-layer (out-Item it))
    ∙ ap (λ (i : Item). slots_by (label_of it) i before layer) (sym (ap (λ (l : Laid). l.item) (fold_out-Item Laid laid_layer it)) ∙ laid-item it)
    ∙ ap (λ (z : Item-F Item). slots_by (label_of it) it before (map-Item Item Laid laid_of z)) e

deeper : (marks : List Mark) (mark : Mark) (slots : List Slot) → map (behind marks) (map (within mark) slots) ≡ map (behind (marks ++ mark ∷ [])) slots
deeper marks mark [] = refl
deeper marks mark (slot ∷ slots) =
    ap (λ (regions : List Mark). record { address = record { regions = regions; label = slot.address.label }; item = slot.item } ∷ map (behind marks) (map (within mark) slots)) (sym (append_assoc marks (mark ∷ []) slot.address.regions))
    ∙ ap (λ (rest : List Slot). behind (marks ++ mark ∷ []) slot ∷ rest) (deeper marks mark slots)

out-region : (number : ℕ) (key : Value) (children : List Item) → out-Item (item.Region number key children) ≡ Region number key children
out-region number key children = ap out-Item (sym (item.rolls-Region number key children)) ∙ out-roll-Item (Region number key children)

-- a region has the slots of its items, with itself round them
pub region-slots : (marks : List Mark) (it : Item) (number : ℕ) (key : Value) (children : List Item) (before : ℕ) → it ≡ item.Region number key children
    → map (behind marks) (slots_at it before) ≡ map (behind (marks ++ record { label = label_of it; before = before } ∷ [])) (slots_of children)
region-slots marks it number key children before is =
    ap (map (behind marks)) (at-layer it before (Region number key children) (ap out-Item is ∙ out-region number key children))
    ∙ deeper marks (record { label = label_of it; before = before }) (slots_of children)

-- each other item is one slot
pub leaf-slots : (marks : List Mark) (it : Item) (before : ℕ) → ((number : ℕ) (key : Value) (children : List Item) → it ≡ item.Region number key children → ⊥)
    → map (behind marks) (slots_at it before) ≡ record { address = record { regions = marks; label = label_of it }; item = it } ∷ []
leaf-slots marks it before other =
    ap (map (behind marks)) (by_layer (out-Item it) refl)
    ∙ ap (λ (regions : List Mark). record { address = record { regions = regions; label = label_of it }; item = it } ∷ []) (append-nil marks)
  where
    by_layer : (x : Item-F Item) → out-Item it ≡ x → slots_at it before ≡ record { address = record { regions = []; label = label_of it }; item = it } ∷ []
    by_layer (Element number name key attributes children) e = at-layer it before (Element number name key attributes children) e
    by_layer (Text number text) e = at-layer it before (Text number text) e
    by_layer (Markup number text) e = at-layer it before (Markup number text) e
    by_layer (Component number order made key parameters) e = at-layer it before (Component number order made key parameters) e
    by_layer (Region number key children) e = absurd (other number key children (sym (roll-out-Item it) ∙ ap roll-Item e ∙ item.rolls-Region number key children))

map-join : {X Y : Type 0} (f : X → Y) (xs ys : List X) → map f (xs ++ ys) ≡ map f xs ++ map f ys
map-join f [] ys = refl
map-join f (x ∷ xs) ys = ap (λ zs. f x ∷ zs) (map-join f xs ys)

pub drop-read : {X : Type 0} (xs : List X) (k : ℕ) (x : X) → k < length xs → x ≡ get_or xs k x → drop k xs ≡ x ∷ drop (k + 1) xs
drop-read [] k x h e = absurd (omega arith)
drop-read (y ∷ xs) zero x h e = ap (λ z. z ∷ xs) (sym e)
drop-read (y ∷ xs) (suc k) x h e = drop-read xs k x (omega arith) e ∙ ap (λ n. x ∷ drop n (y ∷ xs)) (let s : suc (k + 1) ≡ suc k + 1 = omega arith in s)

take-read : {X : Type 0} (xs : List X) (k : ℕ) (x : X) → k < length xs → x ≡ get_or xs k x → take (k + 1) xs ≡ take k xs ++ x ∷ []
take-read [] k x h e = absurd (omega arith)
take-read (y ∷ xs) zero x h e = ap (λ z. z ∷ []) (sym e)
take-read (y ∷ xs) (suc k) x h e = ap (λ n. take n (y ∷ xs)) (let s : suc k + 1 ≡ suc (k + 1) = omega arith in s) ∙ ap (λ zs. y ∷ zs) (take-read xs k x (omega arith) e)

laid-split : (marks : List Mark) (before : List Label) (it : Item) (rest : List Laid)
    → map (behind marks) (laid_out before (laid_of it ∷ rest)) ≡ map (behind marks) (slots_at it (like same_label (label_of it) before)) ++ map (behind marks) (laid_out (before ++ label_of it ∷ []) rest)
laid-split marks before it rest =
    ap (λ (l : Label). map (behind marks) (slots_at it (like same_label l before) ++ laid_out (before ++ l ∷ []) rest)) (laid-label it)
    ∙ map-join (behind marks) (slots_at it (like same_label (label_of it) before)) (laid_out (before ++ label_of it ∷ []) rest)

-- the slots so far with those of one more item
pub one-item : (marks : List Mark) (items : List Item) (k : ℕ) (it : Item) (count : ℕ) (slots more all : List Slot) → k < length items → it ≡ get_or items k it
    → count ≡ like same_label (label_of it) (map label_of (take k items)) → more ≡ slots ++ map (behind marks) (slots_at it count)
    → slots ++ map (behind marks) (laid_out (map label_of (take k items)) (map laid_of (drop k items))) ≡ all
    → more ++ map (behind marks) (laid_out (map label_of (take (k + 1) items)) (map laid_of (drop (k + 1) items))) ≡ all
one-item marks items k it count slots more all within_items is counts longer before =
    let front = map label_of (take k items) in
    let after = map laid_of (drop (k + 1) items) in
    let labels : map label_of (take (k + 1) items) ≡ front ++ label_of it ∷ [] = ap (map label_of) (take-read items k it within_items is) ∙ map-join label_of (take k items) (it ∷ []) in
    let rest : map laid_of (drop k items) ≡ laid_of it ∷ after = ap (map laid_of) (drop-read items k it within_items is) in
    let here = map (behind marks) (slots_at it (like same_label (label_of it) front)) in
    let others = map (behind marks) (laid_out (front ++ label_of it ∷ []) after) in
    ap (λ z. more ++ map (behind marks) (laid_out z after)) labels
    ∙ ap (λ (z : List Slot). z ++ others) (longer ∙ ap (λ n. slots ++ map (behind marks) (slots_at it n)) counts)
    ∙ append_assoc slots here others
    ∙ ap (λ (z : List Slot). slots ++ z) (sym (laid-split marks front it after))
    ∙ ap (λ (z : List Laid). slots ++ map (behind marks) (laid_out front z)) (sym rest)
    ∙ before

-- the slots so far with one more
pub one-slot : (marks : List Mark) (it : Item) (before : ℕ) (slots more : List Held) (held : Held) → ((number : ℕ) (key : Value) (children : List Item) → it ≡ item.Region number key children → ⊥)
    → more ≡ slots ++ held ∷ [] → map mark_of held.regions.items ≡ marks → held.item.now ≡ it → map slot_of more ≡ map slot_of slots ++ map (behind marks) (slots_at it before)
one-slot marks it before slots more held other longer regions same =
    ap (map slot_of) longer ∙ map-join slot_of slots (held ∷ [])
    ∙ ap (λ (ms : List Mark). map slot_of slots ++ record { address = record { regions = ms; label = label_of held.item.now }; item = held.item.now } ∷ []) regions
    ∙ ap (λ (i : Item). map slot_of slots ++ record { address = record { regions = marks; label = label_of i }; item = i } ∷ []) same
    ∙ ap (λ (ss : List Slot). map slot_of slots ++ ss) (sym (leaf-slots marks it before other))

none-behind : (slots : List Slot) → map (behind []) slots ≡ slots
none-behind [] = refl
none-behind (slot ∷ slots) = ap (λ (ss : List Slot). slot ∷ ss) (none-behind slots)

-- with nothing round them and nothing before them
pub all-slots : (front all slots : List Slot) (marks : List Mark) → front ≡ [] → marks ≡ [] → all ≡ front ++ map (behind marks) slots → all ≡ slots
all-slots front all slots marks none bare is =
    is ∙ ap (λ (ss : List Slot). ss ++ map (behind marks) slots) none ∙ ap (λ (ms : List Mark). map (behind ms) slots) bare ∙ none-behind slots

-- the addresses of slots
pub addresses-of : (slots : List Held) → map address_of slots ≡ addresses (map slot_of slots)
addresses-of [] = refl
addresses-of (slot ∷ slots) = ap (λ (rest : List Address). address_of slot ∷ rest) (addresses-of slots)

-- lists with equal images have equal images at each place
pub same-at : {X Y : Type 0} (f : X → Y) (xs ys : List X) (k : ℕ) (x y : X) → k < length xs → k < length ys → x ≡ get_or xs k x → y ≡ get_or ys k y → map f xs ≡ map f ys → f x ≡ f y
same-at f [] ys k x y a b is it same = absurd (omega arith)
same-at f (w ∷ xs) [] k x y a b is it same = absurd (omega arith)
same-at f (w ∷ xs) (z ∷ ys) zero x y a b is it same = let first : f w ≡ f z = cc in ap f is ∙ first ∙ sym (ap f it)
same-at f (w ∷ xs) (z ∷ ys) (suc k) x y a b is it same = let rest : map f xs ≡ map f ys = cc in same-at f xs ys k x y (omega arith) (omega arith) is it rest

-- the same of equal lists
pub of-equal : (answer : Bool) (xs xs' ys ys' : List Around) → xs ≡ xs' → ys ≡ ys' → (IsTrue answer ↔ (map mark_of xs ≡ map mark_of ys)) → IsTrue answer ↔ (map mark_of xs' ≡ map mark_of ys')
of-equal answer xs xs' ys ys' first second tells =
    subst (λ (one : List Around). IsTrue answer ↔ (map mark_of one ≡ map mark_of ys')) first (subst (λ (other : List Around). IsTrue answer ↔ (map mark_of xs ≡ map mark_of other)) second tells)
