-- What the slots of a rendering keep of it.
use Rattle.std.proofs.Common.{◌≡◌, ◌∙◌, refl, ap, sym, subst, ℕ, zero, suc, ◌+◌, ◌<◌, ◌≤◌, ◌^◌, ◌⊎◌, inl, inr, Bool, true, false, List, [], ◌∷◌, ◌++◌, length, map, sum, slice_get, Some, arith, length-append}
use Rattle.std.proofs.lemmas.List.{length-map}
use Rattle.std.proofs.lemmas.List.Sums.{sum_by-cons}
use Rattle.cs_ast.specs.declared.value.Value.{Value}
use Rattle.frame_core.specs.declared.made.Made.{Made}
use Rattle.frame_core.specs.declared.item.Item.{Item}
use Rattle.frame_core.specs.declared.item.Item.TheViews.{out-Item, roll-Item, out-roll-Item}
use Rattle.frame_core.specs.declared.item.Item.TheOpen.{Item-F}
use Rattle.frame_core.specs.declared.item.Item.TheVariants as item
use Rattle.frame_core.specs.declared.item.Item.TheFolds.{fold-Item, map-Item, fold-roll-Item, ind-Item}
use Rattle.frame_core.specs.declared.item.ItemParameter.{ItemParameter}
use Rattle.frame_core.specs.declared.item_attribute.ItemAttribute.{ItemAttribute}
use Rattle.pairing_meaning.specs.Labels.{Label, same_label, like}
use Rattle.pairing_meaning.specs.Slots.{Slot, Laid, laid_out, laid_layer, laid_of, slots_of}
use Rattle.item_pairing.specs.Standing.{slots_at}
use Rattle.item_edits.specs.Renderings.{size_layer, size_of, sizes, NamesDiffer, Clear, clear_element, clear_text, clear_markup, clear_component, clear_region, AllClear, none_unclear, clear_more}
use Rattle.item_edits.specs.Steps.{Fits, AllFit}
use Rattle.item_edits.proofs.PairLemmas.{out-element, out-text, out-markup, out-component, out-region}
use Rattle.item_edits.proofs.NameLemmas.{is_name, Lacks, Different}
use Rattle.item_edits.proofs.ChangedLemmas.{name-is}
use Rattle.item_edits.proofs.SlotItemLemmas.{EachItem, EachSlot, slot-has, each-slot}

told : (test : Bool) → (test ≡ true) ⊎ (test ≡ false)
told true = inl refl
told false = inr refl

lacks-from : (attributes : List ItemAttribute) (name : List ℕ) → ((k : ℕ) (a : ItemAttribute) → slice_get attributes k ≡ Some a → name ≡ a.name → ⊥) → Lacks attributes name
lacks-from [] name none = tt
lacks-from (attribute ∷ attributes) name none = (
  elim (told (is_name name attribute.name)) [ inl hit ↦ absurd (none 0 attribute refl (name-is name attribute.name hit)) | inr miss ↦ miss ],
  lacks-from attributes name (λ k. none (suc k)),
)

-- no name stands twice
pub different-from : (attributes : List ItemAttribute) → NamesDiffer attributes → Different attributes
different-from [] differ = tt
different-from (attribute ∷ attributes) differ = (
  lacks-from attributes attribute.name (λ k a is same. let far : 0 ≡ suc k = differ 0 (suc k) attribute a refl is same in absurd (omega arith)),
  different-from attributes (λ i j one other e f same. let more : suc i ≡ suc j = differ (suc i) (suc j) one other e f same in omega arith),
)

pub clear-element : (it : Item) (n : ℕ) (name : List ℕ) (key : Value) (attributes : List ItemAttribute) (children : List Item) → Clear it → it ≡ item.Element n name key attributes children → NamesDiffer attributes × AllClear children
clear-element it n name key attributes children (clear_element m own other was inner differ each) e =
    let f : Item-F.Element m own other was inner ≡ Item-F.Element n name key attributes children = sym (out-element m own other was inner) ∙ ap out-Item e ∙ out-element n name key attributes children in
    let two : was ≡ attributes = cc in
    let three : inner ≡ children = cc in
    (subst (λ (z : List ItemAttribute). NamesDiffer z) two differ, subst (λ (z : List Item). AllClear z) three each)
clear-element it n name key attributes children (clear_text number text) e =
    let f : Item-F.Text number text ≡ Item-F.Element n name key attributes children = sym (out-text number text) ∙ ap out-Item e ∙ out-element n name key attributes children in absurd (cc)
clear-element it n name key attributes children (clear_markup number text) e =
    let f : Item-F.Markup number text ≡ Item-F.Element n name key attributes children = sym (out-markup number text) ∙ ap out-Item e ∙ out-element n name key attributes children in absurd (cc)
clear-element it n name key attributes children (clear_component number order what other parameters) e =
    let f : Item-F.Component number order what other parameters ≡ Item-F.Element n name key attributes children = sym (out-component number order what other parameters) ∙ ap out-Item e ∙ out-element n name key attributes children in absurd (cc)
clear-element it n name key attributes children (clear_region number other inner each) e =
    let f : Item-F.Region number other inner ≡ Item-F.Element n name key attributes children = sym (out-region number other inner) ∙ ap out-Item e ∙ out-element n name key attributes children in absurd (cc)

pub clear-region : (it : Item) (n : ℕ) (key : Value) (children : List Item) → Clear it → it ≡ item.Region n key children → AllClear children
clear-region it n key children (clear_element m own other was inner differ each) e =
    let f : Item-F.Element m own other was inner ≡ Item-F.Region n key children = sym (out-element m own other was inner) ∙ ap out-Item e ∙ out-region n key children in absurd (cc)
clear-region it n key children (clear_text number text) e =
    let f : Item-F.Text number text ≡ Item-F.Region n key children = sym (out-text number text) ∙ ap out-Item e ∙ out-region n key children in absurd (cc)
clear-region it n key children (clear_markup number text) e =
    let f : Item-F.Markup number text ≡ Item-F.Region n key children = sym (out-markup number text) ∙ ap out-Item e ∙ out-region n key children in absurd (cc)
clear-region it n key children (clear_component number order what other parameters) e =
    let f : Item-F.Component number order what other parameters ≡ Item-F.Region n key children = sym (out-component number order what other parameters) ∙ ap out-Item e ∙ out-region n key children in absurd (cc)
clear-region it n key children (clear_region number other inner each) e =
    let f : Item-F.Region number other inner ≡ Item-F.Region n key children = sym (out-region number other inner) ∙ ap out-Item e ∙ out-region n key children in
    let three : inner ≡ children = cc in subst (λ (z : List Item). AllClear z) three each

pub size-element : (n : ℕ) (name : List ℕ) (key : Value) (attributes : List ItemAttribute) (children : List Item) → size_of (item.Element n name key attributes children) ≡ 1 + sizes children
size-element n name key attributes children = ap size_of (sym (item.rolls-Element n name key attributes children)) ∙ fold-roll-Item ℕ size_layer (Item-F.Element n name key attributes children)

pub size-region : (n : ℕ) (key : Value) (children : List Item) → size_of (item.Region n key children) ≡ 1 + sizes children
size-region n key children = ap size_of (sym (item.rolls-Region n key children)) ∙ fold-roll-Item ℕ size_layer (Item-F.Region n key children)

pub sizes-more : (it : Item) (items : List Item) → sizes (it ∷ items) ≡ size_of it + sizes items
sizes-more it items = sum_by-cons (λ x. x) (size_of it) (map size_of items)

abbrev AtMost : ℕ → Item → Type 0
AtMost limit it = size_of it ≤ limit

each-size : (limit : ℕ) (items : List Item) → sizes items ≤ limit → EachItem (AtMost limit) items
each-size limit [] few = tt
each-size limit (it ∷ items) few =
    let more = sizes-more it items in
    (omega arith, each-size limit items (omega arith))

region-size : (limit number : ℕ) (key : Value) (children : List Item) → AtMost limit (item.Region number key children) → EachItem (AtMost limit) children
region-size limit number key children few =
    let size = size-region number key children in
    each-size limit children (omega arith)

pub each-clear : (items : List Item) → AllClear items → EachItem Clear items
each-clear items none_unclear = tt
each-clear items (clear_more it rest clear each) = (clear, each-clear rest each)

-- a slot's item is no larger than all
pub slot-size : (items : List Item) (place : ℕ) (slot : Slot) → slice_get (slots_of items) place ≡ Some slot → size_of slot.item ≤ sizes items
slot-size items place slot is =
    let le : sizes items ≤ sizes items = omega arith in
    (slot-has (AtMost (sizes items)) (slots_of items) place slot (each-slot (AtMost (sizes items)) (region-size (sizes items)) items (each-size (sizes items) items le)) is).0

pub fit-slots : (items : List Item) → sizes items < 2 ^ 31 → AllClear items → AllFit (slots_of items)
fit-slots items few clear place slot is =
    let le = slot-size items place slot is in
    let w = slot-has Clear (slots_of items) place slot (each-slot Clear (λ number key children c. each-clear children (clear-region (item.Region number key children) number key children c refl)) items (each-clear items clear)) is in
    record { few = omega arith; clear = w.0; leaf = w.1 }

abbrev Few : Item → Type 0
Few it = (before : ℕ) → length (slots_at it before) ≤ size_of it

abbrev Such : Type 0
Such = (it : Item) × Few it

abbrev plain : List Such → List Item
plain items = map (λ it. it.0) items

abbrev known : Item-F Such → Item-F Item
known y = map-Item Such Item (λ it. it.0) y

all-few : (before : List Label) (items : List Such) → length (laid_out before (map laid_of (plain items))) ≤ sizes (plain items)
all-few before [] = let none : 0 ≤ sizes [] = omega arith in none
all-few before (it ∷ items) =
    let label = (laid_of it.0).label in
    let here = it.1 (like same_label label before) in
    let rest = all-few (before ++ label ∷ []) items in
    let long = length-append (slots_at it.0 (like same_label label before)) (laid_out (before ++ label ∷ []) (map laid_of (plain items))) in
    let more = sizes-more it.0 (plain items) in
    omega arith

layer-few : (y : Item-F Such) → Few (roll-Item (known y))
layer-few (Item-F.Element number name key attributes children) before =
    let long = ap (λ (l : Laid). length (l.slots before)) (fold-roll-Item Laid laid_layer (Item-F.Element number name key attributes (plain children))) in
    let size = fold-roll-Item ℕ size_layer (Item-F.Element number name key attributes (plain children)) in
    omega arith
layer-few (Item-F.Text number text) before =
    let long = ap (λ (l : Laid). length (l.slots before)) (fold-roll-Item Laid laid_layer (Item-F.Text number text)) in
    let size = fold-roll-Item ℕ size_layer (Item-F.Text number text) in
    omega arith
layer-few (Item-F.Markup number text) before =
    let long = ap (λ (l : Laid). length (l.slots before)) (fold-roll-Item Laid laid_layer (Item-F.Markup number text)) in
    let size = fold-roll-Item ℕ size_layer (Item-F.Markup number text) in
    omega arith
layer-few (Item-F.Component number order what key parameters) before =
    let long = ap (λ (l : Laid). length (l.slots before)) (fold-roll-Item Laid laid_layer (Item-F.Component number order what key parameters)) in
    let size = fold-roll-Item ℕ size_layer (Item-F.Component number order what key parameters) in
    omega arith
layer-few (Item-F.Region number key children) before =
    let long : length (slots_at (roll-Item (known (Item-F.Region number key children))) before) ≡ length (laid_out [] (map laid_of (plain children))) =
    ap (λ (l : Laid). length (l.slots before)) (fold-roll-Item Laid laid_layer (Item-F.Region number key (plain children))) ∙ length-map (laid_out [] (map laid_of (plain children))) _ in
    let size = fold-roll-Item ℕ size_layer (Item-F.Region number key (plain children)) in
    let few = all-few [] children in
    omega arith

step : (x : Item-F Item) (y : Item-F Such) → known y ≡ x → Few (roll-Item x)
step x y e = subst (λ (z : Item-F Item). Few (roll-Item z)) e (layer-few y)

one-item : (it : Item) → Few it
one-item it = ind-Item Few step it

such : List Item → List Such
such [] = []
such (it ∷ items) = (it, one-item it) ∷ such items

plain-such : (items : List Item) → plain (such items) ≡ items
unfolding such
plain-such [] = refl
plain-such (it ∷ items) = ap (λ (rest : List Item). it ∷ rest) (plain-such items)

-- no more slots than items
pub slots-few : (items : List Item) → length (slots_of items) ≤ sizes items
slots-few items = subst (λ (them : List Item). length (slots_of them) ≤ sizes them) (plain-such items) (all-few [] (such items))
