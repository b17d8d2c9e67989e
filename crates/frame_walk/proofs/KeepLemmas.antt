-- What is kept of two lists, from the first slot to the last.
use Rattle.std.proofs.Common.{◌≡◌, ◌∙◌, refl, ap, sym, subst, ℕ, zero, suc, ◌+◌, ◌<◌, ◌^◌, List, [], ◌∷◌, ◌++◌, length, map, take, get_or, slice_get, Option, Some, None, arith}
use Rattle.std.proofs.lemmas.List.{take_all}
use Rattle.cs_ast.specs.declared.value.Value.{Value}
use Rattle.frame_core.specs.declared.made.Made.{Made}
use Rattle.frame_core.specs.declared.item.Item.{Item}
use Rattle.frame_core.specs.declared.item.Item.TheVariants as item
use Rattle.frame_core.specs.declared.item.ItemParameter.{ItemParameter}
use Rattle.frame_core.specs.declared.item_attribute.ItemAttribute.{ItemAttribute}
use Rattle.pairing_meaning.specs.Slots.{Slot, slots_of}
use Rattle.pairing_meaning.specs.Births.{TellsSlots}
use Rattle.item_pairing.specs.declared.slots.Slot.{Slot as Held}
use Rattle.item_pairing.specs.Standing.{slot_of}
use Rattle.item_edits.specs.Renderings.{size_of, sizes}
use Rattle.item_edits.proofs.RenderingLemmas.{size-element, slot-size}
use Rattle.item_edits.proofs.SlotItemLemmas.{EachItem, slot-has, each-slot}
use Rattle.item_edits.proofs.TurnsLemmas.{as_long, news_few, told, there-new}
use Rattle.frame_walk.specs.Keeping.{IsLeaf, KeepsUnder, none_kept, KeepsIn, keeps_element, keeps_in_text, keeps_in_markup, keeps_in_component, KeepsSlots, keeps_none, KeepsAll, keeps_all, AllSmall, KeepsSlot}
use Rattle.frame_walk.proofs.KeepingLemmas.{slots-more}

pub few-children : (it : Item) (n : ℕ) (name : List ℕ) (key : Value) (attributes : List ItemAttribute) (children : List Item) → it ≡ item.Element n name key attributes children → size_of it ≡ 1 + sizes children
few-children it n name key attributes children is = ap size_of is ∙ size-element n name key attributes children

pub element-keeps : (it other_it : Item) (m n : ℕ) (name other : List ℕ) (key later : Value) (was attributes : List ItemAttribute) (olds news : List Item) (own inner kept : List (Option ℕ)) → it ≡ item.Element m name key was olds → other_it ≡ item.Element n other later attributes news
    → KeepsUnder was attributes own → KeepsAll (slots_of olds) (slots_of news) inner → kept ≡ own ++ inner → KeepsIn it other_it kept
element-keeps it other_it m n name other key later was attributes olds news own inner kept is is' under all same =
    subst (λ (z : Item). KeepsIn z other_it kept) (sym is) (subst (λ (z : Item). KeepsIn (item.Element m name key was olds) z kept) (sym is')
    (subst (λ (z : List (Option ℕ)). KeepsIn (item.Element m name key was olds) (item.Element n other later attributes news) z) (sym same) (keeps_element m n name other key later was attributes olds news own inner under all)))

pub text-keeps : (it other_it : Item) (m n : ℕ) (old new : List ℕ) (kept : List (Option ℕ)) → it ≡ item.Text m old → other_it ≡ item.Text n new → kept ≡ [] → KeepsIn it other_it kept
text-keeps it other_it m n old new kept is is' none =
    subst (λ (z : Item). KeepsIn z other_it kept) (sym is) (subst (λ (z : Item). KeepsIn (item.Text m old) z kept) (sym is') (subst (λ (z : List (Option ℕ)). KeepsIn (item.Text m old) (item.Text n new) z) (sym none) (keeps_in_text m n old new)))

pub markup-keeps : (it other_it : Item) (m n : ℕ) (old new : List ℕ) (kept : List (Option ℕ)) → it ≡ item.Markup m old → other_it ≡ item.Markup n new → kept ≡ [] → KeepsIn it other_it kept
markup-keeps it other_it m n old new kept is is' none =
    subst (λ (z : Item). KeepsIn z other_it kept) (sym is) (subst (λ (z : Item). KeepsIn (item.Markup m old) z kept) (sym is') (subst (λ (z : List (Option ℕ)). KeepsIn (item.Markup m old) (item.Markup n new) z) (sym none) (keeps_in_markup m n old new)))

pub component-keeps : (it other_it : Item) (m n first second : ℕ) (what other : Made) (key later : Value) (given supplied : List ItemParameter) (kept : List (Option ℕ)) → it ≡ item.Component m first what key given → other_it ≡ item.Component n second other later supplied → kept ≡ [] → KeepsIn it other_it kept
component-keeps it other_it m n first second what other key later given supplied kept is is' none =
    subst (λ (z : Item). KeepsIn z other_it kept) (sym is) (subst (λ (z : Item). KeepsIn (item.Component m first what key given) z kept) (sym is')
    (subst (λ (z : List (Option ℕ)). KeepsIn (item.Component m first what key given) (item.Component n second other later supplied) z) (sym none) (keeps_in_component m n first second what other key later given supplied)))

same-some : {X : Type 0} (x y : X) (o : Option X) → o ≡ Some x → o ≡ Some y → x ≡ y
same-some x y o a b = cc

pub slot-some : (i : ℕ) (place : Option ℕ) (olds : List Slot) (new : Item) (kept : List (Option ℕ)) (old : Slot) → place ≡ Some i → slice_get olds i ≡ Some old → KeepsIn old.item new kept → KeepsSlot place olds new kept
slot-some i place olds new kept old is there keeps =
    subst (λ (p : Option ℕ). KeepsSlot p olds new kept) (sym is) (λ other at. subst (λ (z : Slot). KeepsIn z.item new kept) (same-some old other (slice_get olds i) there at) keeps)

none-map : {X Y : Type 0} (f : X → Y) (xs : List X) (k : ℕ) → slice_get xs k ≡ None → slice_get (map f xs) k ≡ None
none-map f [] k is = refl
none-map f (x ∷ xs) zero is = absurd (cc)
none-map f (x ∷ xs) (suc k) is = none-map f xs k is

pub slot-gone : (i : ℕ) (place : Option ℕ) (olds : List Held) (new : Item) (kept : List (Option ℕ)) → place ≡ Some i → slice_get olds i ≡ None → KeepsSlot place (map slot_of olds) new kept
slot-gone i place olds new kept is gone =
    subst (λ (p : Option ℕ). KeepsSlot p (map slot_of olds) new kept) (sym is) (λ other at. let none : slice_get (map slot_of olds) i ≡ None = none-map slot_of olds i gone in absurd (cc))

pub slot-none : (place : Option ℕ) (olds : List Slot) (new : Item) (kept : List (Option ℕ)) → place ≡ None → kept ≡ none_kept new → KeepsSlot place olds new kept
slot-none place olds new kept is same = subst (λ (p : Option ℕ). KeepsSlot p olds new kept) (sym is) same

Any : Item → Type 0
Any it = Unit {0}

each-any : (items : List Item) → EachItem Any items
unfolding Any
each-any [] = tt
each-any (it ∷ items) = (tt, each-any items)

slot-leaf : (items : List Item) (place : ℕ) (slot : Slot) → slice_get (slots_of items) place ≡ Some slot → IsLeaf slot.item
slot-leaf items place slot is = (slot-has Any (slots_of items) place slot (each-slot Any (λ number key children any. each-any children) items (each-any items)) is).1

module _ (olds news : List Item) (olds_held news_held : List Held) (from : List (Option ℕ)) (is_old : map slot_of olds_held ≡ slots_of olds) (is_new : map slot_of news_held ≡ slots_of news)
    (tells : TellsSlots (map slot_of olds_held) (map slot_of news_held) from) where
  pub small-olds : sizes olds < 2 ^ 31 → AllSmall (map slot_of olds_held)
  small-olds few place slot is =
      let there : slice_get (slots_of olds) place ≡ Some slot = subst (λ (s : List Slot). slice_get s place ≡ Some slot) is_old is in
      let less = slot-size olds place slot there in
      (omega arith, slot-leaf olds place slot there)

  pub goes_on : (k : ℕ) (place : Option ℕ) (new : Held) (kept more after : List (Option ℕ)) → k < length news_held → new ≡ get_or news_held k new → slice_get from k ≡ Some place → KeepsSlot place (map slot_of olds_held) new.item.now more
      → after ≡ kept ++ more → KeepsSlots (take k from) (slots_of olds) (take k (slots_of news)) kept → KeepsSlots (take (k + 1) from) (slots_of olds) (take (k + 1) (slots_of news)) after
  goes_on k place new kept more after within is at slot all keeps =
      let there : slice_get (slots_of news) k ≡ Some (slot_of new) = subst (λ (s : List Slot). slice_get s k ≡ Some (slot_of new)) is_new (there-new olds news olds_held news_held from is_old is_new tells k new within is) in
      let inside : KeepsSlot place (slots_of olds) new.item.now more = subst (λ (s : List Slot). KeepsSlot place s new.item.now more) is_old slot in
      subst (λ (ks : List (Option ℕ)). KeepsSlots (take (k + 1) from) (slots_of olds) (take (k + 1) (slots_of news)) ks) (sym all)
      (slots-more k place from (slots_of olds) (slots_of news) (slot_of new) kept more (told olds news olds_held news_held from is_old is_new tells) at there inside keeps)

  pub all-kept : (k : ℕ) (kept : List (Option ℕ)) → k ≡ length news_held → KeepsSlots (take k from) (slots_of olds) (take k (slots_of news)) kept → KeepsAll (slots_of olds) (slots_of news) kept
  all-kept k kept all keeps =
      let one = as_long olds news olds_held news_held from is_old is_new tells in
      let two = news_few olds news olds_held news_held from is_old is_new tells in
      keeps_all (slots_of olds) (slots_of news) from kept (told olds news olds_held news_held from is_old is_new tells)
      (subst (λ (fs : List (Option ℕ)). KeepsSlots fs (slots_of olds) (slots_of news) kept) (take_all k from (omega arith))
      (subst (λ (ns : List Slot). KeepsSlots (take k from) (slots_of olds) ns kept) (take_all k (slots_of news) (omega arith)) keeps))
