-- There is a place for each handler.
use Rattle.std.proofs.Common.{◌≡◌, ◌∙◌, refl, ap, sym, subst, ℕ, zero, suc, ◌+◌, ◌<◌, ◌^◌, List, [], ◌∷◌, ◌++◌, length, map, take, slice_get, Option, Some, None, arith, length-append, append_assoc, append-nil}
use Rattle.std.specs.List.{flat_map}
use Rattle.std.proofs.lemmas.List.{length-map}
use Rattle.cs_ast.specs.declared.value.Value.{Value}
use Rattle.frame_core.specs.declared.item.Item.{Item}
use Rattle.frame_core.specs.declared.item.Item.TheViews.{out-Item, roll-Item, out-roll-Item}
use Rattle.frame_core.specs.declared.item.Item.TheOpen.{Item-F, Element, Text, Markup, Component, Region}
use Rattle.frame_core.specs.declared.item.Item.TheVariants as item
use Rattle.frame_core.specs.declared.item.Item.TheFolds.{fold-Item, map-Item, fold-roll-Item, ind-Item}
use Rattle.frame_core.specs.declared.item_attribute.ItemAttribute.{ItemAttribute}
use Rattle.frame_core.specs.declared.item_attribute.ItemValue.{ItemValue}
use Rattle.frame_core.specs.declared.item_attribute.ItemValue.TheVariants as held
use Rattle.handler_ids.specs.declared.handler_value.HandlerValue.{HandlerValue}
use Rattle.pairing_meaning.specs.Labels.{Label, label_of, same_label, like}
use Rattle.pairing_meaning.specs.Slots.{Mark, Slot, laid_out, laid_of, slots_of}
use Rattle.pairing_meaning.specs.Births.{TellsSlots}
use Rattle.item_pairing.specs.Standing.{behind, slots_at}
use Rattle.item_pairing.proofs.SlotLemmas.{region-slots, leaf-slots}
use Rattle.item_edits.proofs.ReachLemmas.{take-get}
use Rattle.item_edits.proofs.SlotPairLemmas.{old-there}
use Rattle.frame_walk.specs.Ids.{value_under, value_of, values_layer, values_in, values_of}
use Rattle.frame_walk.proofs.InSlotsLemmas.{flat-one, in-slots}
use Rattle.frame_walk.proofs.BareSlotLemmas.{values-element, values-region}
use Rattle.frame_walk.specs.Keeping.{Stays, KeepsUnder, keeps_nothing, keeps_text, keeps_id, keeps_no_id, none_kept, KeepsIn, keeps_element, keeps_in_text, keeps_in_markup, keeps_in_component, KeepsSlots, keeps_none, keeps_alone, keeps_pair, KeepsAll, keeps_all, KeepsSlot}

abbrev pub slot_values : Slot → List HandlerValue
slot_values slot = values_in slot.item

long-push : {X Y : Type 0} (xs : List X) (x : X) (ys : List Y) (y : Y) → length xs ≡ length ys → length (xs ++ x ∷ []) ≡ length (ys ++ y ∷ [])
long-push xs x ys y same = length-append xs (x ∷ []) ∙ ap (λ n. n + 1) same ∙ sym (length-append ys (y ∷ []))

pub long-under : (was attributes : List ItemAttribute) (kept : List (Option ℕ)) → KeepsUnder was attributes kept → length kept ≡ length (flat_map value_of attributes)
long-under was attributes kept (keeps_nothing was') = refl
long-under was attributes kept (keeps_text was' rest so_far attribute text keeps is) =
    long-under was' rest so_far keeps
    ∙ sym (ap length (append-nil (flat_map value_of rest)))
    ∙ ap (λ (v : ItemValue). length (flat_map value_of rest ++ value_under attribute.name v)) (sym is)
    ∙ sym (ap length (flat-one value_of rest attribute))
long-under was attributes kept (keeps_id was' rest so_far attribute old new keeps is stays) =
    long-push so_far (Some old.id) (flat_map value_of rest) (record { who = new.who; place = new.place; event = attribute.name; captures = new.captures }) (long-under was' rest so_far keeps)
    ∙ ap (λ (v : ItemValue). length (flat_map value_of rest ++ value_under attribute.name v)) (sym is)
    ∙ sym (ap length (flat-one value_of rest attribute))
long-under was attributes kept (keeps_no_id was' rest so_far attribute new keeps is none) =
    long-push so_far None (flat_map value_of rest) (record { who = new.who; place = new.place; event = attribute.name; captures = new.captures }) (long-under was' rest so_far keeps)
    ∙ ap (λ (v : ItemValue). length (flat_map value_of rest ++ value_under attribute.name v)) (sym is)
    ∙ sym (ap length (flat-one value_of rest attribute))

long-join : {X Y : Type 0} (xs more : List X) (ys others : List Y) → length xs ≡ length ys → length more ≡ length others → length (xs ++ more) ≡ length (ys ++ others)
long-join xs more ys others one two = length-append xs more ∙ ap (λ n. n + length more) one ∙ ap (λ n. length ys + n) two ∙ sym (length-append ys others)

-- the slots of items have their handlers in the same order
slots-values : (items : List Item) → flat_map slot_values (slots_of items) ≡ values_of items
slots-values items = in-slots values_in values-region items

-- as many places as handlers

mutual
  long-in : (old new : Item) (kept : List (Option ℕ)) → KeepsIn old new kept → length kept ≡ length (values_in new)
  long-in old new kept (keeps_element m n name other key later was attributes olds news own inner under all) =
      long-join own inner (flat_map value_of attributes) (values_of news) (long-under was attributes own under) (long-all (slots_of olds) (slots_of news) inner all ∙ ap length (slots-values news))
      ∙ sym (ap length (values-element n other later attributes news))
  long-in old new kept (keeps_in_text m n was is) = sym (ap length (ap values_in (sym (item.rolls-Text n is)) ∙ fold-roll-Item (List HandlerValue) values_layer (Text n is)))
  long-in old new kept (keeps_in_markup m n was is) = sym (ap length (ap values_in (sym (item.rolls-Markup n is)) ∙ fold-roll-Item (List HandlerValue) values_layer (Markup n is)))
  long-in old new kept (keeps_in_component m n first second what other key later given supplied) =
      sym (ap length (ap values_in (sym (item.rolls-Component n second other later supplied)) ∙ fold-roll-Item (List HandlerValue) values_layer (Component n second other later supplied)))

  pub long-slots : (from : List (Option ℕ)) (olds news : List Slot) (kept : List (Option ℕ)) → KeepsSlots from olds news kept → length kept ≡ length (flat_map slot_values news)
  long-slots from olds news kept (keeps_none olds') = refl
  long-slots from olds news kept (keeps_alone from' olds' rest new so_far keeps) =
      long-join so_far (none_kept new.item) (flat_map slot_values rest) (values_in new.item) (long-slots from' olds' rest so_far keeps) (length-map (values_in new.item) _)
      ∙ sym (ap length (flat-one slot_values rest new))
  long-slots from olds news kept (keeps_pair from' olds' rest new old place so_far more keeps there inner) =
      long-join so_far more (flat_map slot_values rest) (values_in new.item) (long-slots from' olds' rest so_far keeps) (long-in old.item new.item more inner)
      ∙ sym (ap length (flat-one slot_values rest new))

  long-all : (olds news : List Slot) (kept : List (Option ℕ)) → KeepsAll olds news kept → length kept ≡ length (flat_map slot_values news)
  long-all olds news kept (keeps_all olds' news' from kept' tells keeps) = long-slots from olds' news' kept' keeps

pub kept-long : (olds news : List Item) (kept : List (Option ℕ)) → KeepsAll (slots_of olds) (slots_of news) kept → length kept ≡ length (values_of news)
kept-long olds news kept keeps = long-all (slots_of olds) (slots_of news) kept keeps ∙ ap length (slots-values news)

-- one slot more

more-slots : (k : ℕ) (from : List (Option ℕ)) (olds news : List Slot) (place : Option ℕ) (new : Slot) (kept : List (Option ℕ)) → slice_get from k ≡ Some place → slice_get news k ≡ Some new
    → KeepsSlots (take k from ++ place ∷ []) olds (take k news ++ new ∷ []) kept → KeepsSlots (take (k + 1) from) olds (take (k + 1) news) kept
more-slots k from olds news place new kept is there keeps =
    subst (λ (fs : List (Option ℕ)). KeepsSlots fs olds (take (k + 1) news) kept) (sym (take-get from k place is))
    (subst (λ (ns : List Slot). KeepsSlots (take k from ++ place ∷ []) olds ns kept) (sym (take-get news k new there)) keeps)

pub slots-more : (k : ℕ) (place : Option ℕ) (from : List (Option ℕ)) (olds news : List Slot) (new : Slot) (kept more : List (Option ℕ)) → TellsSlots olds news from → slice_get from k ≡ Some place → slice_get news k ≡ Some new
    → KeepsSlot place olds new.item more → KeepsSlots (take k from) olds (take k news) kept → KeepsSlots (take (k + 1) from) olds (take (k + 1) news) (kept ++ more)
slots-more k None from olds news new kept more tells is there slot keeps =
    more-slots k from olds news None new (kept ++ more) is there
    (subst (λ (them : List (Option ℕ)). KeepsSlots (take k from ++ None ∷ []) olds (take k news ++ new ∷ []) (kept ++ them)) (sym slot) (keeps_alone (take k from) olds (take k news) new kept keeps))
slots-more k (Some place) from olds news new kept more tells is there slot keeps =
    let old = old-there olds news from k place tells is in
    more-slots k from olds news (Some place) new (kept ++ more) is there (keeps_pair (take k from) olds (take k news) new old.0 place kept more keeps old.1 (slot old.0 old.1))
