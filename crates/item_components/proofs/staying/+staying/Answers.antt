use Rattle.std.proofs.Common.{◌≡◌, ◌∙◌, refl, ap, sym, subst, ℕ, ◌+◌, ◌*◌, ◌<◌, List, [], ◌∷◌, ◌++◌, length, map, slice_get, Option, Some, None, rules, arith}
use Rattle.std.proofs.lemmas.Result.{IfOk-weaker}
use Rattle.frame_core.specs.declared.item.Item.{Item}
use Rattle.pairing_meaning.specs.Slots.{Slot, slots_of}
use Rattle.pairing_meaning.specs.Components.{Retained}
use Rattle.item_pairing.specs.Standing.{slot_of}
use Rattle.item_edits.specs.Renderings.{size_of, sizes}
use Rattle.item_edits.proofs.SlotPairLemmas.{get-read, get-beyond, get-map}
use Rattle.item_edits.proofs.TurnsLemmas.{like-new, smaller-new, tells-by, few-slots}
use Rattle.item_components.specs.Listed.{Lists, Within, WithinSlot, Before}
use Rattle.item_components.proofs.ListedLemmas.{lists-start, within-components, within-elements, within-text, within-markup, within-region, slot-some, slot-gone, slot-none}
use Rattle.item_components.proofs.StayingLemmas.{few-children, small-olds, goes_on, all-listed}
use Rattle.item_components.proofs.staying.+staying.Goals as goal

pub of_pair-retained-requires : goal.of_pair-retained-requires
of_pair-retained-requires t c =
    let arm = c.in-Element-Element in
    let one : c.as_slice.result.now ≡ arm.olds = c.as_slice.ensures in
    let two : c.as_slice-in-Element-Element.result.now ≡ arm.news = c.as_slice-in-Element-Element.ensures in
    let old : size_of c.args.old.now ≡ 1 + sizes c.as_slice.result.now = few-children c.args.old.now arm.number-0 arm.name-0 arm.key-0 arm.attributes-0 arm.olds arm.is-0 ∙ ap (λ (z : List Item). 1 + sizes z) (sym one) in
    let new : size_of c.args.new.now ≡ 1 + sizes c.as_slice-in-Element-Element.result.now = few-children c.args.new.now arm.number-1 arm.name-1 arm.key-1 arm.attributes-1 arm.news arm.is-1 ∙ ap (λ (z : List Item). 1 + sizes z) (sym two) in
    let few = c.requires.few in
    let less : 3 * sizes c.as_slice-in-Element-Element.result.now + 2 < 3 * size_of c.args.new.now = omega arith in
    (subst (λ n. 3 * sizes c.as_slice-in-Element-Element.result.now + 2 < n) c.decreases less, omega arith)

pub of_pair-returns-in-Component-Component : goal.of_pair-returns-in-Component-Component
of_pair-returns-in-Component-Component t c =
    let arm = c.in-Component-Component in
    IfOk-weaker c.one_pair.result (λ pairs. pairs ≡ (arm.order, arm.now) ∷ []) _
    (λ pairs all. within-components c.args.old.now c.args.new.now arm.number-0 arm.number-1 arm.order arm.now arm.made-0 arm.made-1 arm.key-0 arm.key-1 arm.parameters-0 arm.parameters-1 pairs arm.is-0 arm.is-1 all)
    c.one_pair.ensures

pub of_pair-returns-in-Element-Element : goal.of_pair-returns-in-Element-Element
of_pair-returns-in-Element-Element t c =
    let arm = c.in-Element-Element in
    IfOk-weaker c.retained.result (λ pairs. Lists pairs (Retained (slots_of c.as_slice.result.now) (slots_of c.as_slice-in-Element-Element.result.now))) _
    (λ pairs lists. within-elements c.args.old.now c.args.new.now arm.number-0 arm.number-1 arm.name-0 arm.name-1 arm.key-0 arm.key-1 arm.attributes-0 arm.attributes-1 arm.olds arm.news pairs arm.is-0 arm.is-1
    (subst (λ (z : List Item). Lists pairs (Retained (slots_of z) (slots_of arm.news))) c.as_slice.ensures
    (subst (λ (z : List Item). Lists pairs (Retained (slots_of c.as_slice.result.now) (slots_of z))) c.as_slice-in-Element-Element.ensures lists)))
    c.retained.ensures

pub of_pair-returns-in-Text-Text : goal.of_pair-returns-in-Text-Text
of_pair-returns-in-Text-Text t c = within-text c.args.old.now c.args.new.now c.in-Text-Text.number-0 c.in-Text-Text.text-0 c.new.result c.in-Text-Text.is-0 c.new.ensures

pub of_pair-returns-in-Markup-Markup : goal.of_pair-returns-in-Markup-Markup
of_pair-returns-in-Markup-Markup t c = within-markup c.args.old.now c.args.new.now c.in-Markup-Markup.number-0 c.in-Markup-Markup.text-0 c.new-in-Markup-Markup.result c.in-Markup-Markup.is-0 c.new-in-Markup-Markup.ensures

pub of_pair-returns-in-Region-Region : goal.of_pair-returns-in-Region-Region
of_pair-returns-in-Region-Region t c = within-region c.args.old.now c.args.new.now c.in-Region-Region.number-0 c.in-Region-Region.key-0 c.in-Region-Region.children-0 c.new-in-Region-Region.result c.in-Region-Region.is-0 c.new-in-Region-Region.ensures

pub of_slot-of_pair-requires : goal.of_slot-of_pair-requires
of_slot-of_pair-requires t c =
    let old = c.in-Some-get.old.now in
    let at : slice_get (map slot_of c.args.olds.now) c.in-Some.place ≡ Some (slot_of old) = get-map slot_of c.args.olds.now c.in-Some.place old (get-read c.args.olds.now c.in-Some.place old c.in-Some-get.ensures.lookup.3.0 c.in-Some-get.ensures.lookup.1) in
    let less : 3 * size_of c.args.new.now < 3 * size_of c.args.new.now + 1 = omega arith in
    (subst (λ n. 3 * size_of c.args.new.now < n) c.decreases less, (c.requires.like c.in-Some.place (slot_of old) c.in-Some.is at, c.requires.few c.in-Some.place (slot_of old) at))

pub of_slot-returns-in-Some-get : goal.of_slot-returns-in-Some-get
of_slot-returns-in-Some-get t c =
    let old = c.in-Some-get.old.now in
    let at : slice_get (map slot_of c.args.olds.now) c.in-Some.place ≡ Some (slot_of old) = get-map slot_of c.args.olds.now c.in-Some.place old (get-read c.args.olds.now c.in-Some.place old c.in-Some-get.ensures.lookup.3.0 c.in-Some-get.ensures.lookup.1) in
    IfOk-weaker c.of_pair.result (λ pairs. Lists pairs (Within old.item.now c.args.new.now)) _
    (λ pairs lists. slot-some c.in-Some.place c.args.place (map slot_of c.args.olds.now) c.args.new.now pairs (slot_of old) c.in-Some.is at lists)
    c.of_pair.ensures

pub of_slot-returns-in-None : goal.of_slot-returns-in-None
of_slot-returns-in-None t c = slot-gone c.in-Some.place c.args.place c.args.olds.now c.args.new.now c.new-in-None.result c.in-Some.is (get-beyond c.args.olds.now c.in-Some.place c.in-None.ensures.lookup.3) c.new-in-None.ensures

pub retained-pair-requires : goal.retained-pair-requires
retained-pair-requires t c = few-slots c.args.olds.now c.in_ok-old_slots.old_slots.items c.as_slice.result.now c.in_ok-old_slots.ensures c.as_slice.ensures.value c.requires

pub retained-loop-k-init : goal.retained-loop-k-init
retained-loop-k-init t c =
    subst (λ (ps : List (ℕ × ℕ)). Lists ps (Before 0 c.as_slice-places.result.now (slots_of c.args.olds.now) (slots_of c.args.news.now))) (sym c.new-pairs.ensures) (lists-start c.as_slice-places.result.now (slots_of c.args.olds.now) (slots_of c.args.news.now))

pub retained-of_slot-requires : goal.retained-of_slot-requires
retained-of_slot-requires t c =
    let olds = c.as_slice-in-loop-k.result.now in
    let news = c.deref-new-items.result.now in
    let from = c.as_slice-places.result.now in
    let is_old : map slot_of olds ≡ slots_of c.args.olds.now = ap (map slot_of) c.as_slice-in-loop-k.ensures.value ∙ c.in_ok-old_slots.ensures in
    let is_new : map slot_of news ≡ slots_of c.args.news.now = ap (map slot_of) c.deref-new-items.ensures.value ∙ c.in_ok-new_slots.ensures in
    let tells = tells-by c.as_slice.result.now olds c.as_slice-2.result.now news c.in_ok-from.from from (c.as_slice-in-loop-k.ensures.value ∙ sym c.as_slice.ensures.value) (c.deref-new-items.ensures.value ∙ sym c.as_slice-2.ensures.value) c.as_slice-places.ensures c.in_ok-from.ensures in
    let new = c.new-item.result in
    let less : 3 * size_of new.item.now + 1 < 3 * sizes c.args.news.now + 2 = smaller-new c.args.olds.now c.args.news.now olds news from is_old is_new tells c.loop-k.k new c.loop-k-test.true c.new-item.is in (
      subst (λ n. 3 * size_of new.item.now + 1 < n) c.decreases less,
      (
        like-new c.args.olds.now c.args.news.now olds news from is_old is_new tells c.loop-k.k c.place_at-place.result new c.loop-k-test.true c.new-item.is c.place_at-place.ensures,
        small-olds c.args.olds.now c.args.news.now olds news from is_old is_new tells c.requires,
      ),
    )

pub retained-loop-k-preserved : goal.retained-loop-k-preserved
retained-loop-k-preserved t c =
    let olds = c.as_slice-in-loop-k.result.now in
    let news = c.deref-new-items.result.now in
    let from = c.as_slice-places.result.now in
    let is_old : map slot_of olds ≡ slots_of c.args.olds.now = ap (map slot_of) c.as_slice-in-loop-k.ensures.value ∙ c.in_ok-old_slots.ensures in
    let is_new : map slot_of news ≡ slots_of c.args.news.now = ap (map slot_of) c.deref-new-items.ensures.value ∙ c.in_ok-new_slots.ensures in
    let tells = tells-by c.as_slice.result.now olds c.as_slice-2.result.now news c.in_ok-from.from from (c.as_slice-in-loop-k.ensures.value ∙ sym c.as_slice.ensures.value) (c.deref-new-items.ensures.value ∙ sym c.as_slice-2.ensures.value) c.as_slice-places.ensures c.in_ok-from.ensures in
    let all : c.append.new.self ≡ c.loop-k.pairs ++ c.in_ok-more.more = search rules in
    goes_on c.args.olds.now c.args.news.now olds news from is_old is_new tells c.loop-k.k c.place_at-place.result c.new-item.result c.loop-k.pairs c.in_ok-more.more c.append.new.self
    c.loop-k-test.true c.new-item.is c.place_at-place.ensures c.in_ok-more.ensures all c.loop-k.invariant

pub retained-returns : goal.retained-returns
retained-returns t c =
    let news = c.deref-new-items.result.now in
    let from = c.as_slice-places.result.now in
    let is_old : map slot_of c.as_slice.result.now ≡ slots_of c.args.olds.now = ap (map slot_of) c.as_slice.ensures.value ∙ c.in_ok-old_slots.ensures in
    let is_new : map slot_of news ≡ slots_of c.args.news.now = ap (map slot_of) c.deref-new-items.ensures.value ∙ c.in_ok-new_slots.ensures in
    let tells = tells-by c.as_slice.result.now c.as_slice.result.now c.as_slice-2.result.now news c.in_ok-from.from from refl (c.deref-new-items.ensures.value ∙ sym c.as_slice-2.ensures.value) c.as_slice-places.ensures c.in_ok-from.ensures in
    let all : c.loop-k.k ≡ length news = search rules in
    all-listed c.args.olds.now c.args.news.now c.as_slice.result.now news from is_old is_new tells c.loop-k.k c.loop-k.pairs all c.loop-k.invariant
