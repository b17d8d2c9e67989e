use Rattle.std.proofs.Common.{◌≡◌, ◌∙◌, refl, ap, sym, subst, ℕ, ◌+◌, ◌*◌, ◌<◌, List, [], ◌∷◌, ◌++◌, length, map, take, slice_get, Option, Some, None, rules, arith}
use Rattle.std.proofs.lemmas.Result.{IfOk-weaker}
use Rattle.frame_core.specs.declared.item.Item.{Item}
use Rattle.frame_core.specs.declared.item_attribute.ItemAttribute.{ItemAttribute}
use Rattle.pairing_meaning.specs.Slots.{Slot, slots_of}
use Rattle.item_pairing.specs.Standing.{slot_of}
use Rattle.item_edits.specs.Renderings.{size_of, sizes}
use Rattle.item_edits.proofs.SlotPairLemmas.{get-read, get-beyond, get-map}
use Rattle.item_edits.proofs.TurnsLemmas.{like-new, smaller-new, tells-by, few-slots}
use Rattle.frame_walk.specs.Keeping.{KeepsUnder, KeepsIn, KeepsSlots, keeps_none, KeepsAll}
use Rattle.frame_walk.proofs.KeepLemmas.{few-children, element-keeps, text-keeps, markup-keeps, component-keeps, slot-some, slot-gone, small-olds, goes_on, all-kept}
use Rattle.frame_walk.proofs.keeping.+keeping.Goals as goal

pub kept_in-kept_ids-requires : goal.kept_in-kept_ids-requires
kept_in-kept_ids-requires t c =
    let arm = c.in-Element-Element in
    let one : c.as_slice-in-Element-Element-2.result.now ≡ arm.olds = c.as_slice-in-Element-Element-2.ensures in
    let two : c.as_slice-in-Element-Element-3.result.now ≡ arm.news = c.as_slice-in-Element-Element-3.ensures in
    let old : size_of c.args.old.now ≡ 1 + sizes c.as_slice-in-Element-Element-2.result.now = few-children c.args.old.now arm.number-0 arm.name-0 arm.key-0 arm.was arm.olds arm.is-0 ∙ ap (λ (z : List Item). 1 + sizes z) (sym one) in
    let new : size_of c.args.new.now ≡ 1 + sizes c.as_slice-in-Element-Element-3.result.now = few-children c.args.new.now arm.number-1 arm.name-1 arm.key-1 arm.attributes arm.news arm.is-1 ∙ ap (λ (z : List Item). 1 + sizes z) (sym two) in
    let few = c.requires.few in
    let less : 3 * sizes c.as_slice-in-Element-Element-3.result.now + 2 < 3 * size_of c.args.new.now = omega arith in
    (subst (λ n. 3 * sizes c.as_slice-in-Element-Element-3.result.now + 2 < n) c.decreases less, omega arith)

pub kept_in-returns-in_ok-append-in-Element-Element : goal.kept_in-returns-in_ok-append-in-Element-Element
kept_in-returns-in_ok-append-in-Element-Element t c =
    let arm = c.in-Element-Element in
    let under : KeepsUnder arm.was arm.attributes c.in_ok-kept-in-Element-Element.kept =
    subst (λ (z : List ItemAttribute). KeepsUnder z arm.attributes c.in_ok-kept-in-Element-Element.kept) c.as_slice.ensures
    (subst (λ (z : List ItemAttribute). KeepsUnder c.as_slice.result.now z c.in_ok-kept-in-Element-Element.kept) c.as_slice-in-Element-Element.ensures c.in_ok-kept-in-Element-Element.ensures) in
    let all : KeepsAll (slots_of arm.olds) (slots_of arm.news) c.in_ok-inner-in-Element-Element.inner =
    subst (λ (z : List Item). KeepsAll (slots_of z) (slots_of arm.news) c.in_ok-inner-in-Element-Element.inner) c.as_slice-in-Element-Element-2.ensures
    (subst (λ (z : List Item). KeepsAll (slots_of c.as_slice-in-Element-Element-2.result.now) (slots_of z) c.in_ok-inner-in-Element-Element.inner) c.as_slice-in-Element-Element-3.ensures c.in_ok-inner-in-Element-Element.ensures) in
    let both : c.append.new.self ≡ c.in_ok-kept-in-Element-Element.kept ++ c.in_ok-inner-in-Element-Element.inner = search rules in
    element-keeps c.args.old.now c.args.new.now arm.number-0 arm.number-1 arm.name-0 arm.name-1 arm.key-0 arm.key-1 arm.was arm.attributes arm.olds arm.news c.in_ok-kept-in-Element-Element.kept c.in_ok-inner-in-Element-Element.inner c.append.new.self
    arm.is-0 arm.is-1 under all both

pub kept_in-returns-in-Text-Text : goal.kept_in-returns-in-Text-Text
kept_in-returns-in-Text-Text t c =
    let arm = c.in-Text-Text in
    text-keeps c.args.old.now c.args.new.now arm.number-0 arm.number-1 arm.text-0 arm.text-1 c.new.result arm.is-0 arm.is-1 c.new.ensures

pub kept_in-returns-in-Markup-Markup : goal.kept_in-returns-in-Markup-Markup
kept_in-returns-in-Markup-Markup t c =
    let arm = c.in-Markup-Markup in
    markup-keeps c.args.old.now c.args.new.now arm.number-0 arm.number-1 arm.text-0 arm.text-1 c.new-in-Markup-Markup.result arm.is-0 arm.is-1 c.new-in-Markup-Markup.ensures

pub kept_in-returns-in-Component-Component : goal.kept_in-returns-in-Component-Component
kept_in-returns-in-Component-Component t c =
    let arm = c.in-Component-Component in
    component-keeps c.args.old.now c.args.new.now arm.number-0 arm.number-1 arm.order-0 arm.order-1 arm.made-0 arm.made-1 arm.key-0 arm.key-1 arm.parameters-0 arm.parameters-1 c.new-in-Component-Component.result arm.is-0 arm.is-1 c.new-in-Component-Component.ensures

pub kept_of-kept_in-requires : goal.kept_of-kept_in-requires
kept_of-kept_in-requires t c =
    let old = c.in-Some-get.old.now in
    let at : slice_get (map slot_of c.args.olds.now) c.in-Some.place ≡ Some (slot_of old) = get-map slot_of c.args.olds.now c.in-Some.place old (get-read c.args.olds.now c.in-Some.place old c.in-Some-get.ensures.lookup.3.0 c.in-Some-get.ensures.lookup.1) in
    let less : 3 * size_of c.args.new.now < 3 * size_of c.args.new.now + 1 = omega arith in
    let small = c.requires.few c.in-Some.place (slot_of old) at in
    (subst (λ n. 3 * size_of c.args.new.now < n) c.decreases less, (c.requires.like c.in-Some.place (slot_of old) c.in-Some.is at, (small.0, small.1)))

pub kept_of-returns-in-Some-get : goal.kept_of-returns-in-Some-get
kept_of-returns-in-Some-get t c =
    let old = c.in-Some-get.old.now in
    let at : slice_get (map slot_of c.args.olds.now) c.in-Some.place ≡ Some (slot_of old) = get-map slot_of c.args.olds.now c.in-Some.place old (get-read c.args.olds.now c.in-Some.place old c.in-Some-get.ensures.lookup.3.0 c.in-Some-get.ensures.lookup.1) in
    IfOk-weaker c.kept_in.result (λ kept. KeepsIn old.item.now c.args.new.now kept) _
    (λ kept keeps. slot-some c.in-Some.place c.args.place (map slot_of c.args.olds.now) c.args.new.now kept (slot_of old) c.in-Some.is at keeps)
    c.kept_in.ensures

pub kept_of-returns-in-None : goal.kept_of-returns-in-None
kept_of-returns-in-None t c = slot-gone c.in-Some.place c.args.place c.args.olds.now c.args.new.now c.new.result c.in-Some.is (get-beyond c.args.olds.now c.in-Some.place c.in-None.ensures.lookup.3)

pub kept_ids-pair-requires : goal.kept_ids-pair-requires
kept_ids-pair-requires t c = few-slots c.args.olds.now c.in_ok-old_slots.old_slots.items c.as_slice.result.now c.in_ok-old_slots.ensures c.as_slice.ensures.value c.requires

pub kept_ids-loop-k-init : goal.kept_ids-loop-k-init
kept_ids-loop-k-init t c = subst (λ (ks : List (Option ℕ)). KeepsSlots [] (slots_of c.args.olds.now) [] ks) (sym c.new-kept.ensures) (keeps_none (slots_of c.args.olds.now))

pub kept_ids-kept_of-requires : goal.kept_ids-kept_of-requires
kept_ids-kept_of-requires t c =
    let olds = c.as_slice-in-loop-k.result.now in
    let news = c.deref-new-items.result.now in
    let from = c.as_slice-places.result.now in
    let is_old : map slot_of olds ≡ slots_of c.args.olds.now = ap (map slot_of) c.as_slice-in-loop-k.ensures.value ∙ c.in_ok-old_slots.ensures in
    let is_new : map slot_of news ≡ slots_of c.args.news.now = ap (map slot_of) c.deref-new-items.ensures.value ∙ c.in_ok-new_slots.ensures in
    let tells = tells-by c.as_slice.result.now olds c.as_slice-2.result.now news c.in_ok-from.from from (c.as_slice-in-loop-k.ensures.value ∙ sym c.as_slice.ensures.value) (c.deref-new-items.ensures.value ∙ sym c.as_slice-2.ensures.value) c.as_slice-places.ensures c.in_ok-from.ensures in
    let new = c.new-item.result in
    let less : 3 * size_of new.item.now + 1 < 3 * sizes c.args.news.now + 2 = smaller-new c.args.olds.now c.args.news.now olds news from is_old is_new tells c.loop-k.k new c.loop-k-test.true c.new-item.is in (
      subst (λ n. 3 * size_of new.item.now + 1 < n) c.decreases less,
      (
        like-new c.args.olds.now c.args.news.now olds news from is_old is_new tells c.loop-k.k c.place_at-place.result new c.loop-k-test.true c.new-item.is c.place_at-place.ensures,
        small-olds c.args.olds.now c.args.news.now olds news from is_old is_new tells c.requires,
      ),
    )

pub kept_ids-loop-k-preserved : goal.kept_ids-loop-k-preserved
kept_ids-loop-k-preserved t c =
    let olds = c.as_slice-in-loop-k.result.now in
    let news = c.deref-new-items.result.now in
    let from = c.as_slice-places.result.now in
    let is_old : map slot_of olds ≡ slots_of c.args.olds.now = ap (map slot_of) c.as_slice-in-loop-k.ensures.value ∙ c.in_ok-old_slots.ensures in
    let is_new : map slot_of news ≡ slots_of c.args.news.now = ap (map slot_of) c.deref-new-items.ensures.value ∙ c.in_ok-new_slots.ensures in
    let tells = tells-by c.as_slice.result.now olds c.as_slice-2.result.now news c.in_ok-from.from from (c.as_slice-in-loop-k.ensures.value ∙ sym c.as_slice.ensures.value) (c.deref-new-items.ensures.value ∙ sym c.as_slice-2.ensures.value) c.as_slice-places.ensures c.in_ok-from.ensures in
    let all : c.append.new.self ≡ c.loop-k.kept ++ c.in_ok-more.more = search rules in
    goes_on c.args.olds.now c.args.news.now olds news from is_old is_new tells c.loop-k.k c.place_at-place.result c.new-item.result c.loop-k.kept c.in_ok-more.more c.append.new.self
    c.loop-k-test.true c.new-item.is c.place_at-place.ensures c.in_ok-more.ensures all c.loop-k.invariant

pub kept_ids-returns : goal.kept_ids-returns
kept_ids-returns t c =
    let news = c.deref-new-items.result.now in
    let from = c.as_slice-places.result.now in
    let is_old : map slot_of c.as_slice.result.now ≡ slots_of c.args.olds.now = ap (map slot_of) c.as_slice.ensures.value ∙ c.in_ok-old_slots.ensures in
    let is_new : map slot_of news ≡ slots_of c.args.news.now = ap (map slot_of) c.deref-new-items.ensures.value ∙ c.in_ok-new_slots.ensures in
    let tells = tells-by c.as_slice.result.now c.as_slice.result.now c.as_slice-2.result.now news c.in_ok-from.from from refl (c.deref-new-items.ensures.value ∙ sym c.as_slice-2.ensures.value) c.as_slice-places.ensures c.in_ok-from.ensures in
    let all : c.loop-k.k ≡ length news = search rules in
    all-kept c.args.olds.now c.args.news.now c.as_slice.result.now news from is_old is_new tells c.loop-k.k c.loop-k.kept all c.loop-k.invariant
