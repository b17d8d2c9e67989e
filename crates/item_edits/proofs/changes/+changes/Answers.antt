use Rattle.std.proofs.Common.{◌≡◌, ◌∙◌, refl, ap, sym, subst, ℕ, ◌+◌, ◌*◌, ◌<◌, List, [], ◌∷◌, ◌++◌, length, map, slice_get, Option, Some, None, rules, arith}
use Rattle.std.proofs.lemmas.Result.{IfOk-weaker}
use Rattle.frame_core.specs.declared.item.Item.{Item}
use Rattle.frame_core.specs.declared.edit.Edit.{Edit}
use Rattle.edit_meaning.specs.Counted.{counts_in}
use Rattle.pairing_meaning.specs.Slots.{Slot, slots_of}
use Rattle.pairing_meaning.specs.Tallies.{Changed, Totals}
use Rattle.pairing_meaning.specs.Turning.{Leads}
use Rattle.item_pairing.specs.Standing.{slot_of}
use Rattle.item_edits.specs.Named.{names_planned}
use Rattle.item_edits.specs.Renderings.{size_of, sizes, AllClear}
use Rattle.item_edits.specs.Steps.{text_planned, markup_planned, stepped_in, Changes}
use Rattle.item_edits.proofs.ChangeLemmas.{element-parts, element-changes, element-counts, text-changes, text-counts, markup-changes, markup-counts, component-changes, component-counts}
use Rattle.item_edits.proofs.SlotPairLemmas.{get-read, get-beyond, get-map, inner-some, inner-gone, both-ok}
use Rattle.item_edits.proofs.TurnsLemmas.{like-new, fits-new, fit-olds, smaller-new, goes_on, leads-end, totals-end, tells-by, few-slots, as-wires, begins}
use Rattle.item_edits.proofs.changes.+changes.Goals as goal

pub change-edits_of-requires : goal.change-edits_of-requires
change-edits_of-requires t c =
    let arm = c.in-Element-Element in
    let old = element-parts c.args.old.now arm.number-0 arm.name-0 arm.key-0 arm.was arm.olds c.requires.fits_old arm.is-0 in
    let new = element-parts c.args.new.now arm.number-1 arm.name-1 arm.key-1 arm.attributes arm.news c.requires.fits arm.is-1 in
    let one : c.as_slice-in-Element-Element-2.result.now ≡ arm.olds = c.as_slice-in-Element-Element-2.ensures in
    let two : c.as_slice-in-Element-Element-3.result.now ≡ arm.news = c.as_slice-in-Element-Element-3.ensures in
    let few_old : sizes c.as_slice-in-Element-Element-2.result.now < 2147483648 = subst (λ (z : List Item). sizes z < 2147483648) (sym one) old.few in
    let few : sizes c.as_slice-in-Element-Element-3.result.now < 2147483648 = subst (λ (z : List Item). sizes z < 2147483648) (sym two) new.few in
    let size : size_of c.args.new.now ≡ 1 + sizes c.as_slice-in-Element-Element-3.result.now = new.size ∙ ap (λ (z : List Item). 1 + sizes z) (sym two) in
    let less : 3 * sizes c.as_slice-in-Element-Element-3.result.now + 2 < 3 * size_of c.args.new.now = omega arith in (
      subst (λ n. 3 * sizes c.as_slice-in-Element-Element-3.result.now + 2 < n) c.decreases less,
      (few_old, (few, (subst (λ (z : List Item). AllClear z) (sym one) old.clear, subst (λ (z : List Item). AllClear z) (sym two) new.clear))),
    )

pub change-returns-in_ok-inner-in-Element-Element-clause-changes : goal.change-returns-in_ok-inner-in-Element-Element-clause-changes
change-returns-in_ok-inner-in-Element-Element-clause-changes t c =
    let arm = c.in-Element-Element in
    let inner = c.in_ok-inner-in-Element-Element.inner in
    let names : c.in_ok-edits-in-Element-Element.edits ≡ names_planned c.args.sibling arm.was arm.attributes =
    c.in_ok-edits-in-Element-Element.ensures ∙ ap (λ z. names_planned c.args.sibling z c.as_slice-in-Element-Element.result.now) c.as_slice.ensures ∙ ap (names_planned c.args.sibling arm.was) c.as_slice-in-Element-Element.ensures in
    let leads : Leads inner arm.olds arm.news =
    subst (λ (z : List Item). Leads inner z arm.news) c.as_slice-in-Element-Element-2.ensures (subst (λ (z : List Item). Leads inner c.as_slice-in-Element-Element-2.result.now z) c.as_slice-in-Element-Element-3.ensures c.in_ok-inner-in-Element-Element.ensures.leads) in
    IfOk-weaker c.with_children.result (λ them. them ≡ c.in_ok-edits-in-Element-Element.edits ++ stepped_in c.args.sibling inner) _
    (λ them all. element-changes c.args.sibling c.args.old.now c.args.new.now arm.number-0 arm.number-1 arm.name-0 arm.name-1 arm.key-0 arm.key-1 arm.was arm.attributes arm.olds arm.news c.in_ok-edits-in-Element-Element.edits inner them
    c.requires.same c.requires.fits_old c.requires.fits arm.is-0 arm.is-1 names leads all)
    c.with_children.ensures

pub change-returns-in_ok-inner-in-Element-Element-clause-counts : goal.change-returns-in_ok-inner-in-Element-Element-clause-counts
change-returns-in_ok-inner-in-Element-Element-clause-counts t c =
    let arm = c.in-Element-Element in
    let inner = c.in_ok-inner-in-Element-Element.inner in
    let names : c.in_ok-edits-in-Element-Element.edits ≡ names_planned c.args.sibling arm.was arm.attributes =
    c.in_ok-edits-in-Element-Element.ensures ∙ ap (λ z. names_planned c.args.sibling z c.as_slice-in-Element-Element.result.now) c.as_slice.ensures ∙ ap (names_planned c.args.sibling arm.was) c.as_slice-in-Element-Element.ensures in
    let totals : Totals (slots_of arm.olds) (slots_of arm.news) (counts_in inner) =
    subst (λ (z : List Item). Totals (slots_of z) (slots_of arm.news) (counts_in inner)) c.as_slice-in-Element-Element-2.ensures
    (subst (λ (z : List Item). Totals (slots_of c.as_slice-in-Element-Element-2.result.now) (slots_of z) (counts_in inner)) c.as_slice-in-Element-Element-3.ensures c.in_ok-inner-in-Element-Element.ensures.counts) in
    IfOk-weaker c.with_children.result (λ them. them ≡ c.in_ok-edits-in-Element-Element.edits ++ stepped_in c.args.sibling inner) _
    (λ them all. element-counts c.args.sibling c.args.old.now c.args.new.now arm.number-0 arm.number-1 arm.name-0 arm.name-1 arm.key-0 arm.key-1 arm.was arm.attributes arm.olds arm.news c.in_ok-edits-in-Element-Element.edits inner them
    c.requires.same arm.is-0 arm.is-1 names totals all)
    c.with_children.ensures

pub change-returns-in-Text-Text-clause-changes : goal.change-returns-in-Text-Text-clause-changes
change-returns-in-Text-Text-clause-changes t c =
    let arm = c.in-Text-Text in
    IfOk-weaker c.text_change.result (λ them. them ≡ text_planned c.args.sibling arm.text arm.now) _
    (λ them all. text-changes c.args.sibling c.args.old.now c.args.new.now arm.number-0 arm.number-1 arm.text arm.now them arm.is-0 arm.is-1 all)
    c.text_change.ensures

pub change-returns-in-Text-Text-clause-counts : goal.change-returns-in-Text-Text-clause-counts
change-returns-in-Text-Text-clause-counts t c =
    let arm = c.in-Text-Text in
    IfOk-weaker c.text_change.result (λ them. them ≡ text_planned c.args.sibling arm.text arm.now) _
    (λ them all. text-counts c.args.sibling c.args.old.now c.args.new.now arm.number-0 arm.number-1 arm.text arm.now them arm.is-0 arm.is-1 all)
    c.text_change.ensures

pub change-returns-in-Markup-Markup-clause-changes : goal.change-returns-in-Markup-Markup-clause-changes
change-returns-in-Markup-Markup-clause-changes t c =
    let arm = c.in-Markup-Markup in
    IfOk-weaker c.markup_change.result (λ them. them ≡ markup_planned c.args.sibling arm.text arm.now) _
    (λ them all. markup-changes c.args.sibling c.args.old.now c.args.new.now arm.number-0 arm.number-1 arm.text arm.now them arm.is-0 arm.is-1 all)
    c.markup_change.ensures

pub change-returns-in-Markup-Markup-clause-counts : goal.change-returns-in-Markup-Markup-clause-counts
change-returns-in-Markup-Markup-clause-counts t c =
    let arm = c.in-Markup-Markup in
    IfOk-weaker c.markup_change.result (λ them. them ≡ markup_planned c.args.sibling arm.text arm.now) _
    (λ them all. markup-counts c.args.sibling c.args.old.now c.args.new.now arm.number-0 arm.number-1 arm.text arm.now them arm.is-0 arm.is-1 all)
    c.markup_change.ensures

pub change-returns-in-Component-Component-clause-changes : goal.change-returns-in-Component-Component-clause-changes
change-returns-in-Component-Component-clause-changes t c =
    let arm = c.in-Component-Component in
    component-changes c.args.sibling c.args.old.now c.args.new.now arm.number-0 arm.number-1 arm.order-0 arm.order-1 arm.made-0 arm.made-1 arm.key-0 arm.key-1 arm.parameters-0 arm.parameters-1 c.new.result arm.is-0 arm.is-1 c.new.ensures

pub change-returns-in-Component-Component-clause-counts : goal.change-returns-in-Component-Component-clause-counts
change-returns-in-Component-Component-clause-counts t c =
    let arm = c.in-Component-Component in
    component-counts c.args.sibling c.args.old.now c.args.new.now arm.number-0 arm.number-1 arm.order-0 arm.order-1 arm.made-0 arm.made-1 arm.key-0 arm.key-1 arm.parameters-0 arm.parameters-1 c.new.result arm.is-0 arm.is-1 c.new.ensures

pub pair_change-change-requires : goal.pair_change-change-requires
pair_change-change-requires t c =
    let old = c.in-Some-get.old.now in
    let at : slice_get (map slot_of c.args.olds.now) c.in-Some.place ≡ Some (slot_of old) = get-map slot_of c.args.olds.now c.in-Some.place old (get-read c.args.olds.now c.in-Some.place old c.in-Some-get.ensures.lookup.3.0 c.in-Some-get.ensures.lookup.1) in
    let less : 3 * size_of c.args.new.now < 3 * size_of c.args.new.now + 1 = omega arith in (
      subst (λ n. 3 * size_of c.args.new.now < n) c.decreases less,
      (c.requires.like c.in-Some.place (slot_of old) c.in-Some.is at, (c.requires.fit_olds c.in-Some.place (slot_of old) at, c.requires.fits)),
    )

pub pair_change-returns-in-Some-get : goal.pair_change-returns-in-Some-get
pair_change-returns-in-Some-get t c =
    let old = c.in-Some-get.old.now in
    let at : slice_get (map slot_of c.args.olds.now) c.in-Some.place ≡ Some (slot_of old) = get-map slot_of c.args.olds.now c.in-Some.place old (get-read c.args.olds.now c.in-Some.place old c.in-Some-get.ensures.lookup.3.0 c.in-Some-get.ensures.lookup.1) in
    both-ok c.change.result (λ edits. Changes c.args.sibling old.item.now c.args.new.now edits) (λ edits. Changed old.item.now c.args.new.now (counts_in edits)) _
    (λ edits changes counts. inner-some c.args.sibling c.in-Some.place c.args.place (map slot_of c.args.olds.now) c.args.new.now edits (slot_of old) c.in-Some.is at changes counts)
    c.change.ensures.changes c.change.ensures.counts

pub pair_change-returns-in-None : goal.pair_change-returns-in-None
pair_change-returns-in-None t c = inner-gone c.args.sibling c.in-Some.place c.args.place c.args.olds.now c.args.new.now c.new-in-None.result c.in-Some.is (get-beyond c.args.olds.now c.in-Some.place c.in-None.ensures.lookup.3)

pub edits_of-arrange_slots-requires-clause-few_old : goal.edits_of-arrange_slots-requires-clause-few_old
edits_of-arrange_slots-requires-clause-few_old t c = few-slots c.args.olds.now c.in_ok-old_slots.old_slots.items c.as_slice.result.now c.in_ok-old_slots.ensures c.as_slice.ensures.value c.requires.few_old

pub edits_of-arrange_slots-requires-clause-few : goal.edits_of-arrange_slots-requires-clause-few
edits_of-arrange_slots-requires-clause-few t c = few-slots c.args.news.now c.in_ok-new_slots.new_slots.items c.as_slice-2.result.now c.in_ok-new_slots.ensures c.as_slice-2.ensures.value c.requires.few

pub edits_of-arrange_slots-requires-clause-alike : goal.edits_of-arrange_slots-requires-clause-alike
edits_of-arrange_slots-requires-clause-alike t c = as-wires c.args.news.now c.in_ok-new_slots.new_slots.items c.as_slice-2.result.now c.in_ok-nodes.nodes c.in_ok-new_slots.ensures c.as_slice-2.ensures.value c.in_ok-nodes.ensures

pub edits_of-loop-k-init : goal.edits_of-loop-k-init
edits_of-loop-k-init t c =
    begins c.args.olds.now c.args.news.now c.as_slice.result.now c.as_slice-2.result.now c.as_slice-places.result.now c.in_ok-arranged.arranged.from c.in_ok-nodes.nodes c.in_ok-arranged.arranged.edits
    (ap (map slot_of) c.as_slice.ensures.value ∙ c.in_ok-old_slots.ensures) (ap (map slot_of) c.as_slice-2.ensures.value ∙ c.in_ok-new_slots.ensures)
    c.in_ok-arranged.ensures.tells c.as_slice-places.ensures c.in_ok-nodes.ensures c.in_ok-arranged.ensures.turns c.in_ok-arranged.ensures.counts

pub edits_of-overflow_cast-k : goal.edits_of-overflow_cast-k
edits_of-overflow_cast-k t c =
    let few = few-slots c.args.news.now c.in_ok-new_slots.new_slots.items c.deref-new-items.result.now c.in_ok-new_slots.ensures c.deref-new-items.ensures.value c.requires.few in
    let within = c.loop-k-test.true in
    omega arith

pub edits_of-pair_change-requires : goal.edits_of-pair_change-requires
edits_of-pair_change-requires t c =
    let olds = c.as_slice-in-loop-k.result.now in
    let news = c.deref-new-items.result.now in
    let from = c.as_slice-places.result.now in
    let is_old : map slot_of olds ≡ slots_of c.args.olds.now = ap (map slot_of) c.as_slice-in-loop-k.ensures.value ∙ c.in_ok-old_slots.ensures in
    let is_new : map slot_of news ≡ slots_of c.args.news.now = ap (map slot_of) c.deref-new-items.ensures.value ∙ c.in_ok-new_slots.ensures in
    let tells = tells-by c.as_slice.result.now olds c.as_slice-2.result.now news c.in_ok-arranged.arranged.from from (c.as_slice-in-loop-k.ensures.value ∙ sym c.as_slice.ensures.value) (c.deref-new-items.ensures.value ∙ sym c.as_slice-2.ensures.value) c.as_slice-places.ensures c.in_ok-arranged.ensures.tells in
    let new = c.new-item.result in
    let less : 3 * size_of new.item.now + 1 < 3 * sizes c.args.news.now + 2 = smaller-new c.args.olds.now c.args.news.now olds news from is_old is_new tells c.loop-k.k new c.loop-k-test.true c.new-item.is in (
      subst (λ n. 3 * size_of new.item.now + 1 < n) c.decreases less,
      (
        like-new c.args.olds.now c.args.news.now olds news from is_old is_new tells c.loop-k.k c.place_at-place.result new c.loop-k-test.true c.new-item.is c.place_at-place.ensures,
        (
          fit-olds c.args.olds.now c.args.news.now olds news from is_old is_new tells c.requires.few_old c.requires.clear_old,
          fits-new c.args.olds.now c.args.news.now olds news from is_old is_new tells c.loop-k.k new c.requires.few c.requires.clear c.loop-k-test.true c.new-item.is,
        ),
      ),
    )

pub edits_of-loop-k-preserved : goal.edits_of-loop-k-preserved
edits_of-loop-k-preserved t c =
    let olds = c.as_slice-in-loop-k.result.now in
    let news = c.deref-new-items.result.now in
    let from = c.as_slice-places.result.now in
    let is_old : map slot_of olds ≡ slots_of c.args.olds.now = ap (map slot_of) c.as_slice-in-loop-k.ensures.value ∙ c.in_ok-old_slots.ensures in
    let is_new : map slot_of news ≡ slots_of c.args.news.now = ap (map slot_of) c.deref-new-items.ensures.value ∙ c.in_ok-new_slots.ensures in
    let tells = tells-by c.as_slice.result.now olds c.as_slice-2.result.now news c.in_ok-arranged.arranged.from from (c.as_slice-in-loop-k.ensures.value ∙ sym c.as_slice.ensures.value) (c.deref-new-items.ensures.value ∙ sym c.as_slice-2.ensures.value) c.as_slice-places.ensures c.in_ok-arranged.ensures.tells in
    let all : c.append.new.self ≡ c.loop-k.edits ++ c.in_ok-inner.inner = search rules in
    goes_on c.args.olds.now c.args.news.now olds news from is_old is_new tells c.loop-k.k c.place_at-place.result c.new-item.result c.loop-k.edits c.in_ok-inner.inner c.append.new.self
    c.loop-k-test.true c.new-item.is c.place_at-place.ensures c.in_ok-inner.ensures all c.loop-k.invariant

pub edits_of-returns-clause-leads : goal.edits_of-returns-clause-leads
edits_of-returns-clause-leads t c =
    let news = c.deref-new-items.result.now in
    let from = c.as_slice-places.result.now in
    let is_old : map slot_of c.as_slice.result.now ≡ slots_of c.args.olds.now = ap (map slot_of) c.as_slice.ensures.value ∙ c.in_ok-old_slots.ensures in
    let is_new : map slot_of news ≡ slots_of c.args.news.now = ap (map slot_of) c.deref-new-items.ensures.value ∙ c.in_ok-new_slots.ensures in
    let tells = tells-by c.as_slice.result.now c.as_slice.result.now c.as_slice-2.result.now news c.in_ok-arranged.arranged.from from refl (c.deref-new-items.ensures.value ∙ sym c.as_slice-2.ensures.value) c.as_slice-places.ensures c.in_ok-arranged.ensures.tells in
    let all : c.loop-k.k ≡ length news = search rules in
    leads-end c.args.olds.now c.args.news.now c.as_slice.result.now news from is_old is_new tells c.loop-k.k c.loop-k.edits all c.loop-k.invariant

pub edits_of-returns-clause-counts : goal.edits_of-returns-clause-counts
edits_of-returns-clause-counts t c =
    let news = c.deref-new-items.result.now in
    let from = c.as_slice-places.result.now in
    let is_old : map slot_of c.as_slice.result.now ≡ slots_of c.args.olds.now = ap (map slot_of) c.as_slice.ensures.value ∙ c.in_ok-old_slots.ensures in
    let is_new : map slot_of news ≡ slots_of c.args.news.now = ap (map slot_of) c.deref-new-items.ensures.value ∙ c.in_ok-new_slots.ensures in
    let tells = tells-by c.as_slice.result.now c.as_slice.result.now c.as_slice-2.result.now news c.in_ok-arranged.arranged.from from refl (c.deref-new-items.ensures.value ∙ sym c.as_slice-2.ensures.value) c.as_slice-places.ensures c.in_ok-arranged.ensures.tells in
    let all : c.loop-k.k ≡ length news = search rules in
    totals-end c.args.olds.now c.args.news.now c.as_slice.result.now news from is_old is_new tells c.loop-k.k c.loop-k.edits all c.loop-k.invariant
