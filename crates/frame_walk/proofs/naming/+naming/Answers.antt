use Rattle.std.proofs.Common.{rules, ◌≡◌, ◌∙◌, ap, sym, subst, ℕ, ◌+◌, ◌*◌, ◌<◌, ◌≤◌, List, [], ◌∷◌, ◌++◌, length, reverse, arith}
use Rattle.std.proofs.lemmas.Grind.{common_steps}
use Rattle.frame_core.specs.declared.item.Item.{Item}
use Rattle.item_edits.specs.Renderings.{size_of, sizes}
use Rattle.frame_walk.specs.Ids.{values_in, values_of, ids_in, ids_of, bare}
use Rattle.frame_walk.specs.Told.{Takes}
use Rattle.frame_walk.proofs.NamingLemmas.{Named, named-start, last-few, named-more, named-takes, flat-of-map}
use Rattle.frame_walk.proofs.SizeLemmas.{sizes-last, element-size, region-size, element-count, region-count}
use Rattle.frame_walk.proofs.naming.+naming.Goals as goal

pub item_with_ids-items_with_ids-requires : goal.item_with_ids-items_with_ids-requires
item_with_ids-items_with_ids-requires t c =
    let arm = c.in-Element in
    let size = element-size c.args.item arm.number arm.name arm.key arm.attributes arm.children arm.is in
    let count = element-count c.args.item arm.number arm.name arm.key arm.attributes arm.children arm.is in
    let few = c.requires in
    let less : 2 * sizes arm.children + 1 < 2 * size_of c.args.item = omega arith in
    (subst (λ n. 2 * sizes arm.children + 1 < n) c.decreases less, omega arith)

pub item_with_ids-items_with_ids-requires-in-Region : goal.item_with_ids-items_with_ids-requires-in-Region
item_with_ids-items_with_ids-requires-in-Region t c =
    let arm = c.in-Region in
    let size = region-size c.args.item arm.number arm.key arm.children arm.is in
    let count = region-count c.args.item arm.number arm.key arm.children arm.is in
    let few = c.requires in
    let less : 2 * sizes arm.children + 1 < 2 * size_of c.args.item = omega arith in
    (subst (λ n. 2 * sizes arm.children + 1 < n) c.decreases less, omega arith)

pub items_with_ids-loop-last-init : goal.items_with_ids-loop-last-init
items_with_ids-loop-last-init t c =
    let few : length (values_of c.args.items) ≤ length c.args.ids.now = c.requires in (
      subst (λ (ns : List Item). Named bare ids_in values_in c.args.items c.args.items ns c.args.ids.now c.args.ids.now) (sym c.new-named.ensures.items)
          (named-start bare ids_in values_in c.args.items c.args.ids.now (subst (λ (vs : List _). length vs ≤ length c.args.ids.now) (flat-of-map values_in c.args.items) few)),
      omega arith,
    )

pub items_with_ids-item_with_ids-requires : goal.items_with_ids-item_with_ids-requires
items_with_ids-item_with_ids-requires t c =
    let popped : c.loop-last.rest ≡ c.pop.new.self ++ c.in-Some.last ∷ [] = c.in-Some.ensures in
    let size : sizes c.loop-last.rest ≡ sizes c.pop.new.self + size_of c.in-Some.last = ap sizes popped ∙ sizes-last c.pop.new.self c.in-Some.last in
    let most = c.loop-last.invariant.1 in
    let less : 2 * size_of c.in-Some.last < 2 * sizes c.args.items + 1 = omega arith in (
      subst (λ n. 2 * size_of c.in-Some.last < n) c.decreases less,
      last-few bare ids_in values_in c.args.items c.args.ids.now c.loop-last.rest c.pop.new.self c.loop-last.named.items [] c.in-Some.last c.in-Some.last c.loop-last.ids [] c.loop-last.invariant.0 popped,
    )

pub items_with_ids-loop-last-preserved : goal.items_with_ids-loop-last-preserved
items_with_ids-loop-last-preserved t c =
    let popped : c.loop-last.rest ≡ c.pop.new.self ++ c.in-Some.last ∷ [] = c.in-Some.ensures in
    let size : sizes c.loop-last.rest ≡ sizes c.pop.new.self + size_of c.in-Some.last = ap sizes popped ∙ sizes-last c.pop.new.self c.in-Some.last in
    let most = c.loop-last.invariant.1 in (
      named-more bare ids_in values_in c.args.items c.args.ids.now c.loop-last.rest c.pop.new.self c.loop-last.named.items c.push.new.self.items c.in-Some.last c.in_ok-item_with_ids.field-0 c.loop-last.ids c.item_with_ids.new.ids
          c.loop-last.invariant.0 popped c.in_ok-item_with_ids.ensures.bare c.in_ok-item_with_ids.ensures.ids c.in_ok-push.ensures.items,
      omega arith,
    )

pub items_with_ids-returns-clause-ids : goal.items_with_ids-returns-clause-ids
items_with_ids-returns-clause-ids t c =
    let them = c.from_vec.result in
    let so_far : Named bare ids_in values_in c.args.items [] c.loop-last.named.items c.args.ids.now c.loop-last.ids =
    subst (λ (r : List Item). Named bare ids_in values_in c.args.items r c.loop-last.named.items c.args.ids.now c.loop-last.ids) c.in_default.ensures.0 c.loop-last.invariant.0 in
    let turned : them ≡ reverse c.loop-last.named.items = first_of (grind (arith, common_steps), cc) in
    let takes = named-takes bare ids_in values_in c.args.items c.args.ids.now c.loop-last.named.items them c.loop-last.ids so_far turned in
    record {
      split = takes.split ∙ ap (λ xs. c.loop-last.ids ++ xs) (sym (flat-of-map ids_in them));
      long = ap length (flat-of-map ids_in them) ∙ takes.long ∙ sym (ap length (flat-of-map values_in c.args.items));
    }
