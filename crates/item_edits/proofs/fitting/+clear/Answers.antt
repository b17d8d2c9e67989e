use Rattle.std.proofs.Common.{◌≡◌, ◌∙◌, refl, sym, subst, arith}
use Rattle.std.proofs.lemmas.List.{take_all}
use Rattle.item_edits.specs.Renderings.{Clear, clear_text, clear_markup, clear_component, AllClear, none_unclear}
use Rattle.item_edits.proofs.FittingLemmas.{clear-at, clear-longer, element-clear, region-clear}
use Rattle.item_edits.proofs.fitting.+clear.Goals as goal

pub all_clear-loop-item-init : goal.all_clear-loop-item-init
all_clear-loop-item-init t c = none_unclear

pub all_clear-returns-then-not-is_clear : goal.all_clear-returns-then-not-is_clear
all_clear-returns-then-not-is_clear t c = (
  λ never. absurd (cc),
  λ each.
      let hit = c.is_clear.ensures.1 (clear-at c.args.items.now c.loop-item.item-index c.item-item.result c.loop-item-test.true c.item-item.is each) in
      let miss = c.if-not-is_clear.true in
      absurd (cc),
)

pub all_clear-loop-item-preserved : goal.all_clear-loop-item-preserved
all_clear-loop-item-preserved t c = clear-longer c.args.items.now c.loop-item.item-index c.item-item.result c.loop-item-test.true c.item-item.is (c.is_clear.ensures.0 c.if-not-is_clear.false) c.loop-item.invariant

pub is_clear-returns-then-names_differ : goal.is_clear-returns-then-names_differ
is_clear-returns-then-names_differ t c =
    let arm = c.in-Element in
    element-clear c.args.item.now arm.number arm.name arm.key arm.attributes c.as_slice.result.now arm.children c.as_slice-then-names_differ.result.now c.names_differ.result c.all_clear.result arm.is c.as_slice.ensures c.as_slice-then-names_differ.ensures
    c.names_differ.ensures c.all_clear.ensures c.if-names_differ.true

pub is_clear-returns-in-Region : goal.is_clear-returns-in-Region
is_clear-returns-in-Region t c =
    let arm = c.in-Region in region-clear c.args.item.now arm.number arm.key arm.children c.as_slice-in-Region.result.now c.all_clear-in-Region.result arm.is c.as_slice-in-Region.ensures c.all_clear-in-Region.ensures

pub is_clear-returns-in-Text : goal.is_clear-returns-in-Text
is_clear-returns-in-Text t c = (λ always. subst Clear (sym c.in-Text.is) (clear_text c.in-Text.number c.in-Text.text), λ clear. refl)

pub is_clear-returns-in-Markup : goal.is_clear-returns-in-Markup
is_clear-returns-in-Markup t c = (λ always. subst Clear (sym c.in-Markup.is) (clear_markup c.in-Markup.number c.in-Markup.text), λ clear. refl)

pub is_clear-returns-in-Component : goal.is_clear-returns-in-Component
is_clear-returns-in-Component t c =
    let arm = c.in-Component in (λ always. subst Clear (sym arm.is) (clear_component arm.number arm.order arm.made arm.key arm.parameters), λ clear. refl)
