use Rattle.std.proofs.Common.{rules}
use Rattle.item_page.proofs.ShownLemmas.{element_shown, region_shown}
use Rattle.item_page.proofs.showing.+show.Goals as goal

pub with_item-returns-in-Element : goal.with_item-returns-in-Element
with_item-returns-in-Element t c =
    let is = element_shown c.args.born c.in-Element.number c.in-Element.name c.in-Element.key c.in-Element.attributes c.in-Element.children c.args.front.given in search rules

pub with_item-returns-in-Region : goal.with_item-returns-in-Region
with_item-returns-in-Region t c =
    let is = region_shown c.args.born c.in-Region.number c.in-Region.key c.in-Region.children c.args.front.given in search rules
