use Rattle.std.proofs.Common.{rules}
use Rattle.frame_text.proofs.ListLemmas.{element_lines, region_lines}
use Rattle.frame_text.proofs.listing.+list.Goals as goal

pub with_item-returns-in-Element : goal.with_item-returns-in-Element
with_item-returns-in-Element t c =
    let is = element_lines c.in-Element.number c.in-Element.name c.in-Element.key c.in-Element.attributes c.in-Element.children c.args.front.given in search rules

pub with_item-returns-in-Region : goal.with_item-returns-in-Region
with_item-returns-in-Region t c =
    let is = region_lines c.in-Region.number c.in-Region.key c.in-Region.children c.args.front.given in search rules
