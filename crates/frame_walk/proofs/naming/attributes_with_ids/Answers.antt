use Rattle.std.proofs.Common.{sym, subst, List}
use Rattle.frame_core.specs.declared.item_attribute.ItemAttribute.{ItemAttribute}
use Rattle.frame_walk.specs.Ids.{value_of, id_of, bare_attribute}
use Rattle.frame_walk.proofs.NamingLemmas.{Named, named-start, named-more}
use Rattle.frame_walk.proofs.naming.attributes_with_ids.Goals as goal

pub loop-last-init : goal.loop-last-init
loop-last-init c =
    subst (λ (ns : List ItemAttribute). Named bare_attribute id_of value_of c.args.attributes c.args.attributes ns c.args.ids.now c.args.ids.now) (sym c.new-named.ensures.items)
    (named-start bare_attribute id_of value_of c.args.attributes c.args.ids.now c.requires)

pub loop-last-preserved : goal.loop-last-preserved
loop-last-preserved c =
    named-more bare_attribute id_of value_of c.args.attributes c.args.ids.now c.loop-last.rest c.pop.new.self c.loop-last.named.items c.push.new.self.items c.in-Some.last c.attribute_with_id.result c.loop-last.ids c.attribute_with_id.new.ids
    c.loop-last.invariant c.in-Some.ensures c.attribute_with_id.ensures.bare c.attribute_with_id.ensures.ids c.in_ok-push.ensures.items
