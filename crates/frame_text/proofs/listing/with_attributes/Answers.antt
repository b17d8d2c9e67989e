use Rattle.std.proofs.Common.{◌∙◌}
use Rattle.frame_text.specs.Standing.{front_of}
use Rattle.frame_text.proofs.ListLemmas.{attribute_next}
use Rattle.frame_text.proofs.listing.with_attributes.Goals as goal

pub loop-attribute-preserved : goal.loop-attribute-preserved
loop-attribute-preserved c =
    attribute_next c.args.attributes.now c.loop-attribute.attribute-index c.attribute-item.result c.loop-attribute.front.lines.items c.loop-attribute.front.given (front_of c.in_ok-front.front)
    c.loop-attribute-test.true c.attribute-item.is c.in_ok-front.ensures
    ∙ c.loop-attribute.invariant
