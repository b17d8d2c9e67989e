use Rattle.razor_print.proofs.ListLaws.{attributes_written}
use Rattle.razor_print.proofs.attributes.push_attributes.Goals as goal

pub returns : goal.returns
returns c = attributes_written c.args.out.now c.loop-attribute.out c.args.attributes.now c.loop-attribute.attribute-index c.loop-attribute-test.false c.loop-attribute.invariant
