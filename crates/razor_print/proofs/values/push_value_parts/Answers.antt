use Rattle.razor_print.proofs.ListLaws.{values_written}
use Rattle.razor_print.proofs.values.push_value_parts.Goals as goal

pub returns : goal.returns
returns c = values_written c.args.out.now c.loop-part.out c.args.parts.now c.loop-part.part-index c.loop-part-test.false c.loop-part.invariant
