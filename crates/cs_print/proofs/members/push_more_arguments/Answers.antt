use Rattle.cs_print.proofs.WrittenLaws.{arguments_written}
use Rattle.cs_print.proofs.members.push_more_arguments.Goals as goal

pub returns : goal.returns
returns c = arguments_written c.args.out.now c.loop-argument.out c.args.arguments.now c.loop-argument.argument-index c.loop-argument-test.false c.loop-argument.invariant
