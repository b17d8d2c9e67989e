use Rattle.cs_print.proofs.WrittenLaws.{members_written}
use Rattle.cs_print.proofs.members.push_members.Goals as goal

pub returns : goal.returns
returns c = members_written c.args.out.now c.loop-member.out c.args.members.now c.loop-member.member-index c.loop-member-test.false c.loop-member.invariant
