use Rattle.std.proofs.Common.{map, length}
use Rattle.first_click.specs.Members.{MemberStands}
use Rattle.first_click.specs.Reading.Views.{member_of}
use Rattle.first_click.specs.Walks.{Walk}
use Rattle.first_click.proofs.members.members_of.Given as goal

-- the members so far lead to here
abbrev pub invariant-loop-member : goal.invariant-loop-member
invariant-loop-member l = Walk MemberStands l.tokens (map member_of l.members.items) l.rest

abbrev pub decreases-loop-member : goal.decreases-loop-member
decreases-loop-member l = length l.rest
