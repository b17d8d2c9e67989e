use Rattle.std.proofs.Common.{◌≡◌, drop, map}
use Rattle.first_click.specs.Members.{has_member}
use Rattle.first_click.specs.Reading.Views.{member_of}
use Rattle.first_click.proofs.members.has_member.Given as goal

abbrev pub invariant-loop-member : goal.invariant-loop-member
invariant-loop-member l = has_member (map member_of (drop l.member-index l.members)) l.name ≡ has_member (map member_of l.members) l.name
