use Rattle.std.proofs.Common.{◌≡◌, drop, map}
use Rattle.first_click.specs.Members.{fields_of}
use Rattle.first_click.specs.Reading.Members.{with_fields}
use Rattle.first_click.specs.Reading.Views.{member_of}
use Rattle.first_click.proofs.members.fields_of.Given as goal

abbrev pub invariant-loop-member : goal.invariant-loop-member
invariant-loop-member l = with_fields l.fields (fields_of (map member_of (drop l.member-index l.members))) ≡ fields_of (map member_of l.members)
