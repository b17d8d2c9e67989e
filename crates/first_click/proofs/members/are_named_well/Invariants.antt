use Rattle.std.proofs.Common.{◌≡◌, map, length}
use Rattle.first_click.specs.Members.{are_named_well}
use Rattle.first_click.specs.Reading.Views.{member_of}
use Rattle.first_click.proofs.members.are_named_well.Given as goal

abbrev pub invariant-loop-rest : goal.invariant-loop-rest
invariant-loop-rest l = are_named_well (map member_of l.rest) ≡ are_named_well (map member_of l.members)

abbrev pub decreases-loop-rest : goal.decreases-loop-rest
decreases-loop-rest l = length l.rest
