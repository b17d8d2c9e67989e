use Rattle.std.proofs.Common.{◌≡◌, drop}
use Rattle.razor_parts.specs.Taken.{written_as}
use Rattle.razor_parts.proofs.tagged.taken.Given as goal

-- none so far is the parameter
abbrev pub invariant-loop-member : goal.invariant-loop-member
invariant-loop-member l = written_as l.members l.name ≡ written_as (drop l.member-index l.members) l.name
