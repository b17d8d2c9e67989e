use Rattle.std.proofs.Common.{◌≡◌, drop}
use Rattle.razor_parts.specs.Taken.{field_written}
use Rattle.razor_parts.proofs.bound.field_written.Given as goal

-- none so far is the field
abbrev pub invariant-loop-member : goal.invariant-loop-member
invariant-loop-member l = field_written l.members l.name ≡ field_written (drop l.member-index l.members) l.name
