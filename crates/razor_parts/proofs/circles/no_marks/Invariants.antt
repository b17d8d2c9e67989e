use Rattle.std.proofs.Common.{◌≡◌, map, take}
use Rattle.razor_parts.specs.declared.circles.Mark.TheVariants.{Clear}
use Rattle.razor_parts.proofs.circles.no_marks.Given as goal

-- none is marked
abbrev pub invariant-loop-record : goal.invariant-loop-record
invariant-loop-record l = l.marks ≡ map (λ one. Clear) (take l._record-index l.records)
