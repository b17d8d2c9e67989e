use Rattle.std.proofs.Common.{drop}
use Rattle.razor_parts.proofs.CircleLaws.{Circular}
use Rattle.razor_parts.proofs.circles.circular_names.Given as goal

-- those so far, and the rest
abbrev pub invariant-loop-record : goal.invariant-loop-record
invariant-loop-record l = Circular l.records l.names (drop l.record-index l.records)
