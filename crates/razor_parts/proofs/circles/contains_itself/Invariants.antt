use Rattle.razor_parts.specs.Circles.{weights}
use Rattle.razor_parts.proofs.CircleLaws.{Marking}
use Rattle.razor_parts.proofs.circles.contains_itself.Given as goal

-- what is marked is contained, and what the parts of those that are passed hold is marked
abbrev pub invariant-loop-at : goal.invariant-loop-at
invariant-loop-at l = Marking l.records l.name l.marks

abbrev pub decreases-loop-at : goal.decreases-loop-at
decreases-loop-at l = weights l.marks
