use Rattle.cs_effects.specs.Spreading.{weights}
use Rattle.cs_effects.proofs.Spreads.{Spreading}
use Rattle.cs_effects.proofs.spreading.doers.Given as goal

-- what is marked does it, and those that run what is spread are marked
abbrev pub invariant-loop-at : goal.invariant-loop-at
invariant-loop-at l = Spreading l.members l.deed l.marks

abbrev pub decreases-loop-at : goal.decreases-loop-at
decreases-loop-at l = weights l.marks
