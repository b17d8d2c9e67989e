use Rattle.std.proofs.Common.{◌≡◌, ◌++◌, length}
use Rattle.cs_effects.specs.Spreading.{listed}
use Rattle.cs_effects.proofs.methods.listed.Given as goal

-- the effects so far, and those of the rest
abbrev pub invariant-loop-member : goal.invariant-loop-member
invariant-loop-member l = listed l.members l.changes l.invokes ≡ l.effects.items ++ listed l.rest l.changing l.invoking

abbrev pub decreases-loop-member : goal.decreases-loop-member
decreases-loop-member l = length l.rest
