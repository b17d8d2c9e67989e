use Rattle.std.proofs.Common.{◌≡◌, ◌++◌, length}
use Rattle.cs_effects.specs.Spreading.{touch}
use Rattle.cs_effects.proofs.spreading.touch.Given as goal

-- the marks so far, and those of the rest
abbrev pub invariant-loop-member : goal.invariant-loop-member
invariant-loop-member l = touch l.runs l.members l.marks ≡ l.new ++ touch l.runs l.rest l.old

abbrev pub decreases-loop-member : goal.decreases-loop-member
decreases-loop-member l = length l.rest
