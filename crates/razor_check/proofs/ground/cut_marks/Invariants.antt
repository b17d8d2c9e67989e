use Rattle.std.proofs.Common.{◌≡◌, take, length}
use Rattle.razor_check.proofs.ground.cut_marks.Given as goal

-- the first ones are as they were
abbrev pub invariant-loop-marks : goal.invariant-loop-marks
invariant-loop-marks l = take l.depth l.marks ≡ take l.depth l.fn.marks

abbrev pub decreases-loop-marks : goal.decreases-loop-marks
decreases-loop-marks l = length l.marks
