use Rattle.std.proofs.Common.{◌≡◌, take, length}
use Rattle.razor_parts.proofs.locals.cut.Given as goal

-- the first ones are as they were
abbrev pub invariant-loop-all : goal.invariant-loop-all
invariant-loop-all l = take l.depth l.all ≡ take l.depth l.fn.all

abbrev pub decreases-loop-all : goal.decreases-loop-all
decreases-loop-all l = length l.all
