use Rattle.std.proofs.Common.{◌≡◌, length, take}
use Rattle.frame_walk.proofs.keeping.same_values.Given as goal

-- the lists are equally long, and so far the same
abbrev pub invariant-loop-i : goal.invariant-loop-i
invariant-loop-i l = (length l.values ≡ length l.others) × (take l.i l.values ≡ take l.i l.others)
