use Rattle.std.proofs.Common.{◌≡◌, length, take}
use Rattle.cs_ast.proofs.value.+same.Given as goal

-- the lists are equally long, and so far the same
abbrev pub invariant-same_all-loop-i : goal.invariant-same_all-loop-i
invariant-same_all-loop-i l = (length l.values ≡ length l.others) × (take l.i l.values ≡ take l.i l.others)
