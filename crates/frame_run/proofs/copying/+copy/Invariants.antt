use Rattle.std.proofs.Common.{◌≡◌, take}
use Rattle.frame_run.proofs.copying.+copy.Given as goal

-- the values so far are copied
abbrev pub invariant-copy_all-loop-value : goal.invariant-copy_all-loop-value
invariant-copy_all-loop-value l = l.copied ≡ take l.value-index l.values
