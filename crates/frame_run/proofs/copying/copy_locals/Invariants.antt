use Rattle.std.proofs.Common.{◌≡◌, take}
use Rattle.frame_run.proofs.copying.copy_locals.Given as goal

-- the values so far are copied
abbrev pub invariant-loop-value : goal.invariant-loop-value
invariant-loop-value l = l.locals.items ≡ take l.value-index l.values
