use Rattle.std.proofs.Common.{◌≡◌, take}
use Rattle.cs_effects.proofs.locals.copied.Given as goal

-- the names so far
abbrev pub invariant-loop-one : goal.invariant-loop-one
invariant-loop-one l = l.copy ≡ take l.one-index l.locals
