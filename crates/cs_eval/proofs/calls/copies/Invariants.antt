use Rattle.std.proofs.Common.{◌≡◌, take}
use Rattle.cs_eval.proofs.calls.copies.Given as goal

-- the captures so far are copied
abbrev pub invariant-loop-value : goal.invariant-loop-value
invariant-loop-value l = l.locals.items ≡ take l.value-index l.captures
