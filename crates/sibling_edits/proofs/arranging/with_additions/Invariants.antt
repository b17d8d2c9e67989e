use Rattle.std.proofs.Common.{◌≡◌, ◌++◌, drop, reverse}
use Rattle.sibling_edits.specs.Plan.{additions_from}
use Rattle.sibling_edits.proofs.arranging.with_additions.Given as goal

abbrev pub invariant-loop-k : goal.invariant-loop-k
invariant-loop-k l = l.edits ++ additions_from l.k (drop l.k l.from) (reverse l.rest) ≡ l.initial.edits ++ additions_from 0 l.from l.fn.nodes
