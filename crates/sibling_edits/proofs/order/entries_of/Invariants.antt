use Rattle.std.proofs.Common.{◌≡◌, ◌++◌, drop}
use Rattle.sibling_edits.specs.Plan.{entries_from}
use Rattle.sibling_edits.proofs.order.entries_of.Given as goal

abbrev pub invariant-loop-k : goal.invariant-loop-k
invariant-loop-k l = l.entries ++ entries_from l.k (drop l.k l.places) ≡ entries_from 0 l.places
