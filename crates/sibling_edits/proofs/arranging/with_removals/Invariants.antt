use Rattle.std.proofs.Common.{◌≡◌, ◌≤◌, ◌++◌, drop}
use Rattle.sibling_edits.specs.Plan.{removals_from}
use Rattle.sibling_edits.proofs.arranging.with_removals.Given as goal

abbrev pub invariant-loop-place : goal.invariant-loop-place
invariant-loop-place l = (l.edits ++ removals_from l.sibling (drop l.place-index l.to) ≡ l.initial.edits ++ removals_from 0 l.to) × (l.sibling ≤ l.place-index)
