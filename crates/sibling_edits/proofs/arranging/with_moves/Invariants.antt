use Rattle.std.proofs.Common.{◌≡◌, ◌++◌, take, map}
use Rattle.sibling_edits.specs.Plan.{move_of}
use Rattle.sibling_edits.proofs.arranging.with_moves.Given as goal

abbrev pub invariant-loop-entry : goal.invariant-loop-entry
invariant-loop-entry l = l.edits ≡ l.initial.edits ++ map move_of (take l.entry-index l.entries)
