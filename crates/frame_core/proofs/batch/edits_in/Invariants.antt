use Rattle.std.proofs.Common.{◌≡◌, ◌+◌, drop}
use Rattle.frame_core.specs.Batch.{edits_within}
use Rattle.frame_core.proofs.batch.edits_in.Given as goal

abbrev pub invariant-loop-list : goal.invariant-loop-list
invariant-loop-list l = l.number + edits_within (drop l.list-index l.lists) ≡ edits_within l.lists
