use Rattle.std.proofs.Common.{◌≡◌, ◌+◌, length}
use Rattle.frame_core.specs.Batch.{edits_of}
use Rattle.frame_core.specs.EditTypes.{of_type}
use Rattle.browser_tree.proofs.counting.in_lists.Given as goal

abbrev pub invariant-loop-rest : goal.invariant-loop-rest
invariant-loop-rest l = l.count + of_type l.number (edits_of l.rest) ≡ of_type l.number (edits_of l.lists)

abbrev pub decreases-loop-rest : goal.decreases-loop-rest
decreases-loop-rest l = length l.rest
