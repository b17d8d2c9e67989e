use Rattle.std.proofs.Common.{◌≡◌, ◌+◌, ◌++◌, drop}
use Rattle.circuit_meaning.specs.Circuit.Steps.{batches_from}
use Rattle.circuit_core.proofs.queues.push_batches.Given as goal

abbrev pub invariant-loop-i : goal.invariant-loop-i
invariant-loop-i l =
    l.replies.items ++ batches_from (l.behind + l.i + 1) (drop l.i l.batches) ≡ l.fn.replies.items ++ batches_from (l.behind + 1) l.batches
