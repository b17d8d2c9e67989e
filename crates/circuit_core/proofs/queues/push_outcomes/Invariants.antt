use Rattle.std.proofs.Common.{◌≡◌, ◌+◌, ◌++◌, drop}
use Rattle.circuit_meaning.specs.Circuit.Steps.{outcomes_from}
use Rattle.circuit_core.proofs.queues.push_outcomes.Given as goal

abbrev pub invariant-loop-i : goal.invariant-loop-i
invariant-loop-i l =
    l.replies.items ++ outcomes_from (l.behind + l.i + 1) (drop l.i l.outcomes) ≡ l.fn.replies.items ++ outcomes_from (l.behind + 1) l.outcomes
