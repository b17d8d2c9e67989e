use Rattle.std.proofs.Common.{◌≡◌, ◌++◌, ◌+◌, ◌-◌}
use Rattle.schedule_replay.proofs.NumberLemmas.{spaced}
use Rattle.schedule_replay.specs.Line.State.{numbers_after}
use Rattle.schedule_replay.proofs.direct_line.printing.push_sent.Given as goal

-- what is written, with the numbers that are left, is all of them
abbrev pub invariant-loop-number : goal.invariant-loop-number
invariant-loop-number l =
    l.line ++ spaced (numbers_after l.number (l.last - l.number)) ≡ l.initial.line ++ spaced (numbers_after (l.first + 1) (l.last - (l.first + 1)))
