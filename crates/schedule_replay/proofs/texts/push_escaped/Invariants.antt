use Rattle.std.proofs.Common.{◌≡◌, ◌++◌}
use Rattle.schedule_replay.specs.Texts.{escaped}
use Rattle.schedule_replay.proofs.texts.push_escaped.Given as goal

-- the characters so far are written
abbrev pub invariant-loop-character : goal.invariant-loop-character
invariant-loop-character l = l.line ≡ l.initial.line ++ escaped l.yielded
