use Rattle.std.proofs.Common.{◌≡◌, ◌++◌}
use Rattle.frame_text.specs.Lines.{escaped}
use Rattle.frame_text.proofs.line.push_escaped.Given as goal

-- the characters so far are written
abbrev pub invariant-loop-character : goal.invariant-loop-character
invariant-loop-character l = l.line ≡ l.initial.line ++ escaped l.yielded
