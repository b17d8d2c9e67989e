use Rattle.std.proofs.Common.{◌≡◌, ◌++◌}
use Rattle.cs_print.specs.Layout.{part_text}
use Rattle.cs_print.proofs.tokens.push_all_in_part.Given as goal

-- the characters so far are written
abbrev pub invariant-loop-character : goal.invariant-loop-character
invariant-loop-character l = l.out ≡ l.initial.out ++ part_text l.yielded
