use Rattle.std.proofs.Common.{◌≡◌, ◌++◌, take}
use Rattle.blazor_top.proofs.command.push_all.Given as goal

abbrev pub invariant-loop-word : goal.invariant-loop-word
invariant-loop-word l = l.names ≡ l.initial.names ++ take l.word-index l.words
