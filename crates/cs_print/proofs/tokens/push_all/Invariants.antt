use Rattle.std.proofs.Common.{◌≡◌, ◌++◌, take}
use Rattle.cs_print.proofs.tokens.push_all.Given as goal

abbrev pub invariant-loop-character : goal.invariant-loop-character
invariant-loop-character l = l.out ≡ l.initial.out ++ take l.character-index l.text
