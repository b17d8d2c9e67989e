use Rattle.std.proofs.Common.{◌≡◌, take}
use Rattle.razor_reader.proofs.heads.with_last.Given as goal

abbrev pub invariant-loop-t : goal.invariant-loop-t
invariant-loop-t l = l.all.items ≡ take l.t-index l.tokens
