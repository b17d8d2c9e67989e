use Rattle.std.proofs.Common.{◌≡◌, length}
use Rattle.razor_reader.specs.TokenReading.{code_run}
use Rattle.razor_reader.proofs.ListLoops.{joined}
use Rattle.razor_reader.proofs.tokens.code_first.Given as goal

-- the tokens so far go before those of the pieces that are left
abbrev pub invariant-loop-p : goal.invariant-loop-p
invariant-loop-p l = code_run l.fn.pieces ≡ joined l.tokens.items (code_run l.rest)

abbrev pub decreases-loop-p : goal.decreases-loop-p
decreases-loop-p l = length l.rest
