use Rattle.std.proofs.Common.{◌≡◌, length}
use Rattle.razor_reader.specs.TokenReading.{code_to}
use Rattle.razor_reader.proofs.PieceLoops.{before}
use Rattle.razor_reader.proofs.tokens.code_to.Given as goal

abbrev pub invariant-loop-p : goal.invariant-loop-p
invariant-loop-p l = code_to l.mark l.fn.pieces ≡ before l.tokens.items (code_to l.mark l.rest)

abbrev pub decreases-loop-p : goal.decreases-loop-p
decreases-loop-p l = length l.rest
