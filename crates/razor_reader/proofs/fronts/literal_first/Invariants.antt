use Rattle.std.proofs.Common.{◌≡◌, length}
use Rattle.razor_ast.specs.Literals.{literal_run}
use Rattle.razor_reader.proofs.ListLoops.{joined}
use Rattle.razor_reader.proofs.fronts.literal_first.Given as goal

-- what is said so far goes before what the pieces that are left say
abbrev pub invariant-loop-p : goal.invariant-loop-p
invariant-loop-p l = literal_run l.fn.pieces ≡ joined l.text (literal_run l.rest)

abbrev pub decreases-loop-p : goal.decreases-loop-p
decreases-loop-p l = length l.rest
