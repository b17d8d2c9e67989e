use Rattle.std.proofs.Common.{◌≡◌, ◌+◌, ◌≤◌, length}
use Rattle.razor_ast.specs.Brackets.{in_brackets}
use Rattle.razor_reader.proofs.PieceLoops.{before}
use Rattle.razor_reader.proofs.tokens.inside.Given as goal

abbrev pub invariant-loop-p : goal.invariant-loop-p
invariant-loop-p l = record {
  small : l.count + length l.rest ≤ length l.fn.pieces;
  same : in_brackets l.fn.pieces 0 ≡ before l.tokens.items (in_brackets l.rest l.count);
}

abbrev pub decreases-loop-p : goal.decreases-loop-p
decreases-loop-p l = length l.rest
