use Rattle.std.proofs.Common.{◌≡◌}
use Rattle.razor_ast.specs.Pieces.{counted}
use Rattle.razor_reader.proofs.reader.counted.Given as goal

-- what is kept so far are the pieces so far that count
abbrev pub invariant-loop-p : goal.invariant-loop-p
invariant-loop-p l = l.kept.items ≡ counted l.yielded
