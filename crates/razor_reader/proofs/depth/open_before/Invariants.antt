use Rattle.std.proofs.Common.{◌≡◌, drop, reverse, []}
use Rattle.razor_ast.specs.Nesting as nesting
use Rattle.razor_reader.proofs.depth.open_before.Given as goal

abbrev pub invariant-loop-p : goal.invariant-loop-p
invariant-loop-p l = nesting.open_before l.start [] l.pieces ≡ nesting.open_before l.start (reverse l.counts.items) (drop l.p-index l.pieces)
