use Rattle.std.proofs.Common.{◌≡◌, drop, reverse, []}
use Rattle.razor_ast.specs.Nesting.{too_deep_from}
use Rattle.razor_reader.proofs.depth.first_too_deep.Given as goal

abbrev pub invariant-loop-p : goal.invariant-loop-p
invariant-loop-p l = too_deep_from [] l.pieces ≡ too_deep_from (reverse l.counts.items) (drop l.p-index l.pieces)
