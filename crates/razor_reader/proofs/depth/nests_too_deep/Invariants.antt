use Rattle.std.proofs.Common.{◌≡◌, drop, reverse}
use Rattle.cs_grammar.specs.Nesting.{too_deep_from}
use Rattle.razor_reader.proofs.depth.nests_too_deep.Given as goal

abbrev pub invariant-loop-t : goal.invariant-loop-t
invariant-loop-t l = too_deep_from (reverse l.fn.counts.items) l.tokens ≡ too_deep_from (reverse l.counts.items) (drop l.t-index l.tokens)
