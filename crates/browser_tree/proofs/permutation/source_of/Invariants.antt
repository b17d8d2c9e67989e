use Rattle.std.proofs.Common.{◌≡◌, drop}
use Rattle.edit_meaning.specs.Permutations.{source}
use Rattle.browser_tree.proofs.permutation.source_of.Given as goal

abbrev pub invariant-loop-entry : goal.invariant-loop-entry
invariant-loop-entry l = source (drop l.entry-index l.entries) l.place ≡ source l.entries l.place
