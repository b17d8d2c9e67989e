use Rattle.std.proofs.Common.{◌≡◌, length}
use Rattle.edit_meaning.specs.Batches.{all_forgotten}
use Rattle.browser_tree.proofs.component_tree.forget_all.Given as goal

abbrev pub invariant-loop-rest : goal.invariant-loop-rest
invariant-loop-rest l = all_forgotten l.rest l.tree.entries ≡ all_forgotten l.numbers l.initial.tree.entries

abbrev pub decreases-loop-rest : goal.decreases-loop-rest
decreases-loop-rest l = length l.rest
