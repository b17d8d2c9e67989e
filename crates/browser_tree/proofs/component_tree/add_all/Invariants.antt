use Rattle.std.proofs.Common.{◌≡◌, length}
use Rattle.edit_meaning.specs.Edits.{with_components}
use Rattle.browser_tree.proofs.component_tree.add_all.Given as goal

abbrev pub invariant-loop-rest : goal.invariant-loop-rest
invariant-loop-rest l = with_components l.rest l.tree.entries ≡ with_components l.numbers l.initial.tree.entries

abbrev pub decreases-loop-rest : goal.decreases-loop-rest
decreases-loop-rest l = length l.rest
