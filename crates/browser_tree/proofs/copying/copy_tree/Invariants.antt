use Rattle.std.proofs.Common.{◌≡◌, ◌++◌}
use Rattle.browser_tree.proofs.copying.copy_tree.Given as goal

abbrev pub invariant-loop-number : goal.invariant-loop-number
invariant-loop-number l = l.copy.entries ++ l.number-iterator ≡ l.tree.entries
