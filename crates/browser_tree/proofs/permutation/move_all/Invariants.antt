use Rattle.std.proofs.Common.{◌≡◌, ◌++◌, drop}
use Rattle.edit_meaning.specs.Permutations.{placed, moved}
use Rattle.browser_tree.proofs.permutation.move_all.Given as goal

abbrev pub invariant-loop-place : goal.invariant-loop-place
invariant-loop-place l = l.them ++ placed l.entries l.nodes l.place (drop l.place l.nodes) ≡ moved l.entries l.nodes
