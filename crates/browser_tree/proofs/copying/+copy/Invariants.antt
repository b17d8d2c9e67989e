use Rattle.std.proofs.Common.{◌≡◌, take}
use Rattle.browser_tree.proofs.copying.+copy.Given as goal

abbrev pub invariant-copy_all-loop-node : goal.invariant-copy_all-loop-node
invariant-copy_all-loop-node l = l.copies ≡ take l.node-index l.nodes
