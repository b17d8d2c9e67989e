use Rattle.std.proofs.Common.{◌≡◌, ◌++◌, reverse, length}
use Rattle.std.specs.List.{insert}
use Rattle.browser_tree.proofs.focus.inserted.Given as goal

abbrev pub invariant-loop-next : goal.invariant-loop-next
invariant-loop-next l = l.nodes ++ reverse l.tail ≡ insert l.fn.nodes l.place l.fn.node

abbrev pub decreases-loop-next : goal.decreases-loop-next
decreases-loop-next l = length l.tail
