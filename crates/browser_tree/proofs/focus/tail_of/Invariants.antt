use Rattle.std.proofs.Common.{◌≡◌, ◌++◌, ◌≤◌, ◌⊎◌, reverse, length, []}
use Rattle.browser_tree.proofs.focus.tail_of.Given as goal

abbrev pub invariant-loop-nodes : goal.invariant-loop-nodes
invariant-loop-nodes l = (l.nodes ++ reverse l.tail ≡ l.initial.nodes) × ((l.place ≤ length l.nodes) ⊎ (reverse l.tail ≡ []))

abbrev pub decreases-loop-nodes : goal.decreases-loop-nodes
decreases-loop-nodes l = length l.nodes
