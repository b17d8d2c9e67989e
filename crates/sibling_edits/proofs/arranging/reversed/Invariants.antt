use Rattle.std.proofs.Common.{◌≡◌, ◌++◌, length, reverse}
use Rattle.sibling_edits.proofs.arranging.reversed.Given as goal

abbrev pub decreases-loop-last : goal.decreases-loop-last
decreases-loop-last l = length l.nodes

abbrev pub invariant-loop-last : goal.invariant-loop-last
invariant-loop-last l = l.them ++ reverse l.nodes ≡ reverse l.initial.nodes
