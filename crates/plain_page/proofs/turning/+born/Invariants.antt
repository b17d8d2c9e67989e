use Rattle.std.proofs.Common.{◌≡◌, drop}
use Rattle.plain_page.specs.Turning.{are_born}
use Rattle.plain_page.proofs.turning.+born.Given as goal

-- the nodes so far are born with that batch
abbrev pub invariant-are_born-loop-node : goal.invariant-are_born-loop-node
invariant-are_born-loop-node l = are_born l.number (drop l.node-index l.nodes) ≡ are_born l.number l.nodes
