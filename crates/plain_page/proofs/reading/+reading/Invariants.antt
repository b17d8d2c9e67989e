use Rattle.std.proofs.Common.{◌≡◌, ◌+◌, ◌*◌, ◌≤◌, option_map}
use Rattle.plain_page.specs.Reading.{nodes_at}
use Rattle.plain_page.specs.Laws.Reading.{behind}
use Rattle.plain_page.proofs.reading.+reading.Given as goal

abbrev pub decreases-element_at : goal.decreases-element_at
decreases-element_at l = 3 * l.fuel + 1

abbrev pub decreases-node_at : goal.decreases-node_at
decreases-node_at l = 3 * l.fuel + 2

abbrev pub decreases-nodes_at : goal.decreases-nodes_at
decreases-nodes_at l = 3 * l.fuel

-- the nodes so far, with what is read behind them, are what is read
abbrev pub invariant-nodes_at-loop-left : goal.invariant-nodes_at-loop-left
invariant-nodes_at-loop-left l = record {
  read : option_map (behind l.nodes) (nodes_at l.left l.rest) ≡ nodes_at l.fuel l.bytes;
  left : l.left ≤ l.fuel;
}

abbrev pub decreases-nodes_at-loop-left : goal.decreases-nodes_at-loop-left
decreases-nodes_at-loop-left l = l.left
