use Rattle.std.proofs.Common.{◌≡◌, ◌++◌, drop}
use Rattle.page_core.specs.Print.{nodes_text}
use Rattle.page_core.proofs.printing.+print.Given as goal

-- what is printed, with the nodes that are left, is what all of them print
abbrev pub invariant-print_nodes-loop-node : goal.invariant-print_nodes-loop-node
invariant-print_nodes-loop-node l = l.out ++ nodes_text (drop l.node-index l.nodes) ≡ l.initial.out ++ nodes_text l.nodes
