use Rattle.std.proofs.Common.{◌≡◌, ◌++◌, map, take}
use Rattle.razor_print.specs.declared.before.Before.TheVariants as b
use Rattle.razor_print.specs.Parts.{parts_text}
use Rattle.razor_print.specs.Nodes.{node}
use Rattle.razor_print.specs.Components.{file_from, behind_all}
use Rattle.razor_print.proofs.component.push_nodes.Given as goal

abbrev pub invariant-loop-node : goal.invariant-loop-node
invariant-loop-node l = record {
  written : l.out ≡ l.initial.out ++ parts_text (file_from b.Other (map node (take l.node-index l.nodes)));
  left : l.before ≡ behind_all b.Other (map node (take l.node-index l.nodes));
}
