use Rattle.std.proofs.Common.{◌≡◌, ◌++◌, IsTrue, drop}
use Rattle.plain_page.specs.Plain.{are_plain, are_stored}
use Rattle.plain_page.specs.Spelling.{spelled_nodes}
use Rattle.plain_page.proofs.spelling.+spelling.Given as goal

-- the nodes so far are spelled and may be stored, and those that are left are plain
abbrev pub invariant-put_nodes-loop-node : goal.invariant-put_nodes-loop-node
invariant-put_nodes-loop-node l = record {
  out : l.out.items ++ spelled_nodes (drop l.node-index l.nodes) ≡ l.initial.out.items ++ spelled_nodes l.nodes;
  plain : IsTrue (are_plain (drop l.node-index l.nodes));
  stored : are_stored (drop l.node-index l.nodes) ≡ are_stored l.nodes;
}
