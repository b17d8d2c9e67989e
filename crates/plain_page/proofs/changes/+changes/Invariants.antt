use Rattle.std.proofs.Common.{◌≡◌, ◌≤◌, ◌-◌, ◌^◌, drop, map}
use Rattle.plain_page.specs.Changes.{node_changes}
use Rattle.plain_page.proofs.ChangeLemmas.{behind}
use Rattle.plain_page.proofs.changes.+changes.Given as goal

-- the changes so far, with those of the nodes that are left, are the changes of all
abbrev pub invariant-changes_of-loop-i : goal.invariant-changes_of-loop-i
invariant-changes_of-loop-i l = record {
  all : behind l.all (map node_changes (drop l.i l.before)) (drop l.i l.after) ≡ behind l.initial.all (map node_changes l.before) l.after;
  texts : l.all.texts ≤ 2 ^ 32 - 1;
  elements : l.all.elements ≤ 2 ^ 32 - 1;
}
