use Rattle.std.proofs.Common.{◌≡◌, drop}
use Rattle.edit_meaning.specs.Batches.{lists_edited}
use Rattle.browser_tree.proofs.lists.edit_lists.Given as goal

abbrev pub invariant-loop-list : goal.invariant-loop-list
invariant-loop-list l = lists_edited l.batch (drop l.list-index l.lists) l.tree.entries ≡ lists_edited l.batch l.lists l.initial.tree.entries
