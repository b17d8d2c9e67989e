use Rattle.std.proofs.Common.{◌≡◌, drop}
use Rattle.edit_meaning.specs.Edits.{all_edited}
use Rattle.browser_tree.specs.Standing.{focus_of}
use Rattle.browser_tree.proofs.edits.edit_all.Given as goal

abbrev pub invariant-loop-edit : goal.invariant-loop-edit
invariant-loop-edit l = all_edited l.batch (drop l.edit-index l.edits) (focus_of l.focus) ≡ all_edited l.batch l.edits (focus_of l.initial.focus)
