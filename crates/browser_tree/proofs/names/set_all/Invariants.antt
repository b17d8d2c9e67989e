use Rattle.std.proofs.Common.{◌≡◌, drop}
use Rattle.std.specs.List.{fold}
use Rattle.edit_meaning.specs.Attributes.{set_under, all_set}
use Rattle.browser_tree.proofs.names.set_all.Given as goal

abbrev pub invariant-loop-attribute : goal.invariant-loop-attribute
invariant-loop-attribute l = fold set_under l.names (drop l.attribute-index l.attributes) ≡ all_set l.attributes
