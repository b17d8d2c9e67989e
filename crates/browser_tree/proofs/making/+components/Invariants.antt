use Rattle.std.proofs.Common.{◌≡◌, ◌++◌, map, drop}
use Rattle.std.specs.List.{concat}
use Rattle.edit_meaning.specs.Made.{components_in}
use Rattle.browser_tree.proofs.making.+components.Given as goal

abbrev pub invariant-add_all_components-loop-wire : goal.invariant-add_all_components-loop-wire
invariant-add_all_components-loop-wire l = l.numbers ++ concat (map components_in (drop l.wire-index l.wires)) ≡ l.initial.numbers ++ concat (map components_in l.wires)
