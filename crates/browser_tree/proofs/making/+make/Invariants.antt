use Rattle.std.proofs.Common.{◌≡◌, map, take}
use Rattle.edit_meaning.specs.Made.{made}
use Rattle.browser_tree.proofs.making.+make.Given as goal

abbrev pub invariant-make_all-loop-wire : goal.invariant-make_all-loop-wire
invariant-make_all-loop-wire l = l.nodes ≡ map (made l.batch) (take l.wire-index l.wires)
