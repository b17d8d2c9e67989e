use Rattle.std.proofs.Common.{◌≡◌, take}
use Rattle.first_click.specs.Rendering.{fresh_nodes}
use Rattle.first_click.proofs.rendering.+fresh.Given as goal

abbrev pub invariant-fresh_nodes-loop-item : goal.invariant-fresh_nodes-loop-item
invariant-fresh_nodes-loop-item l = l.nodes ≡ fresh_nodes l.born l.fields (take l.item-index l.items)
