use Rattle.std.proofs.Common.{◌≡◌, ◌++◌, drop}
use Rattle.pairing_meaning.specs.Wires.{wires_of}
use Rattle.item_edits.proofs.wires.+wires.Given as goal

abbrev pub invariant-with_items-loop-item : goal.invariant-with_items-loop-item
invariant-with_items-loop-item l = l.nodes ++ wires_of (drop l.item-index l.items) ≡ l.initial.nodes ++ wires_of l.items
