use Rattle.std.proofs.Common.{◌≡◌, map, take}
use Rattle.pairing_meaning.specs.Wires.{wire_attribute}
use Rattle.item_edits.proofs.wires.say_attributes.Given as goal

abbrev pub invariant-loop-attribute : goal.invariant-loop-attribute
invariant-loop-attribute l = l.said ≡ map wire_attribute (take l.attribute-index l.attributes)
