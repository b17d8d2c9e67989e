use Rattle.std.proofs.Common.{◌≡◌, ◌+◌, ◌≤◌, drop, map}
use Rattle.pairing_meaning.specs.Labels.{like}
use Rattle.pairing_meaning.specs.Slots.{same_address}
use Rattle.item_pairing.specs.Standing.{address_of}
use Rattle.item_pairing.proofs.pairing.count_same.Given as goal

abbrev pub invariant-loop-other : goal.invariant-loop-other
invariant-loop-other l = (l.count + like same_address (address_of l.slot) (map address_of (drop l.other-index l.slots)) ≡ like same_address (address_of l.slot) (map address_of l.slots)) × (l.count ≤ l.other-index)
