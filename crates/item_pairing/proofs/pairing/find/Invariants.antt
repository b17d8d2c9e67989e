use Rattle.std.proofs.Common.{◌≡◌, drop, map}
use Rattle.pairing_meaning.specs.Slots.{same_address}
use Rattle.item_pairing.specs.Standing.{address_of}
use Rattle.item_pairing.specs.Found.{kth}
use Rattle.item_pairing.proofs.pairing.find.Given as goal

abbrev pub invariant-loop-k : goal.invariant-loop-k
invariant-loop-k l = kth same_address (address_of l.slot) l.before l.k (map address_of (drop l.k l.slots)) ≡ kth same_address (address_of l.slot) l.initial.before 0 (map address_of l.slots)
