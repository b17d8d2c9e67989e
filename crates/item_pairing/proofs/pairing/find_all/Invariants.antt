use Rattle.std.proofs.Common.{◌≡◌, ◌++◌, [], take, drop, map}
use Rattle.pairing_meaning.specs.Slots.{same_address}
use Rattle.item_pairing.specs.Standing.{address_of}
use Rattle.item_pairing.specs.Found.{found_for}
use Rattle.item_pairing.proofs.pairing.find_all.Given as goal

abbrev pub invariant-loop-k : goal.invariant-loop-k
invariant-loop-k l = l.from ++ found_for same_address (map address_of l.olds) (map address_of (take l.k l.news)) (map address_of (drop l.k l.news)) ≡ found_for same_address (map address_of l.olds) [] (map address_of l.news)
