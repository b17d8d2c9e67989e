use Rattle.std.proofs.Common.{◌≡◌, length, take, map}
use Rattle.item_pairing.specs.Standing.{mark_of}
use Rattle.item_pairing.proofs.pairing.same_regions.Given as goal

abbrev pub invariant-loop-k : goal.invariant-loop-k
invariant-loop-k l = (length l.ones ≡ length l.others) × (map mark_of (take l.k l.ones) ≡ map mark_of (take l.k l.others))
