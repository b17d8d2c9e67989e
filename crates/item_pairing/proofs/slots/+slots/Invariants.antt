use Rattle.std.proofs.Common.{◌≡◌, ◌++◌, take, drop, map}
use Rattle.pairing_meaning.specs.Labels.{label_of}
use Rattle.pairing_meaning.specs.Slots.{laid_out, laid_of, slots_of}
use Rattle.item_pairing.specs.Standing.{mark_of, slot_of, behind}
use Rattle.item_pairing.proofs.slots.+slots.Given as goal

abbrev pub invariant-with_items-loop-k : goal.invariant-with_items-loop-k
invariant-with_items-loop-k l = map slot_of l.slots.items ++ map (behind (map mark_of l.regions)) (laid_out (map label_of (take l.k l.items)) (map laid_of (drop l.k l.items))) ≡ map slot_of l.initial.slots.items ++ map (behind (map mark_of l.regions)) (slots_of l.items)
