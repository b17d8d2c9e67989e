use Rattle.std.proofs.Common.{◌≡◌, ◌++◌, drop}
use Rattle.frame_walk.specs.Ids.{ids_of}
use Rattle.frame_walk.proofs.going.+ids.Given as goal

abbrev pub invariant-with_items-loop-item : goal.invariant-with_items-loop-item
invariant-with_items-loop-item l = l.ids ++ ids_of (drop l.item-index l.items) ≡ l.initial.ids ++ ids_of l.items
