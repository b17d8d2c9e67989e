use Rattle.std.proofs.Common.{◌≡◌, ◌++◌, map, drop}
use Rattle.frame_walk.specs.Ids.{values_of}
use Rattle.frame_walk.specs.Told.{told_of}
use Rattle.frame_walk.proofs.told.+told.Given as goal

abbrev pub invariant-with_items-loop-item : goal.invariant-with_items-loop-item
invariant-with_items-loop-item l = map told_of l.tolds.items ++ values_of (drop l.item-index l.items) ≡ map told_of l.initial.tolds.items ++ values_of l.items
