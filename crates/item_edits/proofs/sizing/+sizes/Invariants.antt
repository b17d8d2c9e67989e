use Rattle.std.proofs.Common.{◌≡◌, ◌+◌, min, take}
use Rattle.item_edits.specs.Renderings.{sizes}
use Rattle.item_edits.proofs.sizing.+sizes.Given as goal

abbrev pub invariant-with_items-loop-item : goal.invariant-with_items-loop-item
invariant-with_items-loop-item l = l.count ≡ min (l.initial.count + sizes (take l.item-index l.items)) 4294967295
