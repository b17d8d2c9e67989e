use Rattle.std.proofs.Common.{take}
use Rattle.item_edits.specs.Renderings.{AllClear}
use Rattle.item_edits.proofs.fitting.+clear.Given as goal

abbrev pub invariant-all_clear-loop-item : goal.invariant-all_clear-loop-item
invariant-all_clear-loop-item l = AllClear (take l.item-index l.items)
