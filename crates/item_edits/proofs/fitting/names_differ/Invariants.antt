use Rattle.std.proofs.Common.{take}
use Rattle.item_edits.specs.Renderings.{NamesDiffer}
use Rattle.item_edits.proofs.fitting.names_differ.Given as goal

abbrev pub invariant-loop-k : goal.invariant-loop-k
invariant-loop-k l = NamesDiffer (take l.k l.attributes)
