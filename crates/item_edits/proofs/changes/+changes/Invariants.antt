use Rattle.std.proofs.Common.{◌+◌, ◌*◌}
use Rattle.pairing_meaning.specs.Slots.{slots_of}
use Rattle.pairing_meaning.specs.Wires.{wires_of}
use Rattle.item_edits.specs.Renderings.{size_of, sizes}
use Rattle.item_edits.specs.Steps.{Stands}
use Rattle.item_edits.proofs.changes.+changes.Given as goal

abbrev pub decreases-change : goal.decreases-change
decreases-change l = 3 * size_of l.new.now

abbrev pub decreases-pair_change : goal.decreases-pair_change
decreases-pair_change l = 3 * size_of l.new.now + 1

abbrev pub decreases-edits_of : goal.decreases-edits_of
decreases-edits_of l = 3 * sizes l.news.now + 2

abbrev pub invariant-edits_of-loop-k : goal.invariant-edits_of-loop-k
invariant-edits_of-loop-k l = Stands l.k l.places (slots_of l.olds) (slots_of l.news) (wires_of l.news) l.edits
