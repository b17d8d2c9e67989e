use Rattle.std.proofs.Common.{◌+◌, ◌*◌, take}
use Rattle.pairing_meaning.specs.Slots.{slots_of}
use Rattle.item_edits.specs.Renderings.{size_of, sizes}
use Rattle.frame_walk.specs.Keeping.{KeepsSlots}
use Rattle.frame_walk.proofs.keeping.+keeping.Given as goal

abbrev pub decreases-kept_in : goal.decreases-kept_in
decreases-kept_in l = 3 * size_of l.new.now

abbrev pub decreases-kept_of : goal.decreases-kept_of
decreases-kept_of l = 3 * size_of l.new.now + 1

abbrev pub decreases-kept_ids : goal.decreases-kept_ids
decreases-kept_ids l = 3 * sizes l.news.now + 2

abbrev pub invariant-kept_ids-loop-k : goal.invariant-kept_ids-loop-k
invariant-kept_ids-loop-k l = KeepsSlots (take l.k l.places) (slots_of l.olds) (take l.k (slots_of l.news)) l.kept
