use Rattle.std.proofs.Common.{◌≡◌, ◌+◌, ◌*◌}
use Rattle.pairing_meaning.specs.Slots.{slots_of}
use Rattle.item_edits.specs.Renderings.{size_of, sizes}
use Rattle.item_components.specs.Listed.{Lists, Before}
use Rattle.item_components.proofs.staying.+staying.Given as goal

abbrev pub decreases-of_pair : goal.decreases-of_pair
decreases-of_pair l = 3 * size_of l.new.now

abbrev pub decreases-of_slot : goal.decreases-of_slot
decreases-of_slot l = 3 * size_of l.new.now + 1

abbrev pub decreases-retained : goal.decreases-retained
decreases-retained l = 3 * sizes l.news.now + 2

abbrev pub invariant-retained-loop-k : goal.invariant-retained-loop-k
invariant-retained-loop-k l = Lists l.pairs (Before l.k l.places (slots_of l.olds) (slots_of l.news))
