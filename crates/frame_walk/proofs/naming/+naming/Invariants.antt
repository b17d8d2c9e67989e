use Rattle.std.proofs.Common.{◌+◌, ◌*◌, ◌≤◌, length}
use Rattle.item_edits.specs.Renderings.{size_of, sizes}
use Rattle.frame_walk.specs.Ids.{ids_in, values_in, bare}
use Rattle.frame_walk.proofs.NamingLemmas.{Named}
use Rattle.frame_walk.proofs.naming.+naming.Given as goal

abbrev pub decreases-item_with_ids : goal.decreases-item_with_ids
decreases-item_with_ids l = 2 * size_of l.item

abbrev pub decreases-items_with_ids : goal.decreases-items_with_ids
decreases-items_with_ids l = 2 * sizes l.items + 1

abbrev pub invariant-items_with_ids-loop-last : goal.invariant-items_with_ids-loop-last
invariant-items_with_ids-loop-last l = Named bare ids_in values_in l.initial.rest l.rest l.named.items l.initial.ids l.ids × (sizes l.rest ≤ sizes l.initial.rest)

abbrev pub decreases-items_with_ids-loop-last : goal.decreases-items_with_ids-loop-last
decreases-items_with_ids-loop-last l = length l.rest
