use Rattle.std.proofs.Common.{◌≡◌, ◌++◌, length, map, reverse}
use Rattle.std.specs.List.{flat_map}
use Rattle.frame_walk.specs.Ids.{value_of, id_of, bare_attribute}
use Rattle.frame_walk.specs.Told.{Takes}
use Rattle.frame_walk.proofs.NamingLemmas.{Named}
use Rattle.frame_walk.proofs.naming.attributes_with_ids.Given as goal

abbrev pub invariant-loop-last : goal.invariant-loop-last
invariant-loop-last l = Named bare_attribute id_of value_of l.initial.rest l.rest l.named.items l.initial.ids l.ids

abbrev pub decreases-loop-last : goal.decreases-loop-last
decreases-loop-last l = length l.rest
