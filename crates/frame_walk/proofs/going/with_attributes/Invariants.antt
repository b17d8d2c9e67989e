use Rattle.std.proofs.Common.{◌≡◌, ◌++◌, drop}
use Rattle.std.specs.List.{flat_map}
use Rattle.frame_walk.specs.Ids.{id_of}
use Rattle.frame_walk.proofs.going.with_attributes.Given as goal

abbrev pub invariant-loop-attribute : goal.invariant-loop-attribute
invariant-loop-attribute l = l.ids ++ flat_map id_of (drop l.attribute-index l.attributes) ≡ l.initial.ids ++ flat_map id_of l.attributes
