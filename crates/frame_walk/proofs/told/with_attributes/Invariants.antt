use Rattle.std.proofs.Common.{◌≡◌, ◌++◌, map, drop}
use Rattle.std.specs.List.{flat_map}
use Rattle.frame_walk.specs.Ids.{value_of}
use Rattle.frame_walk.specs.Told.{told_of}
use Rattle.frame_walk.proofs.told.with_attributes.Given as goal

abbrev pub invariant-loop-attribute : goal.invariant-loop-attribute
invariant-loop-attribute l = map told_of l.tolds.items ++ flat_map value_of (drop l.attribute-index l.attributes) ≡ map told_of l.initial.tolds.items ++ flat_map value_of l.attributes
