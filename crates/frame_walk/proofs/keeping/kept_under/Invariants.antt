use Rattle.std.proofs.Common.{take}
use Rattle.frame_walk.specs.Keeping.{KeepsUnder}
use Rattle.frame_walk.proofs.keeping.kept_under.Given as goal

abbrev pub invariant-loop-attribute : goal.invariant-loop-attribute
invariant-loop-attribute l = KeepsUnder l.was (take l.attribute-index l.attributes) l.kept
