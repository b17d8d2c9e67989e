use Rattle.std.proofs.Common.{◌≡◌, drop}
use Rattle.page_meaning.specs.Tags.{parameter_from}
use Rattle.frame_parts.proofs.targets.parameter_of.Given as goal

abbrev pub invariant-loop-one : goal.invariant-loop-one
invariant-loop-one l = parameter_from l.members l.name 0 ≡ parameter_from (drop l.one-index l.members) l.name l.place
