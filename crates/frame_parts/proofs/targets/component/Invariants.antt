use Rattle.std.proofs.Common.{◌≡◌, drop}
use Rattle.frame_parts.specs.Targets.{component_from}
use Rattle.frame_parts.proofs.targets.component.Given as goal

abbrev pub invariant-loop-one : goal.invariant-loop-one
invariant-loop-one l = component_from l.components l.name 0 ≡ component_from (drop l.one-index l.components) l.name l.position
