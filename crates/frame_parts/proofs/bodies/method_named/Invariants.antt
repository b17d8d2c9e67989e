use Rattle.std.proofs.Common.{◌≡◌, drop}
use Rattle.frame_parts.specs.Methods.{method_named}
use Rattle.frame_parts.proofs.bodies.method_named.Given as goal

abbrev pub invariant-loop-one : goal.invariant-loop-one
invariant-loop-one l = method_named l.members l.name ≡ method_named (drop l.one-index l.members) l.name
