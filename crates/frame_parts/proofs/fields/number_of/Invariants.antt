use Rattle.std.proofs.Common.{◌≡◌, drop}
use Rattle.frame_parts.specs.Components.{method_number}
use Rattle.frame_parts.proofs.fields.number_of.Given as goal

abbrev pub invariant-loop-one : goal.invariant-loop-one
invariant-loop-one l = method_number l.site.home.first l.name l.site.home.members.now ≡ method_number l.number l.name (drop l.one-index l.site.home.members.now)
