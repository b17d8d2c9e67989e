use Rattle.std.proofs.Common.{◌≡◌, drop}
use Rattle.razor_rules.specs.Elements.{field_from}
use Rattle.frame_parts.proofs.bound.own_field.Given as goal

abbrev pub invariant-loop-one : goal.invariant-loop-one
invariant-loop-one l = field_from l.members l.name 0 ≡ field_from (drop l.one-index l.members) l.name l.place
