use Rattle.std.proofs.Common.{◌≡◌, ◌++◌, drop}
use Rattle.cs_effects.specs.Effects.{fields}
use Rattle.cs_effects.proofs.members.fields.Given as goal

-- the names so far, and those of the rest
abbrev pub invariant-loop-member : goal.invariant-loop-member
invariant-loop-member l = fields l.members ≡ l.names ++ fields (drop l.member-index l.members)
