use Rattle.std.proofs.Common.{◌≡◌, drop}
use Rattle.cs_rules.specs.Library.{part_from}
use Rattle.cs_forms.proofs.members.part_named.Given as goal

-- none of the parts so far has the name
abbrev pub invariant-loop-number : goal.invariant-loop-number
invariant-loop-number l = part_from 0 l.name l.parts ≡ part_from l.number l.name (drop l.number l.parts)
