use Rattle.std.proofs.Common.{◌≡◌, map, take}
use Rattle.cs_forms.specs.Comparing.{has_no_parts}
use Rattle.cs_forms.proofs.comparing.first_table.Given as goal

-- the flags of the members so far
abbrev pub invariant-loop-one : goal.invariant-loop-one
invariant-loop-one l = l.flags.items ≡ map (λ one. has_no_parts one.kind) (take l.one-index l.records)
