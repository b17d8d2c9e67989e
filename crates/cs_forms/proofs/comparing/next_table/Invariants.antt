use Rattle.std.proofs.Common.{◌≡◌, map, take}
use Rattle.cs_forms.specs.Comparing.{compares_by, parts_pass}
use Rattle.cs_forms.proofs.comparing.next_table.Given as goal

-- the flags of the members so far
abbrev pub invariant-loop-one : goal.invariant-loop-one
invariant-loop-one l = l.next.items ≡ map (λ one. parts_pass (compares_by l.flags l.records) one.kind) (take l.one-index l.records)
