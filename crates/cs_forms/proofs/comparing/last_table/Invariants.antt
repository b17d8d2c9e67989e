use Rattle.std.proofs.Common.{◌≡◌}
use Rattle.cs_forms.specs.Comparing.{table}
use Rattle.cs_forms.proofs.comparing.last_table.Given as goal

-- the table for as many levels as were looked into
abbrev pub invariant-loop-depth : goal.invariant-loop-depth
invariant-loop-depth l = l.flags.items ≡ table l._depth l.records
