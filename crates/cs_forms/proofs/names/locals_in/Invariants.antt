use Rattle.std.proofs.Common.{◌≡◌, ◌+◌, ◌≤◌, drop}
use Rattle.cs_rules.specs.Names.{locals_in}
use Rattle.cs_forms.proofs.names.locals_in.Given as goal

-- the locals so far are counted
abbrev pub invariant-loop-one : goal.invariant-loop-one
invariant-loop-one l = record { counted : l.count + locals_in (drop l.one-index l.names) ≡ locals_in l.names; bound : l.count ≤ l.one-index }
