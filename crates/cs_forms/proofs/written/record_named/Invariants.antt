use Rattle.std.proofs.Common.{◌≡◌, drop}
use Rattle.cs_rules.specs.Written.{record_from}
use Rattle.cs_forms.proofs.written.record_named.Given as goal

-- none of those so far has the name
abbrev pub invariant-loop-number : goal.invariant-loop-number
invariant-loop-number l = record_from 0 l.name l.records ≡ record_from l.number l.name (drop l.number l.records)
