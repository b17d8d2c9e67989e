use Rattle.std.proofs.Common.{◌≡◌, drop}
use Rattle.cs_rules.specs.Statements.{has_default}
use Rattle.cs_forms.proofs.labels.has_default.Given as goal

-- none so far is the default
abbrev pub invariant-loop-label : goal.invariant-loop-label
invariant-loop-label l = has_default l.labels ≡ has_default (drop l.label-index l.labels)
