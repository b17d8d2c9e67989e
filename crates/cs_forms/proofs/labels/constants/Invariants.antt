use Rattle.std.proofs.Common.{◌≡◌, drop}
use Rattle.cs_rules.specs.Statements.{constants}
use Rattle.cs_forms.proofs.FrontLemmas.{with_front}
use Rattle.cs_forms.proofs.labels.constants.Given as goal

-- the constants so far, and those of the rest
abbrev pub invariant-loop-label : goal.invariant-loop-label
invariant-loop-label l = constants l.decided l.labels ≡ with_front l.values (constants l.decided (drop l.label-index l.labels))
