use Rattle.std.proofs.Common.{◌≡◌, drop, map}
use Rattle.razor_rules.specs.Names.{is_among}
use Rattle.rule_findings.specs.Views.{text_of}
use Rattle.rule_findings.proofs.names.is_among.Given as goal

-- none so far is the name
abbrev pub invariant-loop-one : goal.invariant-loop-one
invariant-loop-one l = is_among l.text (map text_of l.names) ≡ is_among l.text (map text_of (drop l.one-index l.names))
