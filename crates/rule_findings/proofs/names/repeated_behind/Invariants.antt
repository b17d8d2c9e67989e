use Rattle.std.proofs.Common.{◌≡◌, ◌++◌, take, drop, map}
use Rattle.razor_rules.specs.Findings.{also}
use Rattle.razor_rules.specs.Names.{repeated}
use Rattle.rule_findings.specs.Views.{text_of, ident_of}
use Rattle.rule_findings.proofs.names.repeated_behind.Given as goal

-- what was found so far, and what is found in the rest
abbrev pub invariant-loop-at : goal.invariant-loop-at
invariant-loop-at l =
    also l.fn.found.first (repeated l.rule (map text_of l.before) (map ident_of l.names))
    ≡ also l.found.first (repeated l.rule (map text_of l.before ++ map text_of (take l.at l.names)) (map ident_of (drop l.at l.names)))
