use Rattle.std.proofs.Common.{◌≡◌, ◌++◌, drop, map}
use Rattle.razor_rules.specs.Members.{name_of}
use Rattle.razor_rules.specs.Scopes.{records_of}
use Rattle.rule_findings.specs.Views.{text_of}
use Rattle.razor_parts.proofs.records.record_names.Given as goal

-- those so far, and those of the rest
abbrev pub invariant-loop-component : goal.invariant-loop-component
invariant-loop-component l =
    map (λ one. (name_of one.kind).name) (records_of l.components)
    ≡ map text_of l.names.items ++ map (λ one. (name_of one.kind).name) (records_of (drop l.component-index l.components))
