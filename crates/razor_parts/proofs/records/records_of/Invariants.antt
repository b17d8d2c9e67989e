use Rattle.std.proofs.Common.{◌≡◌, ◌++◌, drop}
use Rattle.razor_rules.specs.Scopes.{records_of}
use Rattle.razor_parts.proofs.records.records_of.Given as goal

-- those so far, and those of the rest
abbrev pub invariant-loop-component : goal.invariant-loop-component
invariant-loop-component l = records_of l.components ≡ l.records ++ records_of (drop l.component-index l.components)
