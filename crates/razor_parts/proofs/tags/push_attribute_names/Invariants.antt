use Rattle.std.proofs.Common.{◌≡◌, ◌++◌, drop, map}
use Rattle.razor_rules.specs.Tags.{attribute_names}
use Rattle.rule_findings.specs.Views.{ident_of}
use Rattle.razor_parts.proofs.tags.push_attribute_names.Given as goal

-- the names so far, and those of the rest
abbrev pub invariant-loop-one : goal.invariant-loop-one
invariant-loop-one l = map ident_of l.fn.names.items ++ attribute_names l.attributes ≡ map ident_of l.names.items ++ attribute_names (drop l.one-index l.attributes)
