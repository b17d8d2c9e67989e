use Rattle.std.proofs.Common.{◌≡◌, map, take}
use Rattle.razor_rules.specs.Members.{name_of}
use Rattle.rule_findings.specs.Views.{ident_of}
use Rattle.razor_parts.proofs.records.member_idents.Given as goal

-- the names so far
abbrev pub invariant-loop-member : goal.invariant-loop-member
invariant-loop-member l = map ident_of l.names.items ≡ map (λ one. name_of one.kind) (take l.member-index l.members)
