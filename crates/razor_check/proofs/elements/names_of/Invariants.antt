use Rattle.std.proofs.Common.{◌≡◌, map, take}
use Rattle.rule_findings.specs.Views.{ident_of}
use Rattle.razor_check.proofs.elements.names_of.Given as goal

-- the names so far
abbrev pub invariant-loop-one : goal.invariant-loop-one
invariant-loop-one l = map ident_of l.names.items ≡ take l.one-index l.idents
