use Rattle.std.proofs.Common.{◌≡◌, drop}
use Rattle.std.specs.List.{flat_map}
use Rattle.cs_rules.specs.Written.{written}
use Rattle.razor_rules.specs.Findings.{also, found}
use Rattle.razor_rules.specs.WrittenTypes.{argument_type}
use Rattle.razor_check.proofs.methods.argument_types.Given as goal

-- what was found so far, and what is found in the rest
abbrev pub invariant-loop-one : goal.invariant-loop-one
invariant-loop-one l =
    also l.fn.found.first (flat_map (λ one. found (argument_type l.home.records.now one.cs_type)) l.arguments)
    ≡ also l.found.first (flat_map (λ one. found (argument_type l.home.records.now one.cs_type)) (drop l.one-index l.arguments))
