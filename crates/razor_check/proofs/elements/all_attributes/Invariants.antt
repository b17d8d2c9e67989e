use Rattle.std.proofs.Common.{◌≡◌, drop}
use Rattle.std.specs.List.{flat_map}
use Rattle.razor_rules.specs.Findings.{also}
use Rattle.razor_check.specs.Elements.{attribute_rules}
use Rattle.razor_check.proofs.elements.all_attributes.Given as goal

-- what was found so far, and what is found in the rest
abbrev pub invariant-loop-one : goal.invariant-loop-one
invariant-loop-one l =
    record {
      same : l.g ≡ l.fn.g;
      does : also l.fn.found.first (flat_map (λ one. attribute_rules l.home.members.now l.fn.g one.kind one.name) l.attributes)
          ≡ also l.found.first (flat_map (λ one. attribute_rules l.home.members.now l.fn.g one.kind one.name) (drop l.one-index l.attributes));
    }
