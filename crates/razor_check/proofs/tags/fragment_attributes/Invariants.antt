use Rattle.std.proofs.Common.{◌≡◌, drop}
use Rattle.std.specs.List.{flat_map}
use Rattle.razor_rules.specs.Findings.{also}
use Rattle.razor_rules.specs.Tags.{fragment_attribute}
use Rattle.razor_check.proofs.tags.fragment_attributes.Given as goal

-- what was found so far, and what is found in the rest
abbrev pub invariant-loop-one : goal.invariant-loop-one
invariant-loop-one l = also l.fn.found.first (flat_map fragment_attribute l.attributes) ≡ also l.found.first (flat_map fragment_attribute (drop l.one-index l.attributes))
