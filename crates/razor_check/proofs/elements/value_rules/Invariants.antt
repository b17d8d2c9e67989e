use Rattle.std.proofs.Common.{◌≡◌, drop}
use Rattle.std.specs.List.{flat_map}
use Rattle.razor_rules.specs.Findings.{also}
use Rattle.razor_check.specs.Elements.{part_rules}
use Rattle.razor_check.proofs.elements.value_rules.Given as goal

-- what was found so far, and what is found in the rest
abbrev pub invariant-loop-part : goal.invariant-loop-part
invariant-loop-part l = also l.fn.found.first (flat_map (part_rules l.g) l.parts) ≡ also l.found.first (flat_map (part_rules l.g) (drop l.part-index l.parts))
