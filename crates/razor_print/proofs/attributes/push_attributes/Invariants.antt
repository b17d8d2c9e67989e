use Rattle.std.proofs.Common.{◌≡◌, ◌++◌, take}
use Rattle.std.specs.List.{flat_map}
use Rattle.razor_print.specs.Parts.{parts_text}
use Rattle.razor_print.specs.Attributes.{attribute_parts}
use Rattle.razor_print.proofs.attributes.push_attributes.Given as goal

abbrev pub invariant-loop-attribute : goal.invariant-loop-attribute
invariant-loop-attribute l = l.out ≡ l.initial.out ++ flat_map (λ x. parts_text (attribute_parts x)) (take l.attribute-index l.attributes)
