use Rattle.std.proofs.Common.{◌≡◌, ◌++◌, take}
use Rattle.std.specs.List.{flat_map}
use Rattle.razor_print.specs.Parts.{parts_text}
use Rattle.razor_print.specs.Attributes.{value_part}
use Rattle.razor_print.proofs.values.push_value_parts.Given as goal

abbrev pub invariant-loop-part : goal.invariant-loop-part
invariant-loop-part l = l.out ≡ l.initial.out ++ flat_map (λ x. parts_text (value_part x)) (take l.part-index l.parts)
