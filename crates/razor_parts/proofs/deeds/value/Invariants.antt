use Rattle.std.proofs.Common.{◌≡◌, drop}
use Rattle.std.specs.List.{list_any}
use Rattle.razor_rules.specs.TemplateDeeds.{part_does}
use Rattle.razor_parts.proofs.deeds.value.Given as goal

-- none so far does it
abbrev pub invariant-loop-part : goal.invariant-loop-part
invariant-loop-part l = list_any (part_does l.deed) l.parts ≡ list_any (part_does l.deed) (drop l.part-index l.parts)
