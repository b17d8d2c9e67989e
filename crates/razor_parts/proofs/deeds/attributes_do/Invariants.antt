use Rattle.std.proofs.Common.{◌≡◌, drop}
use Rattle.razor_rules.specs.TemplateDeeds.{attributes_do}
use Rattle.razor_parts.proofs.deeds.attributes_do.Given as goal

-- none so far does it
abbrev pub invariant-loop-one : goal.invariant-loop-one
invariant-loop-one l = attributes_do l.deed l.attributes ≡ attributes_do l.deed (drop l.one-index l.attributes)
