use Rattle.std.proofs.Common.{◌≡◌, drop}
use Rattle.razor_rules.specs.Tags.{context_in}
use Rattle.razor_parts.proofs.tags.context_in.Given as goal

-- none so far is it
abbrev pub invariant-loop-one : goal.invariant-loop-one
invariant-loop-one l = context_in l.attributes ≡ context_in (drop l.one-index l.attributes)
