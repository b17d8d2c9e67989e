use Rattle.std.proofs.Common.{◌≡◌, drop}
use Rattle.razor_rules.specs.Names.{is_among}
use Rattle.razor_parts.proofs.circles.is_among_texts.Given as goal

-- none so far is the name
abbrev pub invariant-loop-one : goal.invariant-loop-one
invariant-loop-one l = is_among l.name l.names ≡ is_among l.name (drop l.one-index l.names)
