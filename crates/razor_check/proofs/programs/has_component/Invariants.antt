use Rattle.std.proofs.Common.{◌≡◌, drop, map}
use Rattle.razor_rules.specs.Names.{is_among}
use Rattle.razor_check.proofs.programs.has_component.Given as goal

-- none so far has the name
abbrev pub invariant-loop-one : goal.invariant-loop-one
invariant-loop-one l = is_among l.name (map (λ one. one.name) l.components) ≡ is_among l.name (map (λ one. one.name) (drop l.one-index l.components))
