use Rattle.std.proofs.Common.{◌≡◌, drop}
use Rattle.std.specs.Prelude.{bytes_eq, codes}
use Rattle.std.specs.List.{list_any}
use Rattle.razor_check.proofs.parameters.has_value.Given as goal

-- none so far is the value
abbrev pub invariant-loop-one : goal.invariant-loop-one
invariant-loop-one l = list_any (λ one. bytes_eq one.name (codes "Value")) l.attributes ≡ list_any (λ one. bytes_eq one.name (codes "Value")) (drop l.one-index l.attributes)
