use Rattle.std.proofs.Common.{◌≡◌, map, take}
use Rattle.std.specs.Prelude.{sum}
use Rattle.razor_rules.specs.Numbers.{numbers_of_kind}
use Rattle.razor_parts.proofs.numbers.of_attributes.Given as goal

-- the numbers so far
abbrev pub invariant-loop-one : goal.invariant-loop-one
invariant-loop-one l = l.all ≡ sum (map (λ one. numbers_of_kind one.kind) (take l.one-index l.attributes))
