use Rattle.std.proofs.Common.{◌≡◌, map, drop}
use Rattle.std.specs.List.{list_any}
use Rattle.cs_effects.specs.Deeds.{of_expr, of_part, of_with}
use Rattle.cs_effects.proofs.expressions.+expressions.Given as goal

-- none so far does it
abbrev pub invariant-any_of-loop-one : goal.invariant-any_of-loop-one
invariant-any_of-loop-one l = list_any (λ x. x.done l.locals) (map (of_expr l.deed) l.all) ≡ list_any (λ x. x.done l.locals) (map (of_expr l.deed) (drop l.one-index l.all))

abbrev pub invariant-any_part-loop-one : goal.invariant-any_part-loop-one
invariant-any_part-loop-one l = list_any (λ x. x l.locals) (map (of_part l.deed) l.all) ≡ list_any (λ x. x l.locals) (map (of_part l.deed) (drop l.one-index l.all))

abbrev pub invariant-any_with-loop-one : goal.invariant-any_with-loop-one
invariant-any_with-loop-one l = list_any (λ x. x l.locals) (map (of_with l.deed) l.all) ≡ list_any (λ x. x l.locals) (map (of_with l.deed) (drop l.one-index l.all))
