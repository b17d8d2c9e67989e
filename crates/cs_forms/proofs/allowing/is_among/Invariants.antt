use Rattle.std.proofs.Common.{◌≡◌, drop}
use Rattle.std.specs.Prelude.{◌==◌}
use Rattle.std.specs.List.{list_any}
use Rattle.cs_forms.proofs.allowing.is_among.Given as goal

-- none so far is the number
abbrev pub invariant-loop-one : goal.invariant-loop-one
invariant-loop-one l = list_any (λ one. one == l.number) l.bodies ≡ list_any (λ one. one == l.number) (drop l.one-index l.bodies)
