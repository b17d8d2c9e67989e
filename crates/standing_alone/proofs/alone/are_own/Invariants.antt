use Rattle.std.proofs.Common.{◌≡◌, drop}
use Rattle.std.specs.List.{list_all}
use Rattle.standing_alone.specs.Alone.{is_own}
use Rattle.standing_alone.proofs.alone.are_own.Given as goal

-- those so far are all own
abbrev pub invariant-loop-one : goal.invariant-loop-one
invariant-loop-one l = list_all (λ one. is_own one.kind) (drop l.one-index l.members) ≡ list_all (λ one. is_own one.kind) l.members
