use Rattle.std.proofs.Common.{◌≡◌, take, map}
use Rattle.frame_parts.proofs.captures.positions_of.Given as goal

abbrev pub invariant-loop-one : goal.invariant-loop-one
invariant-loop-one l = l.positions ≡ map (λ one. one.place) (take l.one-index l.locals)
