use Rattle.std.proofs.Common.{◌≡◌, map, take, None}
use Rattle.frame_walk.proofs.keeping.nothing_kept.Given as goal

abbrev pub invariant-loop-told : goal.invariant-loop-told
invariant-loop-told l = l.kept ≡ map (λ told. None) (take l._told-index l._told-items)
