use Rattle.std.proofs.Common.{◌≡◌, map, take}
use Rattle.item_components.proofs.others.seconds.Given as goal

abbrev pub invariant-loop-second : goal.invariant-loop-second
invariant-loop-second l = l.them ≡ map (λ pair. pair.1) (take l.second-index l.pairs)
