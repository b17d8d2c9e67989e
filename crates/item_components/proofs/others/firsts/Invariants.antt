use Rattle.std.proofs.Common.{◌≡◌, map, take}
use Rattle.item_components.proofs.others.firsts.Given as goal

abbrev pub invariant-loop-first : goal.invariant-loop-first
invariant-loop-first l = l.them ≡ map (λ pair. pair.0) (take l.first-index l.pairs)
