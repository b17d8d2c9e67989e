use Rattle.std.proofs.Common.{◌≡◌, ◌++◌, drop}
use Rattle.pairing_meaning.specs.Order.{merged, numbered}
use Rattle.sibling_edits.proofs.order.merge.Given as goal

abbrev pub invariant-loop-k : goal.invariant-loop-k
invariant-loop-k l = l.places ++ merged (drop l.k l.from) (numbered l.k (drop l.k l.from)) l.rest ≡ merged l.from (numbered 0 l.from) l.partners
