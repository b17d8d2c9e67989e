use Rattle.std.proofs.Common.{◌≡◌, arith, map}
use Rattle.item_pairing.specs.Standing.{mark_of}
use Rattle.item_pairing.proofs.SlotLemmas.{same-at}
use Rattle.item_pairing.proofs.pairing.same_regions.Goals as goal

pub returns-then-not-same_region : goal.returns-then-not-same_region
returns-then-not-same_region c = (
  λ never. absurd (cc),
  λ same.
      let long = c.if-ones-others.false in
      let within = c.loop-k-test.true in
      let lengths = c.loop-k.invariant.0 in
      let equal = same-at mark_of c.args.ones.now c.args.others.now c.loop-k.k c.index-ones-k.result c.index-others-k.result within (omega arith) c.index-ones-k.is c.index-others-k.is same in
      let hit = c.same_region.ensures.1 equal in
      let miss = c.if-not-same_region.true in
      absurd (cc),
)
