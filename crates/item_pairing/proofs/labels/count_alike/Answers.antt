use Rattle.std.proofs.Common.{◌∙◌, sym}
use Rattle.pairing_meaning.specs.Labels.{label_of, same_label}
use Rattle.item_pairing.proofs.LabelLemmas.{decided}
use Rattle.item_pairing.proofs.CountLemmas.{counted_hit, counted_miss}
use Rattle.item_pairing.proofs.labels.count_alike.Goals as goal
use Rattle.item_pairing.proofs.labels.count_alike.Goals.{then-alike, else-alike}

pub loop-other-preserved : goal.loop-other-preserved
loop-other-preserved c =
    let test = decided c.alike.result (label_of c.other-item.result) (label_of c.args.item.now) c.alike.ensures in
    elim c.if-alike.branch [
      | then-alike w ↦ counted_hit same_label label_of (label_of c.args.item.now) c.args.items.now c.loop-other.other-index c.loop-other.count _ c.other-item.result c.loop-other-test.true c.other-item.is c.loop-other.invariant _ (sym test ∙ w.if-alike.true) w.count-is
      | else-alike w ↦ counted_miss same_label label_of (label_of c.args.item.now) c.args.items.now c.loop-other.other-index c.loop-other.count _ c.other-item.result c.loop-other-test.true c.other-item.is c.loop-other.invariant _ (sym test ∙ w.if-alike.false) w.count-is
    ]
