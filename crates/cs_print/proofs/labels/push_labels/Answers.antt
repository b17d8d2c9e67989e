use Rattle.cs_print.proofs.WrittenLaws.{labels_written}
use Rattle.cs_print.proofs.labels.push_labels.Goals as goal

pub returns : goal.returns
returns c = labels_written c.args.out.now c.loop-label.out c.args.labels.now c.loop-label.label-index c.loop-label-test.false c.loop-label.invariant
