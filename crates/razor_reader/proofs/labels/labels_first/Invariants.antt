use Rattle.std.proofs.Common.{◌≡◌, ◌≤◌, length}
use Rattle.razor_reader.specs.HeadReading.{labels_in, labels_first}
use Rattle.razor_reader.proofs.ListLoops.{with_front}
use Rattle.razor_reader.proofs.labels.labels_first.Given as goal

abbrev pub invariant-loop-left : goal.invariant-loop-left
invariant-loop-left l = record {
  within : l.left ≤ length l.fn.pieces;
  same : labels_first l.fn.pieces ≡ with_front l.labels (labels_in l.left l.rest);
}

abbrev pub decreases-loop-left : goal.decreases-loop-left
decreases-loop-left l = l.left
