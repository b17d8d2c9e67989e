use Rattle.std.proofs.Common.{◌≡◌, ◌≤◌, length}
use Rattle.razor_reader.specs.AttributeReading.{parts_in, parts_first}
use Rattle.razor_reader.proofs.ListLoops.{with_front}
use Rattle.razor_reader.proofs.attribute.values.parts_first.Given as goal

abbrev pub invariant-loop-left : goal.invariant-loop-left
invariant-loop-left l = record {
  within : l.left ≤ length l.fn.pieces;
  same : parts_first l.fn.pieces ≡ with_front l.parts (parts_in l.left l.rest);
}

abbrev pub decreases-loop-left : goal.decreases-loop-left
decreases-loop-left l = l.left
