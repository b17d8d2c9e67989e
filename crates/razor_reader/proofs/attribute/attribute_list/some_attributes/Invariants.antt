use Rattle.std.proofs.Common.{◌≡◌, ◌+◌, ◌≤◌, length}
use Rattle.razor_reader.specs.AttributeReading.{attributes_in, some_attributes}
use Rattle.razor_reader.proofs.ListLoops.{with_numbered}
use Rattle.razor_reader.proofs.attribute.attribute_list.some_attributes.Given as goal

abbrev pub invariant-loop-left : goal.invariant-loop-left
invariant-loop-left l = record {
  within : l.left ≤ length l.fn.pieces + 1;
  same : some_attributes l.all l.component l.number l.fn.pieces ≡ with_numbered l.found (attributes_in l.all l.component l.left l.next l.rest);
}

abbrev pub decreases-loop-left : goal.decreases-loop-left
decreases-loop-left l = l.left
