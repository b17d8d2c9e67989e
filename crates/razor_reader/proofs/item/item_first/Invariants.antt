use Rattle.std.proofs.Common.{◌≡◌, ◌≤◌, reverse}
use Rattle.razor_reader.specs.ItemReading.{turns, turns_for, item_first}
use Rattle.razor_reader.proofs.item.item_first.Given as goal

abbrev pub invariant-loop-left : goal.invariant-loop-left
invariant-loop-left l = record {
  within : l.left ≤ turns_for l.fn.pieces;
  same : item_first l.all l.fn.number l.fn.pieces ≡ turns l.all l.left (reverse l.stack.items) l.next l.number l.rest;
}

abbrev pub decreases-loop-left : goal.decreases-loop-left
decreases-loop-left l = l.left
