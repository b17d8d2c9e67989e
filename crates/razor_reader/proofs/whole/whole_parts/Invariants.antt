use Rattle.std.proofs.Common.{◌≡◌, ◌<◌, ◌≤◌, length}
use Rattle.razor_reader.specs.WholeReading as r
use Rattle.razor_reader.proofs.whole.whole_parts.Given as goal

abbrev pub invariant-loop-left : goal.invariant-loop-left
invariant-loop-left l = record {
  within : l.left ≤ length l.all;
  some : 0 < l.left → 0 < length l.rest;
  same : r.parts l.all ≡ r.parts_in l.all l.left l.parts l.rest;
}

abbrev pub decreases-loop-left : goal.decreases-loop-left
decreases-loop-left l = l.left
