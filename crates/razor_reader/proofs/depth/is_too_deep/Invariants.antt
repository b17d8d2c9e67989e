use Rattle.std.proofs.Common.{◌≡◌, ◌≤◌, take, sum}
use Rattle.razor_reader.proofs.depth.is_too_deep.Given as goal

abbrev pub invariant-loop-n : goal.invariant-loop-n
invariant-loop-n l = record {
  same : l.total ≡ sum (take l.n-index l.counts);
  small : l.total ≤ 200;
}
