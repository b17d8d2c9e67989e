use Rattle.std.proofs.Common.{◌≡◌, ◌≤◌, [], drop, reverse, sum}
use Rattle.cs_parse.specs.DepthReading.{deep_from}
use Rattle.cs_parse.proofs.depth.first_above.Given as goal

-- what is counted so far, and what the tokens that are left come to
abbrev pub invariant-loop-t : goal.invariant-loop-t
invariant-loop-t l =
    record {
      small : l.total ≤ 200;
      counted : l.total ≡ sum (reverse l.counts.items);
      same : deep_from (reverse l.counts.items) (drop l.t-index l.tokens) ≡ deep_from [] l.tokens;
    }
