use Rattle.std.proofs.Common.{◌≡◌, ◌≤◌, [], drop, reverse, sum}
use Rattle.first_click.specs.Nesting.{is_shallow_in}
use Rattle.first_click.proofs.nesting.is_shallow.Given as goal

-- the sum of the counts, which is small, and what the tokens that are left say
abbrev pub invariant-loop-token : goal.invariant-loop-token
invariant-loop-token l =
    record {
      small : l.total ≤ 100;
      counted : l.total ≡ sum (reverse l.counts.items);
      same : is_shallow_in (reverse l.counts.items) (drop l.token-index l.tokens) ≡ is_shallow_in [] l.tokens;
    }
