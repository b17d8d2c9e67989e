use Rattle.std.proofs.Common.{◌≡◌, ◌≤◌}
use Rattle.cs_parse.specs.StatementReading.{statements_in}
use Rattle.cs_parse.proofs.Turns.{with_front}
use Rattle.cs_parse.proofs.statement.reading.statements.Given as goal

-- what is found so far goes before what the tokens that are left give
abbrev pub invariant-loop-left : goal.invariant-loop-left
invariant-loop-left l =
    record {
      within : l.left ≤ l.fn.fuel;
      same : statements_in l.fn.fuel l.jumps l.fn.tokens ≡ with_front l.found (statements_in l.left l.jumps l.tokens);
    }

abbrev pub decreases-loop-left : goal.decreases-loop-left
decreases-loop-left l = l.left
