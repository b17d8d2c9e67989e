use Rattle.std.proofs.Common.{◌≡◌}
use Rattle.cs_parse.specs.StatementReading.{statement_first}
use Rattle.cs_parse.proofs.StatementTurns.{stacked, distance}
use Rattle.cs_parse.proofs.statement.reading.statement_first.Given as goal

-- what follows and the frames round it come to the statement
abbrev pub invariant-loop-next : goal.invariant-loop-next
invariant-loop-next l =
    record {
      same : statement_first l.fn.jumps l.fn.tokens ≡ stacked l.stack.items l.next l.rest;
    }

abbrev pub decreases-loop-next : goal.decreases-loop-next
decreases-loop-next l = distance l.stack.items l.next l.rest
