use Rattle.std.proofs.Common.{length}
use Rattle.first_click.specs.Statements.{StatementStands}
use Rattle.first_click.specs.Walks.{Walk}
use Rattle.first_click.proofs.statements.statements_of.Given as goal

-- the statements so far lead to here
abbrev pub invariant-loop-rest : goal.invariant-loop-rest
invariant-loop-rest l = Walk (StatementStands l.fields) l.tokens l.statements l.rest

abbrev pub decreases-loop-rest : goal.decreases-loop-rest
decreases-loop-rest l = length l.rest
