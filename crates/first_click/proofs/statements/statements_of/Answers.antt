use Rattle.std.proofs.Common.{sym, ◌∙◌}
use Rattle.first_click.specs.Statements.{StatementStands}
use Rattle.first_click.specs.Walks.{stay}
use Rattle.first_click.proofs.ListLemmas.{not_empty}
use Rattle.first_click.proofs.Reading.StatementLemmas.{statement_at-some, statement-shorter, not_statements}
use Rattle.first_click.proofs.Reading.WalkLemmas.{walk-more}
use Rattle.first_click.proofs.statements.statements_of.Goals as goal

pub loop-rest-init : goal.loop-rest-init
loop-rest-init c = rw c.new-statements.ensures (stay _)

pub loop-rest-smaller : goal.loop-rest-smaller
loop-rest-smaller c =
    statement-shorter c.args.fields.now c.loop-rest.rest.now c.in-Ok.statement c.in-Ok.next.now (statement_at-some c.args.fields.now c.loop-rest.rest.now c.in-Ok.statement c.in-Ok.next.now c.in-Ok.ensures)

pub loop-rest-preserved : goal.loop-rest-preserved
loop-rest-preserved c =
    rw c.in_ok-push-in-Ok.ensures.ok
    (walk-more (StatementStands c.args.fields.now) _ _ _ _ c.in-Ok.statement c.loop-rest.invariant (statement_at-some c.args.fields.now c.loop-rest.rest.now c.in-Ok.statement c.in-Ok.next.now c.in-Ok.ensures))

pub returns-in-Err-Nothing : goal.returns-in-Err-Nothing
returns-in-Err-Nothing c =
    not_statements c.args.fields.now c.args.tokens.now c.loop-rest.rest.now _ c.loop-rest.invariant (rw c.in-Err-Nothing.field-0-is at c.in-Err-Nothing.ensures) (not_empty c.loop-rest.rest.now (sym c.is_empty.ensures ∙ c.loop-rest-test.true))
