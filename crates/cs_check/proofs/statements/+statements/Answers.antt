use Rattle.std.proofs.Common.{rules, ap, ◌∙◌}
use Rattle.cs_ast.specs.declared.expression.StmtKind.{StmtKind}
use Rattle.cs_rules.specs.Statements.{Statement}
use Rattle.cs_forbidden.specs.Forms.{statement_of_kind}
use Rattle.cs_forbidden.proofs.FormLaws.{statement_law}
use Rattle.cs_forbidden.proofs.StatementLaws.{local_statement, empty_statement, block_statement, if_statement, while_statement, for_statement, for_each_statement, switch_statement, break_statement, continue_statement, return_statement, expr_statement, await_statement}
use Rattle.cs_forms.specs.Views.{scope_of, forbidden_of}
use Rattle.cs_check.proofs.statements.+statements.Goals as goal

pub statement-returns-clause-does : goal.statement-returns-clause-does
statement-returns-clause-does t c =
    let form = ap (λ (it : Statement). it (scope_of c.args.names.now)) (statement_law (forbidden_of c.args.names.now) c.args.one.now) in
    rw form (search rules)

-- each form
pub form-returns-in-Local-clause-does : goal.form-returns-in-Local-clause-does
form-returns-in-Local-clause-does t c =
    let form = ap (λ (kind : StmtKind). statement_of_kind (forbidden_of c.args.names.now) kind c.args.place (scope_of c.args.names.now)) c.in-Local.is ∙ local_statement (forbidden_of c.args.names.now) c.in-Local.cs_type c.in-Local.name c.in-Local.value c.args.place (scope_of c.args.names.now) in
    rw form (search rules)

pub form-returns-in-Empty-clause-does : goal.form-returns-in-Empty-clause-does
form-returns-in-Empty-clause-does t c =
    let form = ap (λ (kind : StmtKind). statement_of_kind (forbidden_of c.args.names.now) kind c.args.place (scope_of c.args.names.now)) c.in-Empty.is ∙ empty_statement (forbidden_of c.args.names.now) c.args.place (scope_of c.args.names.now) in
    rw form (search rules)

pub form-returns-in-Block-clause-does : goal.form-returns-in-Block-clause-does
form-returns-in-Block-clause-does t c =
    let form = ap (λ (kind : StmtKind). statement_of_kind (forbidden_of c.args.names.now) kind c.args.place (scope_of c.args.names.now)) c.in-Block.is ∙ block_statement (forbidden_of c.args.names.now) c.in-Block.body c.args.place (scope_of c.args.names.now) in
    rw form (search rules)

pub form-returns-in-If-clause-does : goal.form-returns-in-If-clause-does
form-returns-in-If-clause-does t c =
    let form = ap (λ (kind : StmtKind). statement_of_kind (forbidden_of c.args.names.now) kind c.args.place (scope_of c.args.names.now)) c.in-If.is ∙ if_statement (forbidden_of c.args.names.now) c.in-If.condition c.in-If.yes c.in-If.no c.args.place (scope_of c.args.names.now) in
    rw form (search rules)

pub form-returns-in-While-clause-does : goal.form-returns-in-While-clause-does
form-returns-in-While-clause-does t c =
    let form = ap (λ (kind : StmtKind). statement_of_kind (forbidden_of c.args.names.now) kind c.args.place (scope_of c.args.names.now)) c.in-While.is ∙ while_statement (forbidden_of c.args.names.now) c.in-While.condition c.in-While.body c.args.place (scope_of c.args.names.now) in
    rw form (search rules)

pub form-returns-in-For-clause-does : goal.form-returns-in-For-clause-does
form-returns-in-For-clause-does t c =
    let form = ap (λ (kind : StmtKind). statement_of_kind (forbidden_of c.args.names.now) kind c.args.place (scope_of c.args.names.now)) c.in-For.is ∙ for_statement (forbidden_of c.args.names.now) c.in-For.start c.in-For.condition c.in-For.step c.in-For.body c.args.place (scope_of c.args.names.now) in
    rw form (search rules)

pub form-returns-in-ForEach-clause-does : goal.form-returns-in-ForEach-clause-does
form-returns-in-ForEach-clause-does t c =
    let form = ap (λ (kind : StmtKind). statement_of_kind (forbidden_of c.args.names.now) kind c.args.place (scope_of c.args.names.now)) c.in-ForEach.is ∙ for_each_statement (forbidden_of c.args.names.now) c.in-ForEach.name c.in-ForEach.list c.in-ForEach.body c.args.place (scope_of c.args.names.now) in
    rw form (search rules)

pub form-returns-in-Switch-clause-does : goal.form-returns-in-Switch-clause-does
form-returns-in-Switch-clause-does t c =
    let form = ap (λ (kind : StmtKind). statement_of_kind (forbidden_of c.args.names.now) kind c.args.place (scope_of c.args.names.now)) c.in-Switch.is ∙ switch_statement (forbidden_of c.args.names.now) c.in-Switch.value c.in-Switch.sections c.args.place (scope_of c.args.names.now) in
    rw form (search rules)

pub form-returns-in-Break-clause-does : goal.form-returns-in-Break-clause-does
form-returns-in-Break-clause-does t c =
    let form = ap (λ (kind : StmtKind). statement_of_kind (forbidden_of c.args.names.now) kind c.args.place (scope_of c.args.names.now)) c.in-Break.is ∙ break_statement (forbidden_of c.args.names.now) c.args.place (scope_of c.args.names.now) in
    rw form (search rules)

pub form-returns-in-Continue-clause-does : goal.form-returns-in-Continue-clause-does
form-returns-in-Continue-clause-does t c =
    let form = ap (λ (kind : StmtKind). statement_of_kind (forbidden_of c.args.names.now) kind c.args.place (scope_of c.args.names.now)) c.in-Continue.is ∙ continue_statement (forbidden_of c.args.names.now) c.args.place (scope_of c.args.names.now) in
    rw form (search rules)

pub form-returns-in-Return-clause-does : goal.form-returns-in-Return-clause-does
form-returns-in-Return-clause-does t c =
    let form = ap (λ (kind : StmtKind). statement_of_kind (forbidden_of c.args.names.now) kind c.args.place (scope_of c.args.names.now)) c.in-Return.is ∙ return_statement (forbidden_of c.args.names.now) c.in-Return.a c.args.place (scope_of c.args.names.now) in
    rw form (search rules)

pub form-returns-in-Expr-clause-does : goal.form-returns-in-Expr-clause-does
form-returns-in-Expr-clause-does t c =
    let form = ap (λ (kind : StmtKind). statement_of_kind (forbidden_of c.args.names.now) kind c.args.place (scope_of c.args.names.now)) c.in-Expr.is ∙ expr_statement (forbidden_of c.args.names.now) c.in-Expr.a c.args.place (scope_of c.args.names.now) in
    rw form (search rules)

pub form-returns-in-Await-clause-does : goal.form-returns-in-Await-clause-does
form-returns-in-Await-clause-does t c =
    let form = ap (λ (kind : StmtKind). statement_of_kind (forbidden_of c.args.names.now) kind c.args.place (scope_of c.args.names.now)) c.in-Await.is ∙ await_statement (forbidden_of c.args.names.now) c.in-Await.a c.args.place (scope_of c.args.names.now) in
    rw form (search rules)
