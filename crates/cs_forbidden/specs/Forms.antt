-- What forms of expressions and statements, and their parts, come to where some things are forbidden.
use Rattle.text_core.specs.declared.place.Place.{Place}
use Rattle.cs_ast.specs.declared.code.Code.{Code}
use Rattle.cs_ast.specs.declared.expression.Body.{Body}
use Rattle.cs_ast.specs.declared.expression.Body.TheOpen.{ExprKind-F, StmtKind-F}
use Rattle.cs_ast.specs.declared.expression.Body.TheFolds.{fold-ExprKind, fold-StmtKind, fold-TextPart, fold-Section, fold-WithPart, map-ExprKind, map-StmtKind}
use Rattle.cs_ast.specs.declared.expression.Body.TheViews.{out-ExprKind}
use Rattle.cs_ast.specs.declared.expression.Expr.{Expr}
use Rattle.cs_ast.specs.declared.expression.ExprKind.{ExprKind}
use Rattle.cs_ast.specs.declared.expression.Section.{Section}
use Rattle.cs_ast.specs.declared.expression.Stmt.{Stmt}
use Rattle.cs_ast.specs.declared.expression.StmtKind.{StmtKind}
use Rattle.cs_ast.specs.declared.expression.TextPart.{TextPart}
use Rattle.cs_ast.specs.declared.expression.WithPart.{WithPart}
use Rattle.cs_ast.specs.declared.scope.Scope.{Scope}
use Rattle.cs_rules.specs.declared.callee.Callee.{Callee}
use Rattle.cs_rules.specs.declared.checked.ExprType.{ExprType}
use Rattle.cs_rules.specs.Judged.{Judged}
use Rattle.cs_rules.specs.Expressions.{Value, Given}
use Rattle.cs_rules.specs.Statements as st
use Rattle.cs_rules.specs.Statements.{Statement}
use Rattle.cs_rules.specs.Trees.{Uses, Form, Form_of_statement, value_of_form, callee_of_form, statement_of_form, text_part}
use Rattle.cs_forbidden.specs.declared.forbidden.Forbidden.{Forbidden}
use Rattle.cs_forbidden.specs.Trees.{uses_of_form, uses, statement}

-- a form of expression over its parts
abbrev pub KindLayer : Type 0
KindLayer = ExprKind-F Body ExprKind StmtKind TextPart Expr Section Stmt WithPart

abbrev pub StatementLayer : Type 0
StatementLayer = StmtKind-F Body ExprKind StmtKind TextPart Expr Section Stmt WithPart

module _ (f : Forbidden) where
  -- a form of expression at a place
  unfoldable pub uses_of_kind : ExprKind → Place → Uses
  uses_of_kind =
      fold-ExprKind (Unit {0}) (Place → Uses) (Place → Statement) (Scope → Judged Code) Uses (ExprType → Scope → Judged Code) Statement Given
      (λ body. tt) (uses_of_form f) statement_of_form text_part (λ it. it.kind it.place) (λ it. st.section it.labels it.body)
      (λ it. it.kind it.place) (λ it. record { name = it.name; value = it.value.value })

  -- a form of statement at a place
  unfoldable pub statement_of_kind : StmtKind → Place → Statement
  statement_of_kind =
      fold-StmtKind (Unit {0}) (Place → Uses) (Place → Statement) (Scope → Judged Code) Uses (ExprType → Scope → Judged Code) Statement Given
      (λ body. tt) (uses_of_form f) statement_of_form text_part (λ it. it.kind it.place) (λ it. st.section it.labels it.body)
      (λ it. it.kind it.place) (λ it. record { name = it.name; value = it.value.value })

  -- a piece of an interpolated text
  unfoldable pub piece : TextPart → Scope → Judged Code
  piece =
      fold-TextPart (Unit {0}) (Place → Uses) (Place → Statement) (Scope → Judged Code) Uses (ExprType → Scope → Judged Code) Statement Given
      (λ body. tt) (uses_of_form f) statement_of_form text_part (λ it. it.kind it.place) (λ it. st.section it.labels it.body)
      (λ it. it.kind it.place) (λ it. record { name = it.name; value = it.value.value })

  -- a section of a `switch`, by the type of what decides
  unfoldable pub section : Section → ExprType → Scope → Judged Code
  section =
      fold-Section (Unit {0}) (Place → Uses) (Place → Statement) (Scope → Judged Code) Uses (ExprType → Scope → Judged Code) Statement Given
      (λ body. tt) (uses_of_form f) statement_of_form text_part (λ it. it.kind it.place) (λ it. st.section it.labels it.body)
      (λ it. it.kind it.place) (λ it. record { name = it.name; value = it.value.value })

  -- a part behind `with`
  unfoldable pub given : WithPart → Given
  given =
      fold-WithPart (Unit {0}) (Place → Uses) (Place → Statement) (Scope → Judged Code) Uses (ExprType → Scope → Judged Code) Statement Given
      (λ body. tt) (uses_of_form f) statement_of_form text_part (λ it. it.kind it.place) (λ it. st.section it.labels it.body)
      (λ it. it.kind it.place) (λ it. record { name = it.name; value = it.value.value })

  -- a form with what its parts come to in their places
  abbrev pub in_kind : KindLayer → Form
  in_kind = map-ExprKind Body ExprKind StmtKind TextPart Expr Section Stmt WithPart (Unit {0}) (Place → Uses) (Place → Statement) (Scope → Judged Code) Uses (ExprType → Scope → Judged Code) Statement Given
      (λ body. tt) uses_of_kind statement_of_kind piece (uses f) section (statement f) given

  abbrev pub in_statement : StatementLayer → Form_of_statement
  in_statement = map-StmtKind Body ExprKind StmtKind TextPart Expr Section Stmt WithPart (Unit {0}) (Place → Uses) (Place → Statement) (Scope → Judged Code) Uses (ExprType → Scope → Judged Code) Statement Given
      (λ body. tt) uses_of_kind statement_of_kind piece (uses f) section (statement f) given

  -- a form as a value, before it is asked what its own code does
  unfoldable pub value_of_kind : ExprKind → Place → Value
  value_of_kind kind = value_of_form (in_kind (out-ExprKind kind))

  -- a form as what is called, before the same
  unfoldable pub callee_of_kind : ExprKind → Place → Scope → Judged Callee
  callee_of_kind kind = callee_of_form (in_kind (out-ExprKind kind))
