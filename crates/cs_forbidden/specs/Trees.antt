-- What code comes to where some things are forbidden besides.
use Rattle.std.specs.Prelude.{List, map, Option, Some, None}
use Rattle.text_core.specs.declared.place.Place.{Place}
use Rattle.cs_ast.specs.declared.code.Code.{Code}
use Rattle.cs_ast.specs.declared.code.Code.TheVariants as c
use Rattle.cs_ast.specs.declared.expression.Expr.{Expr}
use Rattle.cs_ast.specs.declared.expression.Stmt.{Stmt}
use Rattle.cs_ast.specs.declared.expression.Body.TheFolds.{fold-Expr, fold-Stmt}
use Rattle.cs_ast.specs.declared.scope.Scope.{Scope}
use Rattle.cs_rules.specs.declared.checked.Checked.{Checked}
use Rattle.cs_rules.specs.declared.checked.ExprType.{ExprType}
use Rattle.cs_rules.specs.declared.rule.Rule.{Rule}
use Rattle.cs_rules.specs.Judged.{Judged, fine, breaks, ◌>>=◌}
use Rattle.cs_rules.specs.Expressions.{Given}
use Rattle.cs_rules.specs.Statements as st
use Rattle.cs_rules.specs.Statements.{Statement}
use Rattle.cs_rules.specs.Trees as trees
use Rattle.cs_rules.specs.Trees.{Uses, Form}
use Rattle.cs_forbidden.specs.declared.forbidden.Forbidden.{Forbidden}
use Rattle.cs_forbidden.specs.Roots.{against, against_called}

-- what breaks no rule but perhaps this one
abbrev pub allowed : {A : Type 0} → Option Rule → Place → A → Judged A
allowed None place x = fine x
allowed (Some rule) place x = breaks rule place

module _ (f : Forbidden) where
  unfoldable pub uses_of_form : Form → Place → Uses
  uses_of_form form place = record {
    value = λ s. trees.value_of_form form place s >>= λ x. allowed (against f x.code) place x;
    callee = λ s. trees.callee_of_form form place s >>= λ it. allowed (against_called f it.called) place it;
  }

  unfoldable pub uses : Expr → Uses
  uses =
      fold-Expr (Unit {0}) (Place → Uses) (Place → Statement) (Scope → Judged Code) Uses (ExprType → Scope → Judged Code) Statement Given
      (λ body. tt) uses_of_form trees.statement_of_form trees.text_part (λ it. it.kind it.place) (λ it. st.section it.labels it.body)
      (λ it. it.kind it.place) (λ it. record { name = it.name; value = it.value.value })

  -- a statement, where these things are forbidden in it
  unfoldable pub statement : Stmt → Statement
  statement =
      fold-Stmt (Unit {0}) (Place → Uses) (Place → Statement) (Scope → Judged Code) Uses (ExprType → Scope → Judged Code) Statement Given
      (λ body. tt) uses_of_form trees.statement_of_form trees.text_part (λ it. it.kind it.place) (λ it. st.section it.labels it.body)
      (λ it. it.kind it.place) (λ it. record { name = it.name; value = it.value.value })

  -- an expression as a value in a scope, where these things are forbidden in it
  abbrev pub value_in : Scope → Expr → Judged Checked
  value_in scope a = (uses a).value scope

  -- the statements of a body
  abbrev pub body_in : Scope → List Stmt → Judged Code
  body_in scope body = st.in_order (map statement body) scope >>= λ codes. fine (c.Block codes)
