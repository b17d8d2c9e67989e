-- The bodies of methods and lambdas.
use Rattle.std.specs.Prelude.{Bool, false, if◌then◌else◌}
use Rattle.cs_ast.specs.declared.code.Code.{Code}
use Rattle.cs_ast.specs.declared.cs_type.CsType.{CsType}
use Rattle.cs_ast.specs.declared.expression.Body.{Body, Body-F, out-Body}
use Rattle.cs_ast.specs.declared.expression.Expr.{Expr}
use Rattle.cs_ast.specs.declared.expression.ExprKind.{ExprKind}
use Rattle.cs_ast.specs.declared.expression.Section.{Section}
use Rattle.cs_ast.specs.declared.expression.Stmt.{Stmt}
use Rattle.cs_ast.specs.declared.expression.StmtKind.{StmtKind}
use Rattle.cs_ast.specs.declared.expression.TextPart.{TextPart}
use Rattle.cs_ast.specs.declared.expression.WithPart.{WithPart}
use Rattle.cs_ast.specs.declared.scope.Scope.{Scope}
use Rattle.cs_rules.specs.declared.checked.Checked.{Checked}
use Rattle.cs_rules.specs.Judged.{Judged, fine, ◌>>=◌}
use Rattle.cs_rules.specs.Types.{has_values, wants}
use Rattle.cs_accepted.specs.Bodies.{body_leaves}
use Rattle.cs_forbidden.specs.declared.forbidden.Forbidden.{Forbidden}
use Rattle.cs_forbidden.specs.Trees.{value_in, body_in}

-- one level of a body
abbrev pub Level : Type 0
Level = Body-F Body ExprKind StmtKind TextPart Expr Section Stmt WithPart

-- the value of a body is the result; where there is none it is dropped
abbrev pub result_fits : CsType → Checked → Judged (Unit {0})
result_fits result x = if has_values result then wants result x.place x.expr_type else fine tt

abbrev pub judged_level : Forbidden → Scope → Level → Judged Code
judged_level f s (Body-F.Value a) = do
  x ← value_in f s a
  fits ← result_fits s.result x
  fine x.code
judged_level f s (Body-F.Body::Block body) = body_in f s body

-- what a body comes to in a scope, where these things are forbidden in it
unfoldable pub judged_body : Forbidden → Scope → Body → Judged Code
judged_body f s body = judged_level f s (out-Body body)

abbrev pub level_ends : Level → Bool
level_ends (Body-F.Value a) = false
level_ends (Body-F.Body::Block body) = (body_leaves body).ends

-- whether the end of a body can be reached, where it returns nothing
unfoldable pub reaches_end : Body → Bool
reaches_end body = level_ends (out-Body body)
