-- Which bodies are accepted.
use Rattle.std.specs.Prelude.{◌≡◌, ◌⊎◌, true, false, List, map}
use Rattle.cs_ast.specs.declared.cs_type.CsType.TheVariants as t
use Rattle.cs_ast.specs.declared.code.Code.{Code}
use Rattle.cs_ast.specs.declared.expression.Body.{Body}
use Rattle.cs_ast.specs.declared.expression.Body.TheVariants as b
use Rattle.cs_ast.specs.declared.expression.Expr.{Expr}
use Rattle.cs_ast.specs.declared.expression.Stmt.{Stmt}
use Rattle.cs_ast.specs.declared.scope.Scope.{Scope}
use Rattle.cs_rules.specs.declared.checked.Checked.{Checked}
use Rattle.cs_rules.specs.Judged.{fine}
use Rattle.cs_rules.specs.Types.{fits}
use Rattle.cs_rules.specs.Trees.{value_in, body_in}
use Rattle.cs_accepted.specs.Leaves.{Leaves, in_order, leaves}

-- what leaves the statements of a body
abbrev pub body_leaves : List Stmt → Leaves
body_leaves body = in_order (map leaves body)

-- A body comes to code in a scope, whose result is that of the body: an expression of the result's type, or whose value is dropped; or statements that no jump leaves, and whose end can't be reached where there is a result.
pub data Accepts (scope : Scope) : Body → Code → Type 0 where
  value : (a : Expr) (x : Checked) → value_in scope a ≡ fine x → fits x.expr_type scope.result ≡ true → Accepts scope (b.Value a) x.code
  dropped : (a : Expr) (x : Checked) → value_in scope a ≡ fine x → scope.result ≡ t.Nothing → Accepts scope (b.Value a) x.code
  block : (body : List Stmt) (code : Code) → body_in scope body ≡ fine code → (body_leaves body).breaks ≡ false → (body_leaves body).continues ≡ false →
      (scope.result ≡ t.Nothing) ⊎ ((body_leaves body).ends ≡ false) → Accepts scope (b.Block body) code
