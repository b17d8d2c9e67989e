-- Bodies where nothing is forbidden.
use Rattle.std.proofs.Common.{◌≡◌, List, map, ap}
use mathlib.Core.Path.{fun_ext}
use Rattle.cs_ast.specs.declared.code.Code.TheVariants as c
use Rattle.cs_ast.specs.declared.expression.Stmt.{Stmt}
use Rattle.cs_ast.specs.declared.scope.Scope.{Scope}
use Rattle.cs_rules.specs.Judged.{fine, ◌>>=◌}
use Rattle.cs_rules.specs.Statements.{Statement, in_order}
use Rattle.cs_rules.specs.Trees as rules
use Rattle.cs_forbidden.specs.Roots.{nothing}
use Rattle.cs_forbidden.specs.Trees as trees
use Rattle.cs_forbidden.proofs.Nothing.{same_statement}

pub same_body : (scope : Scope) (body : List Stmt) → trees.body_in nothing scope body ≡ rules.body_in scope body
same_body scope body = ap (λ (one : Stmt → Statement). in_order (map one body) scope >>= λ codes. fine (c.Block codes)) (fun_ext same_statement)
