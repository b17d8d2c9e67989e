-- The equations of bodies.
use Rattle.std.proofs.Common.{◌≡◌, List, sym, ap, ◌∙◌}
use Rattle.cs_ast.specs.declared.expression.Body.TheVariants as bo
use Rattle.cs_ast.specs.declared.expression.Body.TheOpen.{Body-F}
use Rattle.cs_ast.specs.declared.expression.Body.TheViews.{out-Body, out-roll-Body}
use Rattle.cs_ast.specs.declared.expression.Expr.{Expr}
use Rattle.cs_ast.specs.declared.expression.Stmt.{Stmt}
use Rattle.cs_ast.specs.declared.scope.Scope.{Scope}
use Rattle.cs_forbidden.specs.declared.forbidden.Forbidden.{Forbidden}
use Rattle.cs_forbidden.specs.Trees.{body_in}
use Rattle.razor_rules.specs.Bodies.{judged_level, judged_body}
use Rattle.razor_check.specs.Results.{judged_value}

pub value_judged : (f : Forbidden) (s : Scope) (a : Expr) → judged_body f s (bo.Value a) ≡ judged_value f s a
unfolding judged_body
value_judged f s a = ap (judged_level f s) (ap out-Body (sym (bo.rolls-Value a)) ∙ out-roll-Body (Body-F.Value a))

pub block_judged : (f : Forbidden) (s : Scope) (body : List Stmt) → judged_body f s (bo.Block body) ≡ body_in f s body
unfolding judged_body
block_judged f s body = ap (judged_level f s) (ap out-Body (sym (bo.rolls-Block body)) ∙ out-roll-Body (Body-F.Body::Block body))
