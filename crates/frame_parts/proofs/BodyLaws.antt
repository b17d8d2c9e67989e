-- The equations of bodies.
use Rattle.std.proofs.Common.{◌≡◌, List, sym, ap, ◌∙◌}
use Rattle.cs_ast.specs.declared.expression.Body.TheVariants as bo
use Rattle.cs_ast.specs.declared.expression.Body.TheOpen.{Body-F}
use Rattle.cs_ast.specs.declared.expression.Body.TheViews.{out-Body, out-roll-Body}
use Rattle.cs_ast.specs.declared.expression.Expr.{Expr}
use Rattle.cs_ast.specs.declared.expression.Stmt.{Stmt}
use Rattle.cs_ast.specs.declared.scope.Scope.{Scope}
use Rattle.cs_forbidden.specs.Roots.{nothing}
use Rattle.cs_forbidden.specs.Trees.{body_in}
use Rattle.razor_rules.specs.Bodies.{judged_level, judged_body}
use Rattle.frame_parts.specs.Methods.{judged_value}

pub value_judged : (s : Scope) (a : Expr) → judged_body nothing s (bo.Value a) ≡ judged_value s a
unfolding judged_body
value_judged s a = ap (judged_level nothing s) (ap out-Body (sym (bo.rolls-Value a)) ∙ out-roll-Body (Body-F.Value a))

pub block_judged : (s : Scope) (body : List Stmt) → judged_body nothing s (bo.Block body) ≡ body_in nothing s body
unfolding judged_body
block_judged s body = ap (judged_level nothing s) (ap out-Body (sym (bo.rolls-Block body)) ∙ out-roll-Body (Body-F.Body::Block body))
