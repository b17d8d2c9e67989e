-- What expressions come to where they have a use: as bodies, as initial values, and as what is given.
use Rattle.cs_ast.specs.declared.code.Code.{Code}
use Rattle.cs_ast.specs.declared.cs_type.CsType.{CsType}
use Rattle.cs_ast.specs.declared.expression.Expr.{Expr}
use Rattle.cs_ast.specs.declared.scope.Scope.{Scope}
use Rattle.cs_rules.specs.Judged.{Judged, fine, ◌>>=◌}
use Rattle.cs_rules.specs.Types.{fitting, wants}
use Rattle.cs_forbidden.specs.declared.forbidden.Forbidden.{Forbidden}
use Rattle.cs_forbidden.specs.Roots.{nothing}
use Rattle.cs_forbidden.specs.Trees.{value_in}
use Rattle.razor_rules.specs.declared.ground.Ground.{Ground}
use Rattle.razor_rules.specs.Bodies.{result_fits}
use Rattle.razor_rules.specs.Values.{value}

-- an expression as a body
abbrev pub judged_value : Forbidden → Scope → Expr → Judged Code
judged_value f s a = do
  x ← value_in f s a
  fits ← result_fits s.result x
  fine x.code

-- an expression as the initial value of a field or a parameter of a type
abbrev pub initial_value : Scope → CsType → Expr → Judged Code
initial_value s cs_type a = value_in nothing s a >>= λ x. fitting cs_type x

-- an expression as what a parameter of a type is given
abbrev pub fitting_value : Ground → CsType → Expr → Judged (Unit {0})
fitting_value g cs_type a = value g a >>= λ x. wants cs_type x.place x.expr_type
