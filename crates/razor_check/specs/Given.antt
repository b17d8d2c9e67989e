-- What a component is given for a parameter by the type that this is written with: no part of what the checker promises.
use Rattle.std.specs.Prelude.{List, if◌then◌else◌, is_none, Option, Some, None}
use Rattle.text_core.specs.declared.place.Place.{Place}
use Rattle.cs_ast.specs.declared.cs_type.TypeExpr.{TypeExpr}
use Rattle.cs_ast.specs.declared.expression.Expr.{Expr}
use Rattle.cs_ast.specs.declared.member.Member.{Member}
use Rattle.cs_rules.specs.declared.rule.Rule.TheVariants.{UnknownParameter}
use Rattle.cs_rules.specs.Judged.{Judged, fine, breaks, ◌>>=◌}
use Rattle.cs_rules.specs.Written.{type_of}
use Rattle.razor_ast.specs.declared.attribute.Given.{Given}
use Rattle.razor_rules.specs.declared.ground.Ground.{Ground}
use Rattle.razor_rules.specs.WrittenTypes.{unknown_parameter}
use Rattle.razor_rules.specs.Parameters.{expression_of, given_rules}

abbrev pub written_rules : List Member → Ground → Option TypeExpr → Place → Given → Judged (Unit {0})
written_rules records g None at given = breaks UnknownParameter at
written_rules records g (Some written) at given = if is_none (unknown_parameter records written) then given_rules g (type_of written) at given else fine tt

-- the expression that an attribute says is judged so
abbrev pub judged_expression : (Expr → Judged (Unit {0})) → Place → Given → Judged (Unit {0})
judged_expression judge at given = expression_of at given >>= judge
