-- The bodies of methods, getters and lambdas.
use Rattle.std.specs.Prelude.{ℕ, ◌+◌, List, [], ◌∷◌, if◌then◌else◌, Option, Some, None, bytes_eq}
use Rattle.std.specs.Option.{option_or}
use Rattle.text_core.specs.declared.place.Place.{Place}
use Rattle.cs_ast.specs.declared.code.Code.{Code}
use Rattle.cs_ast.specs.declared.cs_type.CsType.{CsType}
use Rattle.cs_ast.specs.declared.cs_type.TypeExpr.{TypeExpr}
use Rattle.cs_ast.specs.declared.expression.Body.{Body}
use Rattle.cs_ast.specs.declared.expression.Expr.{Expr}
use Rattle.cs_ast.specs.declared.identifier.Ident.{Ident}
use Rattle.cs_ast.specs.declared.member.Argument.{Argument}
use Rattle.cs_ast.specs.declared.member.Member.{Member}
use Rattle.cs_ast.specs.declared.member.MemberKind.{MemberKind}
use Rattle.cs_ast.specs.declared.member.MemberKind.TheVariants.{Method, Getter}
use Rattle.cs_ast.specs.declared.scope.Named.{Named}
use Rattle.cs_ast.specs.declared.scope.Scope.{Scope}
use Rattle.cs_forbidden.specs.Roots.{nothing}
use Rattle.cs_forbidden.specs.Trees.{value_in}
use Rattle.cs_rules.specs.Judged.{Judged, fine}
use Rattle.cs_rules.specs.Judged.{◌>>=◌ as ◌>>>=◌}
use Rattle.cs_rules.specs.Written.{type_of}
use Rattle.razor_rules.specs.Bodies.{judged_body, result_fits}
use Rattle.razor_rules.specs.Scopes.{Home, member_scope, with_arguments, with_result}
use Rattle.razor_rules.specs.Values.{lambda_scope}
use Rattle.page_meaning.specs.Bodies.{method_code}
use Rattle.page_meaning.specs.Captures.{with_captured}
use Rattle.frame_parts.specs.Steps.{Steps, alone, judged, put_body, ◌>>=◌}

-- a method: its result, its arguments and its body
pub record Declared : Type 0 where
  pub result : Option TypeExpr
  pub arguments : List Argument
  pub body : Body

abbrev pub method_by : List ℕ → MemberKind → Option Declared
method_by name (Method result other arguments of) = if bytes_eq other.name name then Some (record { result = result; arguments = arguments; body = of }) else None
method_by name _ = None

-- the first method of a name
abbrev pub method_named : List Member → List ℕ → Option Declared
method_named [] name = None
method_named (one ∷ others) name = option_or (method_by name one.kind) (method_named others name)

-- an expression as a body
abbrev pub judged_value : Scope → Expr → Judged Code
judged_value s a = value_in nothing s a >>>= (λ x. result_fits s.result x >>>= (λ fits. fine x.code))

abbrev pub method_body : Home → ℕ → Declared → Steps (Unit {0})
method_body home number it = do
  code ← judged (method_code home it.result it.arguments it.body)
  put_body number code

abbrev pub getter_code : Home → TypeExpr → Expr → Judged Code
getter_code home result value = judged_value (with_arguments [] (with_result (type_of result) (member_scope home))) value

abbrev pub getter_body : Home → ℕ → TypeExpr → Expr → Steps (Unit {0})
getter_body home number result value = do
  code ← judged (getter_code home result value)
  put_body number code

abbrev pub named_body : Home → ℕ → Option Declared → Steps (Unit {0})
named_body home number None = alone tt
named_body home number (Some it) = method_body home number it

abbrev pub member_body : Home → ℕ → MemberKind → Steps (Unit {0})
member_body home number (Method result name arguments of) = method_body home number (record { result = result; arguments = arguments; body = of })
member_body home number (Getter result name value) = getter_body home number result value
member_body home number _ = alone tt

abbrev pub member_bodies : Home → ℕ → List Member → Steps (Unit {0})
member_bodies home number [] = alone tt
member_bodies home number (one ∷ others) = do
  first ← member_body home number one.kind
  member_bodies home (number + 1) others

-- the code of a lambda at a place, over these locals from outside it
abbrev pub lambda_code : Home → List Named → Place → Option Ident → Body → Option CsType → Judged Code
lambda_code home captured place name of argument = lambda_scope (with_captured captured (member_scope home)) place name argument >>>= (λ inner. judged_body nothing inner of)

abbrev pub lambda_body : Home → List Named → ℕ → Place → Option Ident → Body → Option CsType → Steps (Unit {0})
lambda_body home captured number place name of argument = do
  code ← judged (lambda_code home captured place name of argument)
  put_body number code
