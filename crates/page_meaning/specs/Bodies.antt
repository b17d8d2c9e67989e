-- The bodies of methods and lambdas.
use Rattle.std.specs.Prelude.{ℕ, ◌+◌, List, [], ◌∷◌, ◌++◌, map, if◌then◌else◌, Option, Some, None, bytes_eq}
use Rattle.cs_ast.specs.declared.code.Code.{Code}
use Rattle.cs_ast.specs.declared.cs_type.CsType.{CsType}
use Rattle.cs_ast.specs.declared.cs_type.CsType.TheVariants as t
use Rattle.cs_ast.specs.declared.cs_type.TypeExpr.{TypeExpr}
use Rattle.cs_ast.specs.declared.expression.Body.{Body}
use Rattle.cs_ast.specs.declared.expression.Body.TheVariants as body_form
use Rattle.cs_ast.specs.declared.expression.Expr.{Expr}
use Rattle.cs_ast.specs.declared.identifier.Ident.{Ident}
use Rattle.cs_ast.specs.declared.member.Argument.{Argument}
use Rattle.cs_ast.specs.declared.member.Member.{Member}
use Rattle.cs_ast.specs.declared.member.MemberKind.{MemberKind}
use Rattle.cs_ast.specs.declared.member.MemberKind.TheVariants.{Method, Getter}
use Rattle.cs_ast.specs.declared.scope.Scope.{Scope}
use Rattle.cs_forbidden.specs.Roots.{nothing}
use Rattle.cs_rules.specs.Judged.{Judged}
use Rattle.cs_rules.specs.Judged.{◌>>=◌ as ◌>>>=◌}
use Rattle.cs_rules.specs.Written.{type_of}
use Rattle.cs_typing.specs.Types.{Signature}
use Rattle.cs_typing.specs.Expressions.{arguments_or_one}
use Rattle.razor_rules.specs.Bodies.{judged_body}
use Rattle.razor_rules.specs.Members.{result_type}
use Rattle.razor_rules.specs.Scopes.{Home, member_scope, with_arguments, with_result}
use Rattle.razor_rules.specs.TemplateDeeds.{expression_does}
use Rattle.razor_rules.specs.Values.{lambda_scope}
use Rattle.page_meaning.specs.Captures.{used, with_captured}
use Rattle.page_meaning.specs.Placed.{signature, types_of, body}
use Rattle.page_meaning.specs.Resolved.{Resolves, alone, judged, put, ◌>>=◌}

-- the code of a method
abbrev pub method_code : Home → Option TypeExpr → List Argument → Body → Judged Code
method_code home result arguments of = judged_body nothing (with_arguments arguments (with_result (result_type result) (member_scope home))) of

-- the types that a method takes and gives
abbrev pub method_signature : Home → Option TypeExpr → List Argument → Signature
method_signature home result arguments = signature home (arguments_or_one (map (λ one. type_of one.cs_type) arguments)) (result_type result)

-- the body of a method under a number
unfoldable pub method_body : Home → ℕ → Option TypeExpr → List Argument → Body → Resolves (Unit {0})
method_body home number result arguments of = do
  code ← judged (method_code home result arguments of)
  put number (body (method_signature home result arguments) code)

-- the body of a member, if it has one, under a number
unfoldable pub member_body : Home → ℕ → MemberKind → Resolves (Unit {0})
member_body home number (Method result name arguments of) = method_body home number result arguments of
member_body home number (Getter result name value) = method_body home number (Some result) [] (body_form.Value value)
member_body home number _ = alone tt

-- the bodies of members, one number after another
abbrev pub member_bodies : Home → ℕ → List Member → Resolves (Unit {0})
member_bodies home number [] = alone tt
member_bodies home number (one ∷ others) = do
  first ← member_body home number one.kind
  member_bodies home (number + 1) others

abbrev pub method_or : Home → ℕ → List ℕ → MemberKind → Resolves (Unit {0}) → Resolves (Unit {0})
method_or home number name (Method result other arguments of) further = if bytes_eq other.name name then method_body home number result arguments of else further
method_or home number name _ further = further

-- the body of the method of a name, under another number
abbrev pub named_body : Home → ℕ → List ℕ → List Member → Resolves (Unit {0})
named_body home number name [] = alone tt
named_body home number name (one ∷ others) = method_or home number name one.kind (named_body home number name others)

-- the type of the last local of a lambda: that of its argument, or of one that no name stands for
abbrev pub last_type : Option Ident → Option CsType → CsType
last_type (Some name) (Some argument) = argument
last_type _ _ = t.Nothing

abbrev pub lambda_signature : Home → Scope → Expr → Option Ident → Option CsType → Signature
lambda_signature home s a name argument = signature home (types_of (used (λ deed. expression_does deed a) s) ++ last_type name argument ∷ []) t.Nothing

-- the scope in a lambda that stands in a scope: the members, the locals that it uses, and its argument
abbrev pub scope_in_lambda : Home → Scope → Expr → Option Ident → Option CsType → Judged Scope
scope_in_lambda home s a name argument = lambda_scope (with_captured (used (λ deed. expression_does deed a) s) (member_scope home)) a.place name argument

abbrev pub lambda_code : Home → Scope → Expr → Option Ident → Body → Option CsType → Judged Code
lambda_code home s a name of argument = scope_in_lambda home s a name argument >>>= λ inner. judged_body nothing inner of

-- the body of a lambda, which may take such an argument, under a number
unfoldable pub lambda_body : Home → Scope → ℕ → Expr → Option Ident → Body → Option CsType → Resolves (Unit {0})
lambda_body home s number a name of argument = do
  code ← judged (lambda_code home s a name of argument)
  put number (body (lambda_signature home s a name argument) code)
