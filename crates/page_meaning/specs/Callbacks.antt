-- The code of callbacks and handlers.
use Rattle.std.specs.Prelude.{ℕ, is_some, List, [], if◌then◌else◌, Option, Some, None}
use Rattle.cs_ast.specs.declared.code.Code.{Code}
use Rattle.cs_ast.specs.declared.code.Code.TheVariants as c
use Rattle.cs_ast.specs.declared.cs_type.CsType.{CsType}
use Rattle.cs_ast.specs.declared.expression.Body.{Body}
use Rattle.cs_ast.specs.declared.expression.Expr.{Expr}
use Rattle.cs_ast.specs.declared.expression.ExprKind.{ExprKind-F, out-ExprKind}
use Rattle.cs_ast.specs.declared.identifier.Ident.{Ident}
use Rattle.cs_ast.specs.declared.scope.Named.{Named}
use Rattle.cs_ast.specs.declared.scope.Scope.{Scope}
use Rattle.cs_rules.specs.Names.{meant}
use Rattle.razor_rules.specs.Scopes.{Home}
use Rattle.razor_rules.specs.TemplateDeeds.{expression_does}
use Rattle.razor_rules.specs.Values.{Level, taken_by}
use Rattle.page_meaning.specs.Bodies.{lambda_body, named_body}
use Rattle.page_meaning.specs.Captures.{used, positions_of}
use Rattle.page_meaning.specs.Resolved.{Resolves, alone, value_code, place_at, ◌>>=◌}

-- a callback of the present instance, over these locals
abbrev pub own_callback : Home → ℕ → List Named → Code
own_callback home number locals = c.Callback (place_at home number) (positions_of locals)

abbrev pub lambda_callback : Home → Scope → ℕ → Expr → Option Ident → Body → Option CsType → Resolves Code
lambda_callback home s number a name of argument = do
  placed ← lambda_body home s (place_at home number) a name of argument
  alone (own_callback home number (used (λ deed. expression_does deed a) s))

abbrev pub meant_callback : Option Named → Home → Scope → ℕ → Expr → Resolves Code
meant_callback None home s number a = value_code s a
meant_callback (Some one) home s number a = if is_some (taken_by one.kind) then alone (own_callback home number []) else value_code s a

abbrev pub named_callback : Home → Scope → ℕ → Expr → List ℕ → Resolves Code
named_callback home s number a name = do
  placed ← named_body home (place_at home number) name home.members
  meant_callback (meant s.names name) home s number a

abbrev pub callback_level : Level → Home → Scope → ℕ → Expr → Option CsType → Resolves Code
callback_level (ExprKind-F.Lambda name of) home s number a argument = lambda_callback home s number a name of argument
callback_level (ExprKind-F.Name name) home s number a argument = named_callback home s number a name
callback_level _ home s number a argument = value_code s a

-- The code of the value of an event, or of a parameter that is a callback, with such an argument, at a number of the content: a lambda or
-- the name of a method is a callback of its own, of the present instance, whose body is placed there; anything else is an expression.
unfoldable pub callback : Home → Scope → ℕ → Expr → Option CsType → Resolves Code
callback home s number a argument = callback_level (out-ExprKind a.kind) home s number a argument
