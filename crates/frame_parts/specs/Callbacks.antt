-- The code of callbacks and handlers.
use Rattle.std.specs.Prelude.{ℕ, is_some, List, [], if◌then◌else◌, Option, Some, None}
use Rattle.cs_ast.specs.declared.code.Code.{Code}
use Rattle.cs_ast.specs.declared.cs_type.CsType.{CsType}
use Rattle.cs_ast.specs.declared.expression.Body.{Body}
use Rattle.cs_ast.specs.declared.expression.Expr.{Expr}
use Rattle.cs_ast.specs.declared.identifier.Ident.{Ident}
use Rattle.cs_ast.specs.declared.scope.Named.{Named}
use Rattle.cs_ast.specs.declared.scope.Scope.{Scope}
use Rattle.cs_rules.specs.Names.{meant}
use Rattle.razor_rules.specs.Scopes.{Home}
use Rattle.razor_rules.specs.TemplateDeeds.{expression_does}
use Rattle.razor_rules.specs.Values.{taken_by}
use Rattle.page_meaning.specs.Callbacks.{own_callback}
use Rattle.page_meaning.specs.Captures.{used}
use Rattle.page_meaning.specs.Resolved.{place_at}
use Rattle.frame_parts.specs.Methods.{method_named, named_body, lambda_body}
use Rattle.frame_parts.specs.Steps.{Steps, alone, judged, code_in, ◌>>=◌}

abbrev pub lambda_callback : Home → Scope → ℕ → Expr → Option Ident → Body → Option CsType → Steps Code
lambda_callback home s number a name of argument = do
  placed ← lambda_body home (used (λ deed. expression_does deed a) s) (place_at home number) a.place name of argument
  alone (own_callback home number (used (λ deed. expression_does deed a) s))

abbrev pub meant_callback : Option Named → Home → Scope → ℕ → Expr → Steps Code
meant_callback None home s number a = judged (code_in s a)
meant_callback (Some one) home s number a = if is_some (taken_by one.kind) then alone (own_callback home number []) else judged (code_in s a)

abbrev pub named_callback : Home → Scope → ℕ → Expr → List ℕ → Steps Code
named_callback home s number a name = do
  placed ← named_body home (place_at home number) (method_named home.members name)
  meant_callback (meant s.names name) home s number a
