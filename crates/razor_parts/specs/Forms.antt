-- What an expression is seen as where a callback is wanted.
use Rattle.std.specs.Prelude.{◌≡◌, Option, Some, None}
use Rattle.cs_ast.specs.declared.expression.Body.{Body}
use Rattle.cs_ast.specs.declared.expression.Body.TheOpen.{ExprKind-F}
use Rattle.cs_ast.specs.declared.identifier.Ident.{Ident}
use Rattle.razor_rules.specs.Values.{Level, name_in}
use Rattle.razor_parts.specs.declared.forms.Form.{Form}
use Rattle.razor_parts.specs.declared.forms.Form.TheVariants as form

-- the argument and the body of a lambda, if it is one
abbrev pub lambda_in : Level → Option (Option Ident × Body)
lambda_in (ExprKind-F.Lambda argument body) = Some (argument, body)
lambda_in _ = None

abbrev pub Sees : Form → Level → Type 0
Sees (form.Lambda argument body) level = level ≡ ExprKind-F.Lambda argument.now body.now
Sees (form.Name name) level = level ≡ ExprKind-F.Name name.now
Sees form.Other level = (lambda_in level ≡ None) × (name_in level ≡ None)
