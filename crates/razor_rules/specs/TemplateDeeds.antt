-- Whether a part of a template does something besides computing, in lambdas too.
use Rattle.std.specs.Prelude.{ℕ, Bool, false, List, [], ◌∷◌, Option, Some, None}
use Rattle.std.specs.List.{list_any}
use Rattle.cs_ast.specs.declared.expression.Expr.{Expr}
use Rattle.cs_ast.specs.declared.expression.ExprKind.{ExprKind-F, out-ExprKind}
use Rattle.cs_ast.specs.declared.expression.Stmt.{Stmt}
use Rattle.cs_ast.specs.declared.identifier.Ident.{Ident}
use Rattle.cs_effects.specs.declared.deed.Deed.{Deed}
use Rattle.cs_effects.specs.declared.deed.Deed.TheVariants.{Changes, Runs}
use Rattle.cs_effects.specs.Deeds.{of_expr, of_statement, of_body}
use Rattle.razor_ast.specs.declared.attribute.Attribute.{Attribute}
use Rattle.razor_ast.specs.declared.attribute.AttributeKind.{AttributeKind}
use Rattle.razor_ast.specs.declared.attribute.AttributeKind.TheVariants as ak
use Rattle.razor_ast.specs.declared.attribute.Given.{Given}
use Rattle.razor_ast.specs.declared.attribute.Given.TheVariants as given
use Rattle.razor_ast.specs.declared.attribute.ValuePart.{ValuePart}
use Rattle.razor_ast.specs.declared.attribute.ValuePart.TheVariants as part
use Rattle.razor_rules.specs.Values.{Level}

-- a local of a name is assigned or stepped
abbrev pub changing : List ℕ → Deed
changing name = Changes (name ∷ [])

-- a name is used as a value
abbrev pub reading : List ℕ → Deed
reading name = Runs name

abbrev pub if_any : {A : Type 0} → (A → Bool) → Option A → Bool
if_any test None = false
if_any test (Some x) = test x

abbrev pub names_in : Option Ident → List (List ℕ)
names_in None = []
names_in (Some name) = name.name ∷ []

module _ (deed : Deed) where
  abbrev pub level_does : Level → Expr → Bool
  level_does (ExprKind-F.Lambda argument body) a = of_body deed body (names_in argument)
  level_does _ a = (of_expr deed a).done []

  -- an expression, or a lambda when it is run
  unfoldable pub expression_does : Expr → Bool
  expression_does a = level_does (out-ExprKind a.kind) a

  unfoldable pub statement_does : Stmt → Bool
  statement_does a = (of_statement deed a).done []

  abbrev pub part_does : ValuePart → Bool
  part_does (part.Literal text) = false
  part_does (part.Shown a) = expression_does a

  abbrev pub given_does : Given → Bool
  given_does given.Nothing = false
  given_does (given.Text place text expression) = if_any expression_does expression
  given_does (given.Value a) = expression_does a

  -- an attribute
  unfoldable pub attribute_does : AttributeKind → Bool
  attribute_does (ak.Mixed number value) = list_any part_does value
  attribute_does (ak.Key a) = expression_does a
  attribute_does (ak.Event number a) = expression_does a
  attribute_does (ak.Parameter number given) = given_does given
  attribute_does _ = false

  -- attributes
  abbrev pub attributes_do : List Attribute → Bool
  attributes_do attributes = list_any (λ one. attribute_does one.kind) attributes
