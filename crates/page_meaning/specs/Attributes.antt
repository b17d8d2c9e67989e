-- What the attributes of an element come to.
use Rattle.std.specs.Prelude.{ℕ, ◌+◌, drop, List, [], ◌∷◌, Some}
use Rattle.cs_ast.specs.declared.code.BindKind.{BindKind}
use Rattle.cs_ast.specs.declared.code.BindKind.TheVariants as bind
use Rattle.cs_ast.specs.declared.code.Code.TheVariants as c
use Rattle.cs_ast.specs.declared.cs_type.CsType.{CsType}
use Rattle.cs_ast.specs.declared.cs_type.CsType.TheVariants as t
use Rattle.cs_ast.specs.declared.expression.Expr.{Expr}
use Rattle.cs_ast.specs.declared.identifier.Ident.{Ident}
use Rattle.cs_ast.specs.declared.scope.Scope.{Scope}
use Rattle.cs_rules.specs.declared.rule.Rule.TheVariants.{BadBind}
use Rattle.cs_rules.specs.Judged.{known}
use Rattle.drawing_meaning.specs.Texts.{Says, literal, shown_code}
use Rattle.drawing_meaning.specs.Attributes as act
use Rattle.drawing_meaning.specs.Attributes.{Dresses, wears, keyed_by}
use Rattle.razor_ast.specs.declared.attribute.Attribute.{Attribute}
use Rattle.razor_ast.specs.declared.attribute.AttributeKind.{AttributeKind}
use Rattle.razor_ast.specs.declared.attribute.AttributeKind.TheVariants as ak
use Rattle.razor_ast.specs.declared.attribute.ValuePart.{ValuePart}
use Rattle.razor_ast.specs.declared.attribute.ValuePart.TheVariants as part
use Rattle.razor_rules.specs.Elements.{own_field, bound_attribute, bound_event, event_type}
use Rattle.razor_rules.specs.Scopes.{Home}
use Rattle.page_meaning.specs.Callbacks.{callback}
use Rattle.page_meaning.specs.Placed.{signature, body}
use Rattle.page_meaning.specs.Resolved.{Resolves, alone, judged, put, each, each_of, value_code, place_at, ◌>>=◌}

-- how a bound field of a type reads a text
abbrev pub bind_kind : CsType → BindKind
bind_kind t.Int = bind.Int
bind_kind t.Bool = bind.Bool
bind_kind _ = bind.Text

module _ (home : Home) (s : Scope) (element : List ℕ) (attributes : List Attribute) where
  abbrev pub said_by : ValuePart → Resolves Says
  said_by (part.Literal said) = alone (literal said)
  said_by (part.Shown a) = do
    code ← value_code s a
    alone (shown_code code)

  -- an attribute without a value, of one expression, or of parts that are joined to one new text
  unfoldable pub mixed : ℕ → List ℕ → List ValuePart → Resolves (List Dresses)
  mixed number name [] = alone (wears (act.empty number name) ∷ [])
  mixed number name (part.Shown a ∷ []) = do
    code ← value_code s a
    alone (wears (act.whole number name code) ∷ [])
  mixed number name parts = do
    said ← each said_by parts
    alone (wears (act.mixed number name said) ∷ [])

  unfoldable pub event : ℕ → List ℕ → Expr → Resolves (List Dresses)
  event number name a = do
    code ← callback home s number a (Some (event_type name))
    alone (wears (act.event number (drop 1 name) code) ∷ [])

  -- a bound field: an attribute that shows it, and a handler that reads it from a text
  abbrev pub bound_to : ℕ → ℕ × CsType → Resolves (List Dresses)
  bound_to number field = do
    placed ← put (place_at home (number + 1)) (body (signature home (t.Change ∷ []) t.Nothing) (c.Bind field.0 (bind_kind field.1)))
    alone (wears (act.whole number (bound_attribute element attributes (Some field.1)) (c.Field field.0)) ∷ wears (act.own_handler (number + 1) (bound_event attributes) (place_at home (number + 1))) ∷ [])

  unfoldable pub bound : ℕ → Ident → Resolves (List Dresses)
  bound number name = do
    field ← judged (known BadBind name.place (own_field home.members name.name))
    bound_to number field

  unfoldable pub key : Expr → Resolves (List Dresses)
  key a = do
    code ← value_code s a
    alone (keyed_by code ∷ [])

  abbrev pub attribute : AttributeKind → List ℕ → Resolves (List Dresses)
  attribute (ak.Mixed number parts) name = mixed number name parts
  attribute (ak.Key a) name = key a
  attribute (ak.Event number a) name = event number name a
  attribute (ak.Bind number field) name = bound number field
  attribute _ name = alone []

  -- all of them, one after another
  abbrev pub dressed : Resolves (List Dresses)
  dressed = each_of (λ one. attribute one.kind one.name) attributes
