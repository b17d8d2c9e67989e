-- The attributes of elements.
use Rattle.std.specs.Prelude.{ℕ, ◌+◌, drop, List, [], ◌∷◌, Some}
use Rattle.cs_ast.specs.declared.code.Code.TheVariants as c
use Rattle.cs_ast.specs.declared.cs_type.CsType.{CsType}
use Rattle.cs_ast.specs.declared.identifier.Ident.{Ident}
use Rattle.cs_ast.specs.declared.expression.Expr.{Expr}
use Rattle.cs_ast.specs.declared.scope.Scope.{Scope}
use Rattle.cs_rules.specs.declared.rule.Rule.TheVariants.{BadBind}
use Rattle.cs_rules.specs.Judged.{Judged, fine, known}
use Rattle.cs_rules.specs.Judged as judging
use Rattle.cs_rules.specs.Judged.{◌>>=◌ as ◌>>>=◌}
use Rattle.drawing_meaning.specs.Attributes as act
use Rattle.drawing_meaning.specs.Attributes.{Dresses, wears, keyed_by}
use Rattle.drawing_meaning.specs.Texts.{Says, literal, shown_code}
use Rattle.razor_ast.specs.declared.attribute.Attribute.{Attribute}
use Rattle.razor_ast.specs.declared.attribute.AttributeKind.{AttributeKind}
use Rattle.razor_ast.specs.declared.attribute.AttributeKind.TheVariants as ak
use Rattle.razor_ast.specs.declared.attribute.ValuePart.{ValuePart}
use Rattle.razor_ast.specs.declared.attribute.ValuePart.TheVariants as part
use Rattle.razor_rules.specs.Elements.{own_field, bound_attribute, bound_event, event_type}
use Rattle.razor_rules.specs.Scopes.{Home}
use Rattle.page_meaning.specs.Attributes.{bind_kind}
use Rattle.page_meaning.specs.Callbacks as page
use Rattle.page_meaning.specs.Resolved.{place_at}
use Rattle.frame_parts.specs.Steps.{Steps, step, alone, judged, put_body, each_of, code_in, ◌>>=◌}

abbrev pub said_by : Scope → ValuePart → Judged Says
said_by s (part.Literal said) = fine (literal said)
said_by s (part.Shown a) = code_in s a >>>= (λ code. fine (shown_code code))

-- a text of several parts
abbrev pub joined : Scope → ℕ → List ℕ → List ValuePart → Judged Dresses
joined s number name parts = judging.each (said_by s) parts >>>= (λ said. fine (wears (act.mixed number name said)))

-- a value of one part
abbrev pub whole : Scope → ℕ → List ℕ → ValuePart → Judged Dresses
whole s number name (part.Literal said) = joined s number name (part.Literal said ∷ [])
whole s number name (part.Shown a) = code_in s a >>>= (λ code. fine (wears (act.whole number name code)))

abbrev pub mixed : Scope → ℕ → List ℕ → List ValuePart → Judged Dresses
mixed s number name [] = fine (wears (act.empty number name))
mixed s number name (one ∷ []) = whole s number name one
mixed s number name (one ∷ other ∷ others) = joined s number name (one ∷ other ∷ others)

abbrev pub key : Scope → Expr → Judged Dresses
key s a = code_in s a >>>= (λ code. fine (keyed_by code))

abbrev pub event : Home → Scope → ℕ → List ℕ → Expr → Steps (List Dresses)
event home s number name a = do
  code ← step (page.callback home s number a (Some (event_type name)))
  alone (wears (act.event number (drop 1 name) code) ∷ [])

abbrev pub bound_field : Home → Ident → Judged (ℕ × CsType)
bound_field home name = known BadBind name.place (own_field home.members name.name)

-- the attribute that shows a bound field of a number and a type, and the handler of its event
abbrev pub bound_parts : Home → List ℕ → List Attribute → ℕ → ℕ × CsType → List Dresses
bound_parts home element attributes number field =
    wears (act.whole number (bound_attribute element attributes (Some field.1)) (c.Field field.0)) ∷ wears (act.own_handler (number + 1) (bound_event attributes) (place_at home (number + 1))) ∷ []

abbrev pub bound : Home → List ℕ → List Attribute → ℕ → Ident → Steps (List Dresses)
bound home element attributes number name = do
  field ← judged (bound_field home name)
  placed ← put_body (place_at home (number + 1)) (c.Bind field.0 (bind_kind field.1))
  alone (bound_parts home element attributes number field)

module _ (home : Home) (s : Scope) (element : List ℕ) (attributes : List Attribute) where
  abbrev pub attribute : AttributeKind → List ℕ → Steps (List Dresses)
  attribute (ak.Mixed number parts) name = do
    worn ← judged (mixed s number name parts)
    alone (worn ∷ [])
  attribute (ak.Key a) name = do
    worn ← judged (key s a)
    alone (worn ∷ [])
  attribute (ak.Event number a) name = event home s number name a
  attribute (ak.Bind number field) name = bound home element attributes number field
  attribute _ name = alone []

  -- these, one after another
  abbrev pub dressed : List Attribute → Steps (List Dresses)
  dressed all = each_of (λ one. attribute one.kind one.name) all
