-- What the tag of a component comes to.
use Rattle.std.specs.Prelude.{ℕ, ◌+◌, Bool, false, not, ◌&&◌, codes, List, [], ◌∷◌, if◌then◌else◌, Option, Some, None, option_map, bytes_eq}
use Rattle.text_core.specs.declared.place.Place.{Place}
use Rattle.cs_ast.specs.declared.code.Code.{Code}
use Rattle.cs_ast.specs.declared.cs_type.CsType.{CsType, out-CsType}
use Rattle.cs_ast.specs.declared.cs_type.CsType.TheVariants as t
use Rattle.cs_ast.specs.declared.cs_type.CsType.TheOpen.{CsType-F}
use Rattle.cs_ast.specs.declared.expression.Expr.{Expr}
use Rattle.cs_ast.specs.declared.member.Member.{Member}
use Rattle.cs_ast.specs.declared.member.MemberKind.{MemberKind}
use Rattle.cs_ast.specs.declared.member.MemberKind.TheVariants.{Parameter}
use Rattle.cs_ast.specs.declared.scope.Scope.{Scope}
use Rattle.cs_rules.specs.declared.checked.ExprType.{ExprType}
use Rattle.cs_rules.specs.declared.checked.ExprType.TheVariants.{Of}
use Rattle.cs_rules.specs.declared.rule.Rule.TheVariants.{UnknownParameter}
use Rattle.cs_rules.specs.Judged.{fine, breaks, known, mismatch}
use Rattle.cs_rules.specs.Trees.{value_in}
use Rattle.cs_rules.specs.Written.{type_of}
use Rattle.drawing_meaning.specs.Tags.{Gives, given_text, given_value, given_key}
use Rattle.frame_core.specs.declared.made.Made.{Made}
use Rattle.frame_core.specs.declared.made.Made.TheVariants as made
use Rattle.razor_ast.specs.declared.attribute.Attribute.{Attribute}
use Rattle.razor_ast.specs.declared.attribute.AttributeKind.{AttributeKind}
use Rattle.razor_ast.specs.declared.attribute.AttributeKind.TheVariants as ak
use Rattle.razor_ast.specs.declared.attribute.Given.{Given}
use Rattle.razor_ast.specs.declared.attribute.Given.TheVariants as given
use Rattle.razor_ast.specs.declared.component.Component.{Component}
use Rattle.razor_rules.specs.Parameters.{is_text, component_named}
use Rattle.razor_rules.specs.Scopes.{Home}
use Rattle.page_meaning.specs.Callbacks.{callback}
use Rattle.page_meaning.specs.Resolved.{Resolves, alone, judged, each_of, value_code, ◌>>=◌}

abbrev pub parameter_or : List ℕ → MemberKind → ℕ → (ℕ → Option (ℕ × CsType)) → Option (ℕ × CsType)
parameter_or name (Parameter cascading source cs_type other initial) number further = if bytes_eq other.name name then Some (number, type_of cs_type) else further (number + 1)
parameter_or name _ number further = further number

-- the place and the type of the first parameter of a name, counted from a number on
abbrev pub parameter_from : List Member → List ℕ → ℕ → Option (ℕ × CsType)
parameter_from [] name number = None
parameter_from (one ∷ others) name number = parameter_or name one.kind number (parameter_from others name)

-- the position of the component of a name
abbrev pub position_from : List Component → List ℕ → ℕ → Option ℕ
position_from [] name position = None
position_from (one ∷ others) name position = if bytes_eq one.name name then Some position else position_from others name (position + 1)

-- A component as its tags see it: what it is, the places and types of its parameters, and of which of them a text is an expression
-- whatever their type.
pub record Target : Type 0 where
  pub made : Made
  pub parameter : List ℕ → Option (ℕ × CsType)
  pub reads : List ℕ → Bool

abbrev pub expression_code : Home → Scope → ℕ → CsType-F CsType → Expr → Resolves Code
expression_code home s number (CsType-F.Callback argument) a = callback home s number a argument
expression_code home s number _ a = value_code s a

-- a parameter of a name and a type takes a text as it stands
abbrev pub takes_text : Target → List ℕ → CsType → Bool
takes_text target name cs_type = not (target.reads name) && is_text cs_type

-- the code of an expression for a parameter of a type
unfoldable pub supplied_code : Home → Scope → ℕ → CsType → Expr → Resolves Code
supplied_code home s number cs_type a = expression_code home s number (out-CsType cs_type) a

module _ (home : Home) (s : Scope) (target : Target) where
  abbrev pub expression_gift : ℕ → ℕ × CsType → Expr → Resolves (List Gives)
  expression_gift number it a = do
    code ← supplied_code home s number it.1 a
    alone (given_value it.0 code ∷ [])

  abbrev pub if_said : ℕ → ℕ × CsType → Place → Option Expr → Resolves (List Gives)
  if_said number it place None = judged (mismatch place)
  if_said number it place (Some a) = expression_gift number it a

  -- what a parameter is given by an attribute: its text where it takes a text as it stands, else its expression
  abbrev pub given_gift : ℕ → ℕ × CsType → Bool → Given → Resolves (List Gives)
  given_gift number it as_text given.Nothing = alone (given_text it.0 [] ∷ [])
  given_gift number it as_text (given.Text place said a) = if as_text then alone (given_text it.0 said ∷ []) else if_said number it place a
  given_gift number it as_text (given.Value a) = expression_gift number it a

  unfoldable pub parameter_gift : ℕ → Given → Place → List ℕ → Resolves (List Gives)
  parameter_gift number given place name = do
    it ← judged (known UnknownParameter place (target.parameter name))
    given_gift number it (takes_text target name it.1) given

  abbrev pub attribute_gift : AttributeKind → Place → List ℕ → Resolves (List Gives)
  attribute_gift (ak.Parameter number given) place name = parameter_gift number given place name
  attribute_gift (ak.Key a) place name = do
    code ← value_code s a
    alone (given_key code ∷ [])
  attribute_gift _ place name = alone []

  -- what attributes give, one after another
  abbrev pub attribute_gifts : List Attribute → Resolves (List Gives)
  attribute_gifts attributes = each_of (λ one. attribute_gift one.kind one.place one.name) attributes

-- the places of the parameters of the built-in provider, whose value is of a type
abbrev pub provider_parameter : CsType → List ℕ → Option (ℕ × CsType)
provider_parameter cs_type name =
    if bytes_eq name (codes "Value") then Some (0, cs_type)
    else if bytes_eq name (codes "Name") then Some (1, t.Text)
    else if bytes_eq name (codes "ChildContent") then Some (2, t.Fragment None)
    else None

-- the expression of an attribute
abbrev pub expression_in : Given → Option Expr
expression_in given.Nothing = None
expression_in (given.Text place said a) = a
expression_in (given.Value a) = Some a

-- the literal text of an attribute
abbrev pub text_in : Given → Option (List ℕ)
text_in given.Nothing = Some []
text_in (given.Text place said a) = Some said
text_in (given.Value a) = None

abbrev pub given_by : AttributeKind → Option Given
given_by (ak.Parameter number given) = Some given
given_by _ = None

-- what the attribute of a name gives, if there is one
abbrev pub given_in : List Attribute → List ℕ → Option Given
given_in [] name = None
given_in (one ∷ others) name = if bytes_eq one.name name then given_by one.kind else given_in others name

abbrev pub bound_to : {A B : Type 0} → Option A → (A → Option B) → Option B
bound_to None next = None
bound_to (Some x) next = next x

abbrev pub own_type : ExprType → Option CsType
own_type (Of cs_type) = Some cs_type
own_type _ = None

abbrev pub type_if_fine : Scope → Expr → Option CsType
type_if_fine s a = elim (value_in s a) [ fine x ↦ own_type x.expr_type | breaks rule place ↦ None ]

abbrev pub provider : List Attribute → CsType → Target
provider attributes cs_type = record { made = made.Provider cs_type (bound_to (given_in attributes (codes "Name")) text_in); parameter = provider_parameter cs_type; reads = λ name. bytes_eq name (codes "Value") }

abbrev pub component_at : ℕ → Component → Target
component_at position one = record { made = made.Component position; parameter = λ name. parameter_from one.members name 0; reads = λ name. false }

-- what a tag of a name is the tag of, in a scope
unfoldable pub target_of : List Component → Scope → List ℕ → List Attribute → Option Target
target_of components s name attributes =
    if bytes_eq name (codes "CascadingValue") then
    option_map (provider attributes) (bound_to (bound_to (given_in attributes (codes "Value")) expression_in) (type_if_fine s))
    else bound_to (component_named components name) (λ one. option_map (λ position. component_at position one) (position_from components name 0))
