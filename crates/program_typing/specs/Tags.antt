-- What the tag of a component gives, by the types of its parameters.
use Rattle.std.specs.Prelude.{◌≡◌, ℕ, Bool, true, false, List, [], ◌∷◌, slice_get, Option, Some}
use Rattle.cs_ast.specs.declared.code.Code.{Code}
use Rattle.cs_ast.specs.declared.cs_type.CsType.{CsType}
use Rattle.cs_ast.specs.declared.cs_type.CsType.TheVariants as t
use Rattle.cs_ast.specs.declared.expression.Expr.{Expr}
use Rattle.cs_ast.specs.declared.member.Member.{Member}
use Rattle.cs_ast.specs.declared.scope.Scope.{Scope}
use Rattle.cs_typing.specs.Expressions.{Surroundings, CodeHas}
use Rattle.cs_typing.specs.Types.{Types}
use Rattle.cs_typing.specs.Values.{ValueHas}
use Rattle.drawing_meaning.specs.declared.output.Gifts.{Gifts}
use Rattle.drawing_meaning.specs.Drawing.{Drawing}
use Rattle.drawing_meaning.specs.Acts.{Act}
use Rattle.drawing_meaning.specs.Tags as tag
use Rattle.drawing_meaning.specs.Tags.{Gives}
use Rattle.frame_core.specs.declared.item.ItemParameter.{ItemParameter}
use Rattle.frame_core.specs.declared.made.Made.TheVariants as made
use Rattle.razor_ast.specs.declared.attribute.Attribute.{Attribute}
use Rattle.razor_ast.specs.declared.attribute.AttributeKind.{AttributeKind}
use Rattle.razor_ast.specs.declared.attribute.AttributeKind.TheVariants as ak
use Rattle.razor_ast.specs.declared.attribute.Given.{Given}
use Rattle.razor_ast.specs.declared.attribute.Given.TheVariants as given
use Rattle.razor_ast.specs.declared.component.Component.{Component}
use Rattle.razor_rules.specs.Declarations.{members_rules}
use Rattle.razor_rules.specs.Parameters.{Takes, taken}
use Rattle.razor_rules.specs.Programs.{home_of}
use Rattle.page_meaning.specs.Tags.{Target, component_at, target_of}
use Rattle.page_typing.specs.Acts.{Captures}
use Rattle.page_typing.specs.Drawings.{DrawingHas}
use Rattle.page_typing.specs.Formed.{LambdaFormed}

-- the types of parameters by their places
abbrev pub Parameters : Type 0
Parameters = ℕ → Option CsType

-- whose code uses locals of these types
module _ (at : Surroundings) (locals : List CsType) (parameters : Parameters) where
  -- what is given has the type of the parameter that it is given to
  pub data GiveFits : Gives → Type 0 where
    text : (place : ℕ) (said : List ℕ) → parameters place ≡ Some t.Text → GiveFits (tag.given_text place said)
    value : (place : ℕ) (type : CsType) (code : Code) → parameters place ≡ Some type → CodeHas at locals type code → GiveFits (tag.given_value place code)
    key : (type : CsType) (code : Code) → CodeHas at locals type code → GiveFits (tag.given_key code)
    content : (place number : ℕ) (positions : List ℕ) (it : Captures at locals number positions) → parameters place ≡ Some (t.Fragment it.argument) → GiveFits (tag.given_content place number positions)
    fragment : (place number : ℕ) (positions : List ℕ) (it : Captures at locals number positions) → parameters place ≡ Some (t.Fragment it.argument) → GiveFits (tag.given_fragment place number positions)

  pub data GivesFit : List Gives → Type 0 where
    none : GivesFit []
    more : (one : Gives) (others : List Gives) → GiveFits one → GivesFit others → GivesFit (one ∷ others)

-- a parameter has a value of its type
pub record ParameterHas (types : Types) (parameters : Parameters) (one : ItemParameter) : Type 0 where
  pub type : CsType
  pub declared : parameters one.place ≡ Some type
  pub has : ValueHas types type one.value

abbrev pub ParametersHave : Types → Parameters → List ItemParameter → Type 0
ParametersHave types parameters [] = Unit {0}
ParametersHave types parameters (one ∷ others) = ParameterHas types parameters one × ParametersHave types parameters others

-- what a tag supplies, with locals of these types
abbrev pub SuppliedSo : Types → List CsType → Parameters → Gifts → Drawing → Type 0
SuppliedSo types locals parameters it d = ParametersHave types parameters it.supplied × DrawingHas types locals d

-- the parameters that the rules know are parameters of the target, of the same types
pub record TargetFits (takes : List Takes) (target : Target) (parameters : Parameters) (name : List ℕ) (one : Takes) : Type 0 where
  pub is_type : one.is_type ≡ true
  pub place : ℕ
  pub known : target.parameter name ≡ Some (place, one.cs_type)
  pub stands : target.reads name ≡ false
  pub declared : parameters place ≡ Some one.cs_type

abbrev pub AllFit : List Takes → Target → Parameters → Type 0
AllFit takes target parameters = (name : List ℕ) (one : Takes) → taken takes name ≡ Some one → TargetFits takes target parameters name one

-- no jump leaves a lambda that is given
abbrev pub IfLambda : Option Expr → Type 0
IfLambda a = (it : Expr) → a ≡ Some it → LambdaFormed it

abbrev pub GivenFormed : Given → Type 0
GivenFormed given.Nothing = Unit {0}
GivenFormed (given.Text place said a) = IfLambda a
GivenFormed (given.Value a) = LambdaFormed a

abbrev pub KindFormed : AttributeKind → Type 0
KindFormed (ak.Parameter number given) = GivenFormed given
KindFormed _ = Unit {0}

abbrev pub AttributesFormed : List Attribute → Type 0
AttributesFormed [] = Unit {0}
AttributesFormed (one ∷ others) = KindFormed one.kind × AttributesFormed others

-- the members of a component break no rule
pub record MembersKeep (components : List Component) (position : ℕ) (one : Component) : Type 0 where
  pub invoking : List ℕ
  pub circular : List ℕ → Bool
  pub earlier : List Member
  pub broken : members_rules (home_of components position one) invoking circular earlier ≡ []

abbrev pub KeepsRules : List Component → Type 0
KeepsRules components = (position : ℕ) (one : Component) → slice_get components position ≡ Some one → MembersKeep components position one

-- a tag of this name is the tag of a component of the program, whose parameters fit what the tag takes
pub record IsTargetOf (components : List Component) (types : Types) (s : Scope) (name : List ℕ) (attributes : List Attribute) (takes : List Takes) : Type 0 where
  pub position : ℕ
  pub one : Component
  pub there : slice_get components position ≡ Some one
  pub known : target_of components s name attributes ≡ Some (component_at position one)
  pub fit : AllFit takes (component_at position one) (λ place. types.parameters position place)

-- the tag of the component at a position, with what fits its parameters
pub record IsComponent (at : Surroundings) (locals : List CsType) (number position : ℕ) (all : List Act) : Type 0 where
  pub gives : List Gives
  pub is : all ≡ tag.component number (made.Component position) gives ∷ []
  pub fit : GivesFit at locals (λ place. at.types.parameters position place) gives
