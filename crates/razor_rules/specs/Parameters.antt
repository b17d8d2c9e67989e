-- What a component takes on its tag.
use Rattle.std.specs.Prelude.{ℕ, Bool, true, false, codes, is_none, List, [], ◌∷◌, if◌then◌else◌, Option, Some, None, bytes_eq}
use Rattle.std.specs.List.{list_any, filter_map}
use Rattle.text_core.specs.declared.place.Place.{Place}
use Rattle.cs_ast.specs.declared.cs_type.CsType.{CsType, out-CsType}
use Rattle.cs_ast.specs.declared.cs_type.CsType.TheVariants as t
use Rattle.cs_ast.specs.declared.cs_type.CsType.TheOpen.{CsType-F}
use Rattle.cs_ast.specs.declared.expression.Expr.{Expr}
use Rattle.cs_ast.specs.declared.member.Member.{Member}
use Rattle.cs_ast.specs.declared.member.MemberKind.{MemberKind}
use Rattle.cs_ast.specs.declared.member.MemberKind.TheVariants.{Parameter}
use Rattle.cs_rules.specs.declared.rule.Rule.TheVariants.{UnknownParameter, TypeMismatch}
use Rattle.cs_rules.specs.Judged.{Judged, fine, breaks, mismatch, ◌>>=◌}
use Rattle.cs_rules.specs.Written.{type_of}
use Rattle.razor_ast.specs.declared.attribute.Attribute.{Attribute}
use Rattle.razor_ast.specs.declared.attribute.Given.{Given}
use Rattle.razor_ast.specs.declared.attribute.Given.TheVariants as given
use Rattle.razor_ast.specs.declared.component.Component.{Component}
use Rattle.razor_rules.specs.declared.finding.Broken.{Broken}
use Rattle.razor_rules.specs.Findings.{broken, found}
use Rattle.razor_rules.specs.Scopes.{Home}
use Rattle.razor_rules.specs.WrittenTypes.{unknown_parameter}
use Rattle.razor_rules.specs.declared.ground.Ground.{Ground}
use Rattle.razor_rules.specs.Values.{value, supplied, cascading}

-- a parameter: its name, its type, and whether that is one
pub record Takes : Type 0 where
  pub name : List ℕ
  pub cs_type : CsType
  pub is_type : Bool

-- the parameter that a member declares for the tags of its component, if it does
unfoldable pub taken_as : List Member → MemberKind → Option Takes
taken_as records (Parameter false source cs_type name initial) = Some (record { name = name.name; cs_type = type_of cs_type; is_type = is_none (unknown_parameter records cs_type) })
taken_as records _ = None

abbrev pub takes_in : List Member → List Member → List Takes
takes_in records members = filter_map (λ one. taken_as records one.kind) members

abbrev pub taken : List Takes → List ℕ → Option Takes
taken [] name = None
taken (one ∷ others) name = if bytes_eq one.name name then Some one else taken others name

-- the component of a name
abbrev pub component_named : List Component → List ℕ → Option Component
component_named [] name = None
component_named (one ∷ others) name = if bytes_eq one.name name then Some one else component_named others name

-- a component as its tags see it: its parameters, or those of the built-in `CascadingValue`
pub data Tagged : Type 0 where
  cascading_value : Tagged
  component : List Takes → Tagged

abbrev pub tagged_component : List Member → Option Component → Option Tagged
tagged_component records None = None
tagged_component records (Some one) = Some (component (takes_in records one.members))

-- what a tag of this name is the tag of, if it is of a component
unfoldable pub tagged : Home → List ℕ → Option Tagged
tagged home name = if bytes_eq name (codes "CascadingValue") then Some cascading_value else tagged_component home.records (component_named home.components name)

-- the argument that a fragment of this type takes, if it is a fragment's
abbrev pub argument_level : CsType-F CsType → Option (Option CsType)
argument_level (CsType-F.Fragment argument) = Some argument
argument_level _ = None

abbrev pub argument_taken : Option Takes → Option (Option CsType)
argument_taken None = None
argument_taken (Some one) = argument_level (out-CsType one.cs_type)

-- the fragment that a component takes under a name, if it takes one: the argument of that
unfoldable pub fragment_taken : Tagged → List ℕ → Option (Option CsType)
fragment_taken cascading_value name = if bytes_eq name (codes "ChildContent") then Some None else None
fragment_taken (component takes) name = argument_taken (taken takes name)

abbrev pub is_text : CsType → Bool
is_text t.Text = true
is_text _ = false

-- where an attribute says no expression: at its value, or at itself where that is empty
abbrev pub place_of_text : Place → Place → List ℕ → Place
place_of_text at place [] = at
place_of_text at place (c ∷ text) = place

-- the expression of an attribute, if it says one
abbrev pub expression_of : Place → Given → Judged Expr
expression_of at given.Nothing = mismatch at
expression_of at (given.Text place text (Some a)) = fine a
expression_of at (given.Text place text None) = mismatch (place_of_text at place text)
expression_of at (given.Value a) = fine a

-- an expression where a literal text is wanted
abbrev pub literal_rules : (Expr → Judged (Unit {0})) → Given → Judged (Unit {0})
literal_rules judge (given.Value a) = judge a
literal_rules judge given = fine tt

module _ (g : Ground) where
  -- what a parameter of a type is given by an attribute: a text by one without an at sign, where the type is a text's; else an expression
  abbrev pub given_rules : CsType → Place → Given → Judged (Unit {0})
  given_rules cs_type at given =
      if is_text cs_type then literal_rules (supplied g cs_type) given
      else expression_of at given >>= supplied g cs_type

  -- what is given to a parameter whose type is none isn't looked at
  abbrev pub taken_rules : Option Takes → Place → Given → Judged (Unit {0})
  taken_rules None at given = breaks UnknownParameter at
  taken_rules (Some one) at given = if one.is_type then given_rules one.cs_type at given else fine tt

  -- an expression that stands where a literal text has to
  abbrev pub no_literal : Expr → Judged (Unit {0})
  no_literal a = do
    x ← value g a
    mismatch a.place

  abbrev pub cascading_rules : List ℕ → Place → Given → Judged (Unit {0})
  cascading_rules name at given =
      if bytes_eq name (codes "Value") then expression_of at given >>= cascading g
      else if bytes_eq name (codes "Name") then literal_rules no_literal given
      else if bytes_eq name (codes "ChildContent") then given_rules (t.Fragment None) at given
      else breaks UnknownParameter at

  -- an attribute of a tag of a component by its name, its place and what it gives
  unfoldable pub parameter_rules : Tagged → List ℕ → Place → Given → List Broken
  parameter_rules cascading_value name at given = found (cascading_rules name at given)
  parameter_rules (component takes) name at given = found (taken_rules (taken takes name) at given)

-- a `CascadingValue` has to have a value
unfoldable pub needed_rules : Tagged → List Attribute → Place → List Broken
needed_rules cascading_value attributes at = if list_any (λ one. bytes_eq one.name (codes "Value")) attributes then [] else broken TypeMismatch at ∷ []
needed_rules (component takes) attributes at = []
