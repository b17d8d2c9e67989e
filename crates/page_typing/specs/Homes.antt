-- What the members of a component say of its types, and which of them are accepted.
use Rattle.std.specs.Prelude.{◌≡◌, ℕ, List, [], ◌∷◌, Some}
use Rattle.cs_ast.specs.declared.code.Code.{Code}
use Rattle.cs_ast.specs.declared.cs_type.CsType.{CsType}
use Rattle.cs_ast.specs.declared.expression.Body.TheVariants as body
use Rattle.cs_ast.specs.declared.member.Member.{Member}
use Rattle.cs_ast.specs.declared.member.MemberKind.{MemberKind}
use Rattle.cs_ast.specs.declared.member.MemberKind.TheVariants.{Field, Parameter, Method, Getter, RecordDef}
use Rattle.cs_rules.specs.Judged.{fine}
use Rattle.cs_typing.specs.Types.{Types}
use Rattle.cs_typing.specs.Expressions.{Surroundings}
use Rattle.cs_accepted.specs.Programs.{AcceptedAs}
use Rattle.cs_accepted.specs.Scopes.{ScopeFits}
use Rattle.razor_rules.specs.Elements.{own_field}
use Rattle.razor_rules.specs.Scopes.{Home, member_scope}
use Rattle.page_meaning.specs.Bodies.{method_code, method_signature}

-- where the code of a component stands
abbrev pub surroundings : Types → Home → Surroundings
surroundings types home = record { types = types; component = home.position }

-- a method has accepted code
abbrev pub MethodFits : Types → Home → MemberKind → Type 0
MethodFits types home (Method result name arguments of) = (code : Code) × (method_code home result arguments of ≡ fine code) × AcceptedAs types (method_signature home result arguments) code
MethodFits types home (Getter result name value) = (code : Code) × (method_code home (Some result) [] (body.Value value) ≡ fine code) × AcceptedAs types (method_signature home (Some result) []) code
MethodFits types home (Field cs_type name initial) = Unit {0}
MethodFits types home (Parameter cascading source cs_type name initial) = Unit {0}
MethodFits types home (RecordDef name parts) = Unit {0}

abbrev pub MethodsFit : Types → Home → List Member → Type 0
MethodsFit types home [] = Unit {0}
MethodsFit types home (one ∷ others) = MethodFits types home one.kind × MethodsFit types home others

-- the names of members mean what the types say, fields that are bound are those of the types, and methods have accepted code
pub record HomeFits (types : Types) (home : Home) : Type 0 where
  pub members : ScopeFits (surroundings types home) [] (member_scope home)
  pub fields : (name : List ℕ) (found : ℕ × CsType) → own_field home.members name ≡ Some found → types.fields home.position found.0 ≡ Some found.1
  pub methods : MethodsFit types home home.members
