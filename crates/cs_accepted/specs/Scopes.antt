-- Which scopes say what the types say.
use Rattle.std.specs.Prelude.{◌≡◌, ℕ, List, [], map, length, slice_get, Some}
use Rattle.cs_ast.specs.declared.cs_type.CsType.{CsType}
use Rattle.cs_ast.specs.declared.scope.Scope.{Scope}
use Rattle.cs_ast.specs.declared.scope.Named.{Named}
use Rattle.cs_ast.specs.declared.scope.NameKind.{NameKind}
use Rattle.cs_ast.specs.declared.scope.NameKind.TheVariants as kind
use Rattle.cs_rules.specs.Names.{meant, locals_in}
use Rattle.cs_rules.specs.Written.{type_of, Declared, record_named}
use Rattle.cs_typing.specs.Types.{RecordType, Signature}
use Rattle.cs_typing.specs.Expressions.{Surroundings, arguments_or_one}

-- a method of the component, with arguments of these types and a result of this type
pub record MethodHas (at : Surroundings) (takes : List CsType) (result : CsType) (number : ℕ) : Type 0 where
  pub body : Signature
  pub numbered : at.types.bodies number ≡ Some body
  pub own : body.component ≡ at.component
  pub takes_them : body.locals ≡ arguments_or_one takes
  pub gives_it : body.result ≡ result

-- what a name of a kind says of its type and number is so
pub data NameFits (at : Surroundings) (locals : List CsType) (type : CsType) (number : ℕ) : NameKind → Type 0 where
  field : at.types.fields at.component number ≡ Some type → NameFits at locals type number kind.Field
  parameter : at.types.parameters at.component number ≡ Some type → NameFits at locals type number kind.Parameter
  local : slice_get locals number ≡ Some type → NameFits at locals type number kind.Local
  getter : MethodHas at [] type number → NameFits at locals type number kind.Getter
  method : (takes : List CsType) → MethodHas at takes type number → NameFits at locals type number (kind.Method takes)

-- a declared record as the types have it
abbrev pub record_type : Declared → RecordType
record_type found = record { number = found.number; parts = map (λ part. type_of part.cs_type) found.parts }

-- what names stand for has the types that they say, the locals are numbered one after another, and the records are those of the types
pub record ScopeFits (at : Surroundings) (locals : List CsType) (s : Scope) : Type 0 where
  pub names : (name : List ℕ) (one : Named) → meant s.names name ≡ Some one → NameFits at locals one.cs_type one.place one.kind
  pub count : locals_in s.names ≡ length locals
  pub records : (name : List ℕ) (found : Declared) → record_named s.records name ≡ Some found → at.types.records name ≡ Some (record_type found)
