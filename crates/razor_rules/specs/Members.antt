-- What members declare.
use Rattle.std.specs.Prelude.{ℕ, ◌+◌, Bool, true, false, if◌then◌else◌, List, [], ◌∷◌, ◌++◌, map, Option, Some, None}
use Rattle.cs_ast.specs.declared.cs_type.CsType.{CsType}
use Rattle.cs_ast.specs.declared.cs_type.CsType.TheVariants as t
use Rattle.cs_ast.specs.declared.cs_type.TypeExpr.{TypeExpr}
use Rattle.cs_ast.specs.declared.identifier.Ident.{Ident}
use Rattle.cs_ast.specs.declared.member.Member.{Member}
use Rattle.cs_ast.specs.declared.member.MemberKind.{MemberKind}
use Rattle.cs_ast.specs.declared.member.MemberKind.TheVariants.{Field, Parameter, Method, Getter, RecordDef}
use Rattle.cs_ast.specs.declared.scope.Effect.{Effect}
use Rattle.cs_ast.specs.declared.scope.Named.{Named}
use Rattle.cs_ast.specs.declared.scope.NameKind.{NameKind}
use Rattle.cs_ast.specs.declared.scope.NameKind.TheVariants as kind
use Rattle.cs_rules.specs.Written.{type_of}

-- the name that a member declares
unfoldable pub name_of : MemberKind → Ident
name_of (Field cs_type name initial) = name
name_of (Parameter cascading source cs_type name initial) = name
name_of (Method result name arguments body) = name
name_of (Getter result name value) = name
name_of (RecordDef name parts) = name

unfoldable pub is_record : MemberKind → Bool
is_record (RecordDef name parts) = true
is_record _ = false

-- how many fields, parameters and members there are before a member
pub record Before : Type 0 where
  pub fields : ℕ
  pub parameters : ℕ
  pub members : ℕ

abbrev pub none_before : Before
none_before = record { fields = 0; parameters = 0; members = 0 }

-- the same behind one more
unfoldable pub and_this : MemberKind → Before → Before
and_this (Field cs_type name initial) before = record { fields = before.fields + 1; parameters = before.parameters; members = before.members + 1 }
and_this (Parameter cascading source cs_type name initial) before = record { fields = before.fields; parameters = before.parameters + 1; members = before.members + 1 }
and_this _ before = record { fields = before.fields; parameters = before.parameters; members = before.members + 1 }

-- the type of what has no value is that of a method without a result
abbrev pub result_type : Option TypeExpr → CsType
result_type None = t.Nothing
result_type (Some result) = type_of result

abbrev pub name_for : Ident → CsType → NameKind → ℕ → List Named
name_for name cs_type kind place = record { name = name.name; cs_type = cs_type; kind = kind; place = place } ∷ []

-- what a member's name stands for in code: fields and parameters have their numbers among themselves, bodies those of all bodies, from a first one on
unfoldable pub named : ℕ → Before → MemberKind → List Named
named first before (Field cs_type name initial) = name_for name (type_of cs_type) kind.Field before.fields
named first before (Parameter cascading source cs_type name initial) = name_for name (type_of cs_type) kind.Parameter before.parameters
named first before (Method result name arguments body) = name_for name (result_type result) (kind.Method (map (λ one. type_of one.cs_type) arguments)) (first + before.members)
named first before (Getter result name value) = name_for name (type_of result) kind.Getter (first + before.members)
named first before (RecordDef name parts) = []

-- the names of members, the first one innermost: of two members of one name the first is meant
abbrev pub names_behind : ℕ → Before → List Member → List Named
names_behind first before [] = []
names_behind first before (one ∷ others) = names_behind first (and_this one.kind before) others ++ named first before one.kind

abbrev pub names_of : ℕ → List Member → List Named
names_of first members = names_behind first none_before members

unfoldable pub is_method : MemberKind → Bool
is_method (Method result name arguments body) = true
is_method (Getter result name value) = true
is_method _ = false

-- the effects of the methods among members, each by the number of its body
abbrev pub numbered_effects : ℕ → List Member → List Effect → List (ℕ × Effect)
numbered_effects number [] effects = []
numbered_effects number (one ∷ others) [] = []
numbered_effects number (one ∷ others) (effect ∷ effects) =
    if is_method one.kind then (number, effect) ∷ numbered_effects (number + 1) others effects
    else numbered_effects (number + 1) others (effect ∷ effects)
