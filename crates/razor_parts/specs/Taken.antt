-- The parameters of components by the types that they are written with.
use Rattle.std.specs.Prelude.{ℕ, ◌&&◌, not, Bool, false, List, [], ◌∷◌, if◌then◌else◌, Option, Some, None, bytes_eq}
use Rattle.std.specs.Option.{option_or}
use Rattle.cs_ast.specs.declared.cs_type.CsType.{CsType, out-CsType}
use Rattle.cs_ast.specs.declared.cs_type.TypeExpr.{TypeExpr}
use Rattle.cs_ast.specs.declared.member.Member.{Member}
use Rattle.cs_ast.specs.declared.member.MemberKind.{MemberKind}
use Rattle.cs_ast.specs.declared.member.MemberKind.TheVariants.{Field, Parameter}
use Rattle.cs_rules.specs.Written.{type_of}
use Rattle.razor_ast.specs.declared.attribute.ValuePart.{ValuePart}
use Rattle.razor_ast.specs.declared.attribute.ValuePart.TheVariants as part
use Rattle.razor_rules.specs.Parameters.{argument_level}

-- the type that a parameter of a name is written with, if tags give it
abbrev pub written_by : List ℕ → MemberKind → Option TypeExpr
written_by name (Parameter cascading source cs_type other initial) = if not cascading && bytes_eq other.name name then Some cs_type else None
written_by name _ = None

-- the first of these among members
abbrev pub written_as : List Member → List ℕ → Option TypeExpr
written_as [] name = None
written_as (one ∷ others) name = option_or (written_by name one.kind) (written_as others name)

-- the argument of a fragment of such a type, if it is a fragment's
abbrev pub argument_written : Option TypeExpr → Option (Option CsType)
argument_written None = None
argument_written (Some written) = argument_level (out-CsType (type_of written))

-- the type that a field of a name is written with
abbrev pub field_by : List ℕ → MemberKind → Option TypeExpr
field_by name (Field cs_type other initial) = if bytes_eq other.name name then Some cs_type else None
field_by name _ = None

-- the first of these among members
abbrev pub field_written : List Member → List ℕ → Option TypeExpr
field_written [] name = None
field_written (one ∷ others) name = option_or (field_by name one.kind) (field_written others name)

-- whether a part of a value is this text
abbrev pub part_says : List ℕ → ValuePart → Bool
part_says text (part.Literal said) = bytes_eq said text
part_says text (part.Shown shown) = false

-- whether a value is one part that is this text
abbrev pub says : List ℕ → List ValuePart → Bool
says text [] = false
says text (first ∷ []) = part_says text first
says text (first ∷ second ∷ rest) = false
