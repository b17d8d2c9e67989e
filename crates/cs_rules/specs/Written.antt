-- Types as they are written, and records.
use Rattle.std.specs.Prelude.{ℕ, zero, suc, ◌+◌, List, [], ◌∷◌, length, Bool, true, false, if◌then◌else◌, Option, Some, None, is_some, bytes_eq}
use Rattle.std.specs.List.{list_all}
use Rattle.text_core.specs.declared.place.Place.{Place}
use Rattle.cs_ast.specs.declared.cs_type.CsType.{CsType}
use Rattle.cs_ast.specs.declared.cs_type.CsType.TheVariants as t
use Rattle.cs_ast.specs.declared.cs_type.TypeExpr.{TypeExpr}
use Rattle.cs_ast.specs.declared.cs_type.TypeKind.TheOpen.{TypeKind-F}
use Rattle.cs_ast.specs.declared.cs_type.TypeKind.TheFolds.{fold-TypeExpr}
use Rattle.cs_ast.specs.declared.member.Argument.{Argument}
use Rattle.cs_ast.specs.declared.member.Member.{Member}
use Rattle.cs_ast.specs.declared.member.MemberKind.{MemberKind}
use Rattle.cs_ast.specs.declared.member.MemberKind.TheVariants.{RecordDef}
use Rattle.cs_rules.specs.declared.rule.Rule.TheVariants.{UnknownType}
use Rattle.cs_rules.specs.Judged.{Judged, fine, breaks}

-- the type of one level of what is written
abbrev pub type_of_level : TypeKind-F CsType CsType → CsType
type_of_level TypeKind-F.Int = t.Int
type_of_level TypeKind-F.Bool = t.Bool
type_of_level TypeKind-F.Text = t.Text
type_of_level (TypeKind-F.Named name) = t.Rec name
type_of_level (TypeKind-F.List item) = t.List item
type_of_level (TypeKind-F.Callback argument) = t.Callback argument
type_of_level (TypeKind-F.Fragment argument) = t.Fragment argument
type_of_level TypeKind-F.Change = t.Change
type_of_level TypeKind-F.Args = t.Args

-- the type that is written
unfoldable pub type_of : TypeExpr → CsType
type_of = fold-TypeExpr CsType CsType type_of_level (λ written. written.kind)

-- the parts of a record with this name
abbrev pub parts_of : List ℕ → MemberKind → Option (List Argument)
parts_of name (RecordDef other parts) = if bytes_eq other.name name then Some parts else None
parts_of name _ = None

-- a record: its place among the records, which is its number, and its parts
pub record Declared : Type 0 where
  pub number : ℕ
  pub parts : List Argument

-- the one found here, or else what is found further on
abbrev pub found_or : ℕ → Option (List Argument) → Option Declared → Option Declared
found_or number (Some parts) further = Some (record { number = number; parts = parts })
found_or number None further = further

-- the first record of this name, counted from a number on
abbrev pub record_from : ℕ → List ℕ → List Member → Option Declared
record_from number name [] = None
record_from number name (one ∷ others) = found_or number (parts_of name one.kind) (record_from (number + 1) name others)

unfoldable pub record_named : List Member → List ℕ → Option Declared
record_named records name = record_from 0 name records

-- where a type that values of fields, locals and parts may have is none: it names no record, or is for parameters or handlers alone
abbrev pub unknown_level : List Member → TypeKind-F (Place → Option Place) (Option Place) → Place → Option Place
unknown_level records TypeKind-F.Int place = None
unknown_level records TypeKind-F.Bool place = None
unknown_level records TypeKind-F.Text place = None
unknown_level records (TypeKind-F.Named name) place = if is_some (record_named records name) then None else Some place
unknown_level records (TypeKind-F.List item) place = item
unknown_level records _ place = Some place

unfoldable pub unknown_in : List Member → TypeExpr → Option Place
unknown_in records = fold-TypeExpr (Place → Option Place) (Option Place) (unknown_level records) (λ written. written.kind written.place)

-- the type that is written, where it is one of these
abbrev pub known_type : Option Place → CsType → Judged CsType
known_type (Some place) cs_type = breaks UnknownType place
known_type None cs_type = fine cs_type

unfoldable pub written : List Member → TypeExpr → Judged CsType
written records cs_type = known_type (unknown_in records cs_type) (type_of cs_type)

-- whether all parts of a record pass
abbrev pub all_parts : (CsType → Bool) → Option Declared → Bool
all_parts passes (Some found) = list_all (λ part. passes (type_of part.cs_type)) found.parts
all_parts passes None = false

-- the types that are compared by their values, looking so deep into records: numbers, truth values, texts, and records without lists
abbrev pub compares : ℕ → List Member → CsType → Bool
compares zero records cs_type = false
compares (suc depth) records t.Int = true
compares (suc depth) records t.Bool = true
compares (suc depth) records t.Text = true
compares (suc depth) records (t.Rec name) = all_parts (compares depth records) (record_named records name)
compares (suc depth) records _ = false

-- records that are no part of themselves are less deep than there are records
unfoldable pub is_comparable : List Member → CsType → Bool
is_comparable records cs_type = compares (length records + 1) records cs_type
