-- How comparable records are found, table by table: no part of what is promised above.
use Rattle.std.specs.Prelude.{ℕ, List, [], map, Bool, true, false, Option, Some, None, slice_get}
use Rattle.std.specs.List.{list_all}
use Rattle.cs_ast.specs.declared.cs_type.CsType.{CsType}
use Rattle.cs_ast.specs.declared.cs_type.CsType.TheVariants as t
use Rattle.cs_ast.specs.declared.member.Member.{Member}
use Rattle.cs_ast.specs.declared.member.MemberKind.{MemberKind}
use Rattle.cs_ast.specs.declared.member.MemberKind.TheVariants.{RecordDef}
use Rattle.cs_rules.specs.Written.{type_of, compares, record_named, Declared}

abbrev pub is_set : Option Bool → Bool
is_set (Some flag) = flag
is_set None = false

-- what a table says of a record
abbrev pub flag_of : List Bool → Option Declared → Bool
flag_of flags (Some found) = is_set (slice_get flags found.number)
flag_of flags None = false

-- whether values of a type are compared, by a table of the records
abbrev pub compares_by : List Bool → List Member → CsType → Bool
compares_by flags records t.Int = true
compares_by flags records t.Bool = true
compares_by flags records t.Text = true
compares_by flags records (t.Rec name) = flag_of flags (record_named records name)
compares_by flags records _ = false

-- whether all parts of a member pass, if it is a record
abbrev pub parts_pass : (CsType → Bool) → MemberKind → Bool
parts_pass passes (RecordDef name parts) = list_all (λ part. passes (type_of part.cs_type)) parts
parts_pass passes _ = false

-- whether it is a record without parts
abbrev pub has_no_parts : MemberKind → Bool
has_no_parts (RecordDef name []) = true
has_no_parts _ = false

-- the table where records are looked into so deep
unfoldable pub table : ℕ → List Member → List Bool
table depth records = map (λ one. parts_pass (compares depth records) one.kind) records
