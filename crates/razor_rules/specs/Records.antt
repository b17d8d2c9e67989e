-- Records that contain themselves.
use Rattle.std.specs.Prelude.{◌≡◌, ◌↔◌, IsTrue, ℕ, Bool, true, false, List, [], Option, Some, None, bytes_eq}
use Rattle.std.specs.List.{list_any}
use Rattle.cs_ast.specs.declared.cs_type.CsType.{CsType}
use Rattle.cs_ast.specs.declared.cs_type.CsType.TheOpen.{CsType-F}
use Rattle.cs_ast.specs.declared.cs_type.CsType.TheFolds.{fold-CsType}
use Rattle.cs_ast.specs.declared.member.Argument.{Argument}
use Rattle.cs_ast.specs.declared.member.Member.{Member}
use Rattle.cs_rules.specs.Written.{type_of, Declared, record_named}

-- the record that values of a type hold, if they hold one: the record that it is, or that of the items of a list
abbrev pub held_level : CsType-F (Option (List ℕ)) → Option (List ℕ)
held_level (CsType-F.Rec name) = Some name
held_level (CsType-F.List item) = item
held_level _ = None

unfoldable pub held_record : CsType → Option (List ℕ)
held_record = fold-CsType (Option (List ℕ)) held_level

abbrev pub parts_declared : Option Declared → List Argument
parts_declared None = []
parts_declared (Some found) = found.parts

abbrev pub is_named : List ℕ → Option (List ℕ) → Bool
is_named name None = false
is_named name (Some held) = bytes_eq held name

-- whether the record of a name has a part that holds another
unfoldable pub has_part : List Member → List ℕ → List ℕ → Bool
has_part records other name = list_any (λ part. is_named other (held_record (type_of part.cs_type))) (parts_declared (record_named records name))

-- a record contains another where it has a part that holds it, or one that holds a record which contains it
pub data Holds (records : List Member) (other : List ℕ) : List ℕ → Type 0 where
  itself : (name : List ℕ) → has_part records other name ≡ true → Holds records other name
  through : (name part : List ℕ) → has_part records part name ≡ true → Holds records other part → Holds records other name

-- it is told of each name whether the record of that name contains itself
abbrev pub IsCircular : List Member → (List ℕ → Bool) → Type 0
IsCircular records circular = (name : List ℕ) → IsTrue (circular name) ↔ Holds records name name
