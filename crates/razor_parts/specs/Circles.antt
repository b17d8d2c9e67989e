-- How it is found which records contain themselves: marks that go from a record to those that its parts hold. No part of what is promised.
use Rattle.std.specs.Prelude.{◌↔◌, IsTrue, ℕ, ◌+◌, Bool, true, false, List, [], ◌∷◌, Option, Some, None, slice_get, slice_set}
use Rattle.std.specs.List.{list_any}
use Rattle.cs_ast.specs.declared.member.Argument.{Argument}
use Rattle.cs_ast.specs.declared.member.Member.{Member}
use Rattle.cs_ast.specs.declared.member.MemberKind.{MemberKind}
use Rattle.cs_ast.specs.declared.member.MemberKind.TheVariants.{RecordDef}
use Rattle.cs_rules.specs.Written.{type_of, Declared, record_named}
use Rattle.razor_rules.specs.Names.{is_among}
use Rattle.razor_rules.specs.Records.{held_record, is_named, Holds}
use Rattle.razor_parts.specs.declared.circles.Mark.{Mark}
use Rattle.razor_parts.specs.declared.circles.Mark.TheVariants.{Clear, Waiting, Passed}

abbrev pub is_waiting : Mark → Bool
is_waiting Waiting = true
is_waiting _ = false

abbrev pub is_clear : Mark → Bool
is_clear Clear = true
is_clear _ = false

-- how often a mark may change yet
abbrev pub weight : Mark → ℕ
weight Clear = 2
weight Waiting = 1
weight Passed = 0

abbrev pub weights : List Mark → ℕ
weights [] = 0
weights (mark ∷ marks) = weight mark + weights marks

abbrev pub marked_if : Option Mark → List Mark → ℕ → List Mark
marked_if (Some Clear) marks at = slice_set marks at Waiting
marked_if _ marks at = marks

-- the record at a place is marked, if it is clear
abbrev pub marked_at : List Mark → ℕ → List Mark
marked_at marks at = marked_if (slice_get marks at) marks at

abbrev pub marked_found : Option Declared → List Mark → List Mark
marked_found None marks = marks
marked_found (Some found) marks = marked_at marks found.number

-- the record of a name is marked
unfoldable pub marked : List Member → List ℕ → List Mark → List Mark
marked records name marks = marked_found (record_named records name) marks

-- the record that a part holds is marked, if it holds one
abbrev pub marked_by : List Member → Option (List ℕ) → List Mark → List Mark
marked_by records None marks = marks
marked_by records (Some name) marks = marked records name marks

abbrev pub marked_all : List Member → List Argument → List Mark → List Mark
marked_all records [] marks = marks
marked_all records (part ∷ parts) marks = marked_all records parts (marked_by records (held_record (type_of part.cs_type)) marks)

-- whether one of these parts holds the record of a name
abbrev pub holds_one : List ℕ → List Argument → Bool
holds_one name parts = list_any (λ part. is_named name (held_record (type_of part.cs_type))) parts

abbrev pub parts_of : MemberKind → List Argument
parts_of (RecordDef name parts) = parts
parts_of _ = []

abbrev pub parts_at : Option Member → List Argument
parts_at None = []
parts_at (Some member) = parts_of member.kind

-- these are the names of the records that contain themselves
abbrev pub AreCircular : List Member → List (List ℕ) → Type 0
AreCircular records names = (name : List ℕ) → IsTrue (is_among name names) ↔ Holds records name name
