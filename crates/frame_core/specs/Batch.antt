-- What a batch says.
use Rattle.std.specs.Prelude.{ℕ, List, length}
use Rattle.std.specs.List.{flat_map}
use Rattle.frame_core.specs.declared.batch.EditList.{EditList}
use Rattle.frame_core.specs.declared.edit.Edit.{Edit}

-- lists of edits, and the numbers of the components and the ids of the handlers that go
pub record Changes : Type 0 where
  pub lists : List EditList
  pub components : List ℕ
  pub handlers : List ℕ

-- the edits of all lists, in the order in which they act
abbrev pub edits_of : List EditList → List Edit
edits_of lists = flat_map (λ list. list.edits) lists

-- how many these are
abbrev pub edits_within : List EditList → ℕ
edits_within lists = length (edits_of lists)
