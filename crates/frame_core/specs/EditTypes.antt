-- The types of edits, as numbers: those that stand in the bytes of a batch.
use Rattle.std.specs.Prelude.{ℕ, ◌==◌, List, length}
use Rattle.std.specs.List.{filter}
use Rattle.frame_core.specs.declared.edit.Edit.{Edit}
use Rattle.frame_core.specs.declared.edit.Edit.TheVariants.{Prepend, Remove, Set, Unset, UpdateText, StepIn, StepOut, UpdateMarkup, Move, MoveEnd}

abbrev pub type_of : Edit → ℕ
type_of (Prepend sibling node) = 1
type_of (Remove sibling) = 2
type_of (Set sibling attribute) = 3
type_of (Unset sibling name) = 4
type_of (UpdateText sibling text) = 5
type_of (StepIn sibling) = 6
type_of StepOut = 7
type_of (UpdateMarkup sibling text) = 8
type_of (Move from to) = 9
type_of MoveEnd = 10

-- how many of these edits are of a type
abbrev pub of_type : ℕ → List Edit → ℕ
of_type number edits = length (filter (λ edit. type_of edit == number) edits)
