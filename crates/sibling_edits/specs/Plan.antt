-- The edits that are made of the places of the pairs.
use Rattle.std.specs.Prelude.{ℕ, ◌+◌, ◌==◌, if◌then◌else◌, List, [], ◌∷◌, ◌++◌, map, Option, Some, None}
use Rattle.frame_core.specs.declared.wire_node.WireNode.{WireNode}
use Rattle.frame_core.specs.declared.edit.Edit.{Edit}
use Rattle.frame_core.specs.declared.edit.Edit.TheVariants.{Prepend, Remove, Move, MoveEnd}
use Rattle.edit_meaning.specs.declared.entry.Entry.{Entry}
use Rattle.pairing_meaning.specs.Order.{list_M}

abbrev pub removals_from : ℕ → List (Option ℕ) → List Edit
removals_from place [] = []
removals_from place (None ∷ to) = Remove place ∷ removals_from place to
removals_from place (Some pair ∷ to) = removals_from (place + 1) to

abbrev pub additions_from : ℕ → List (Option ℕ) → List WireNode → List Edit
additions_from place [] wires = []
additions_from place (pair ∷ from) [] = []
additions_from place (None ∷ from) (wire ∷ wires) = Prepend place wire ∷ additions_from (place + 1) from wires
additions_from place (Some pair ∷ from) (wire ∷ wires) = additions_from (place + 1) from wires

abbrev pub entry_of : ℕ → ℕ → Entry
entry_of from to = record { from = from; to = to }

abbrev pub entries_from : ℕ → List ℕ → List Entry
entries_from place [] = []
entries_from place (belongs ∷ rest) = if belongs == place then entries_from (place + 1) rest else entry_of place belongs ∷ entries_from (place + 1) rest

abbrev pub move_of : Entry → Edit
move_of entry = Move entry.from entry.to

abbrev pub ended : List Entry → List Edit
ended [] = []
ended (entry ∷ entries) = map move_of (entry ∷ entries) ++ MoveEnd ∷ []

abbrev pub planned : List (Option ℕ) → List (Option ℕ) → List WireNode → List Edit
planned from to wires = removals_from 0 to ++ (additions_from 0 from wires ++ ended (entries_from 0 (list_M from to)))
