-- Permutations of siblings: entries that each take what stands at one place to another, all at once.
use Rattle.std.specs.Prelude.{ℕ, ◌+◌, ◌==◌, Bool, ◌&&◌, not, if◌then◌else◌, List, [], ◌∷◌, slice_get}
use Rattle.std.specs.Option.{unwrap_or}
use Rattle.std.specs.List.{list_any, list_all}
use Rattle.edit_meaning.specs.declared.entry.Entry.{Entry}

-- the place from which something comes to this one: itself, where no entry leads to it
abbrev pub source : List Entry → ℕ → ℕ
source [] place = place
source (entry ∷ entries) place = if entry.to == place then entry.from else source entries place

-- what comes to stand at each place, from this one on
abbrev pub placed : {X : Type 0} → List Entry → List X → ℕ → List X → List X
placed entries all place [] = []
placed entries all place (item ∷ items) = unwrap_or (slice_get all (source entries place)) item ∷ placed entries all (place + 1) items

abbrev pub moved : {X : Type 0} → List Entry → List X → List X
moved entries items = placed entries items 0 items

-- no entry has the same first place, nor the same second one
abbrev pub is_apart : Entry → List Entry → Bool
is_apart entry entries = list_all (λ other. not (other.from == entry.from) && not (other.to == entry.to)) entries

-- each first place is the second one of an entry. Where places are distinct, both sets are then the same
abbrev pub is_closed : List Entry → Bool
is_closed entries = list_all (λ entry. list_any (λ other. other.to == entry.from) entries) entries
