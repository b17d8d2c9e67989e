-- Lists of names and values, each name once, in the order of their characters.
use Rattle.std.specs.Prelude.{ℕ, List, map, Option}
use Rattle.std.specs.declared.cmp.Ordering.{Ordering}
use Rattle.std.specs.Ordering.{nat_cmp}
use Rattle.std.specs.Cmp.Lexicographic.{slice_cmp}
use Rattle.std.specs.List.Sorted.{IsStrictlySortedBy}
use Rattle.std.specs.Map.{lookup, remove_entry}
use Rattle.std.specs.BTreeMap.{is_at}

-- the order of two texts, by the first characters that differ
abbrev pub by_characters : List ℕ → List ℕ → Ordering
by_characters = slice_cmp nat_cmp

-- each name is below the next, so none is there twice
abbrev pub IsInOrder : {V : Type 0} → List (List ℕ × V) → Type 0
IsInOrder entries = IsStrictlySortedBy by_characters (map (λ entry. entry.0) entries)

-- the value of this name, if there is one
abbrev pub value_of : {V : Type 0} → List (List ℕ × V) → List ℕ → Option V
value_of entries name = lookup (is_at (by_characters name)) entries

-- without what has this name
abbrev pub without : {V : Type 0} → List (List ℕ × V) → List ℕ → List (List ℕ × V)
without entries name = remove_entry (is_at (by_characters name)) entries
