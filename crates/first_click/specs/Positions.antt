-- Where a list has a name.
use Rattle.std.specs.Prelude.{ℕ, ◌+◌, List, [], ◌∷◌, Option, Some, None, if◌then◌else◌}
use Rattle.std.specs.Str.{bytes_eq}

-- the position of the first with this name, counted from a number on
abbrev pub position_from : {A : Type 0} → (A → List ℕ) → ℕ → List A → List ℕ → Option ℕ
position_from name_of at [] name = None
position_from name_of at (x ∷ xs) name = if bytes_eq (name_of x) name then Some at else position_from name_of (at + 1) xs name
