-- Single characters of names and texts.
use Rattle.std.specs.Prelude.{ℕ, Bool, false, ◌==◌, List, [], ◌∷◌}

-- `/`
abbrev pub is_slash : ℕ → Bool
is_slash c = c == 47

-- a line feed stands first
abbrev pub begins_feed : List ℕ → Bool
begins_feed [] = false
begins_feed (c ∷ text) = c == 10
