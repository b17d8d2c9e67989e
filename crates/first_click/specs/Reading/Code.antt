-- How the block of code is found.
use Rattle.std.specs.Prelude.{ℕ, Bool, List, codes, ◌&&◌}
use Rattle.std.specs.Str.{bytes_eq}

-- the tokens round a block
abbrev pub are_braces : List ℕ → List ℕ → Bool
are_braces first last = bytes_eq first (codes "{") && bytes_eq last (codes "}")
