-- How a run of characters, or a fixed front, is read.
use Rattle.std.specs.Prelude.{ℕ, List, [], ◌∷◌, length, take, drop, Option, Some, None, if◌then◌else◌}
use Rattle.std.specs.Str.{bytes_eq}
use Rattle.cs_token.specs.declared.characters.Class.{Class}
use Rattle.cs_token.specs.Characters.{is_in}

-- the longest front of a class
abbrev pub front : Class → List ℕ → List ℕ
front class [] = []
front class (c ∷ text) = if is_in class c then c ∷ front class text else []

-- what stands behind it
abbrev pub past : Class → List ℕ → List ℕ
past class [] = []
past class (c ∷ text) = if is_in class c then past class text else c ∷ text

-- what stands behind this front
unfoldable pub strip : List ℕ → List ℕ → Option (List ℕ)
strip begin text = if bytes_eq (take (length begin) text) begin then Some (drop (length begin) text) else None
