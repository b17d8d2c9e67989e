-- How a run of characters, or a fixed front, is read.
use Rattle.std.specs.Prelude.{ℕ, List, [], ◌∷◌, length, take, drop, Option, Some, None, if◌then◌else◌, ◌==◌}
use Rattle.std.specs.Str.{bytes_eq}
use Rattle.first_click.specs.declared.characters.Class.{Class}
use Rattle.first_click.specs.Characters.{is_in}

-- the longest front of a class
abbrev pub front : Class → List ℕ → List ℕ
front class [] = []
front class (c ∷ text) = if is_in class c then c ∷ front class text else []

-- what stands behind it
abbrev pub past : Class → List ℕ → List ℕ
past class [] = []
past class (c ∷ text) = if is_in class c then past class text else c ∷ text

-- both, where the front isn't empty
unfoldable pub run_at : Class → List ℕ → Option (List ℕ × List ℕ)
run_at class text = if length (front class text) == 0 then None else Some (front class text, past class text)

-- what stands behind this front
unfoldable pub strip : List ℕ → List ℕ → Option (List ℕ)
strip begin text = if bytes_eq (take (length begin) text) begin then Some (drop (length begin) text) else None
