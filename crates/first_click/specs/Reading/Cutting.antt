-- How the piece that stands first is cut off.
use Rattle.std.specs.Prelude.{◌≡◌, ℕ, false, true, List, [], Option, Some, None, codes, if◌then◌else◌}
use Rattle.std.specs.Str.{bytes_eq}
use Rattle.first_click.specs.declared.characters.Class.TheVariants as class
use Rattle.first_click.specs.declared.pieces.PieceKind.TheVariants.{Open, Close, Literal, Shown}
use Rattle.first_click.specs.Options.{◌>>=◌}
use Rattle.first_click.specs.Characters.{begins_with, ends_with}
use Rattle.first_click.specs.Pieces.{Piece, Moment, Stands, onclick, end_of_tag}
use Rattle.first_click.specs.Walks.{Walk}
use Rattle.first_click.specs.Reading.Runs.{run_at, strip}

-- behind this front, or else otherwise
abbrev pub behind : {A : Type 0} → Option (List ℕ) → (List ℕ → A) → A → A
behind (Some rest) found otherwise = found rest
behind None found otherwise = otherwise

-- the rest of a start tag that names a method, from behind its own name on
unfoldable pub handled_at : List ℕ → List ℕ → Option (Piece × Moment)
handled_at name text = do
  inside ← strip onclick text
  method ← run_at class.Letter inside
  rest ← strip end_of_tag method.1
  Some ((Open, name, method.0), (false, rest))

-- the rest of a start tag, from behind its name on
unfoldable pub opened_at : List ℕ → List ℕ → Option (Piece × Moment)
opened_at name text = behind (strip (codes ">") text) (λ rest. Some ((Open, name, []), (false, rest))) (handled_at name text)

-- the rest of a start tag, from its name on
unfoldable pub open_at : List ℕ → Option (Piece × Moment)
open_at text = run_at class.Lower text >>= λ name. opened_at name.0 name.1

-- the rest of an end tag, from its name on
unfoldable pub close_at : List ℕ → Option (Piece × Moment)
close_at text = do
  name ← run_at class.Lower text
  rest ← strip (codes ">") name.1
  Some ((Close, name.0, []), (false, rest))

-- a shown field, from its name on
unfoldable pub shown_at : List ℕ → Option (Piece × Moment)
shown_at text =
    run_at class.Letter text
    >>= λ name. if bytes_eq name.0 (codes "code") then None
    else if begins_with class.Continuing name.1 then None
    else Some ((Shown, name.0, []), (true, name.1))

-- a literal text, as long as it goes
unfoldable pub literal_at : List ℕ → Option (Piece × Moment)
literal_at text = do
  run ← run_at class.Literal text
  Some ((Literal, run.0, []), (ends_with class.Word run.0, run.1))

-- the piece that stands first, and the moment behind it
unfoldable pub piece_at : Moment → Option (Piece × Moment)
piece_at at =
    behind (strip (codes "</") at.1) close_at
    (behind (strip (codes "<") at.1) open_at
    (behind (strip (codes "@") at.1) (λ rest. if at.0 then None else shown_at rest)
    (literal_at at.1)))

-- pieces from the front of a text on, up to a moment at which none stands
pub record CutsUp (text : List ℕ) (pieces : List Piece) (end : Moment) : Type 0 where
  pub walk : Walk Stands (false, text) pieces end
  pub stops : piece_at end ≡ None
