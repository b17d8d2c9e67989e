-- The handlers of clicks that start tags name, and their ids.
use Rattle.std.specs.Prelude.{ℕ, ◌+◌, ◌==◌, List, [], ◌∷◌, length, Option, Some, None, if◌then◌else◌}
use Rattle.first_click.specs.declared.component.Method.{Method}
use Rattle.first_click.specs.declared.parts.Part.{Part}
use Rattle.first_click.specs.declared.parts.Part.TheVariants as part
use Rattle.first_click.specs.declared.pieces.PieceKind.TheVariants.{Open, Close, Literal, Shown}
use Rattle.first_click.specs.Options.{◌>>=◌}
use Rattle.first_click.specs.Pieces.{Piece}
use Rattle.first_click.specs.Positions.{position_from}

-- the position of the method with this name
abbrev pub method_number : List Method → List ℕ → Option ℕ
method_number methods name = position_from (λ (method : Method). method.name) 0 methods name

-- a piece as a part of a tree, a start tag with this handler
abbrev pub part_of : Piece → Option ℕ → Part
part_of (Open, name, method) handler = part.Start name handler
part_of (Close, name, method) handler = part.End name
part_of (Literal, text, method) handler = part.Literal text
part_of (Shown, name, method) handler = part.Shown name

-- pieces as parts, behind so many handlers: each piece that names a method has a handler, with the next id
abbrev pub parts_behind : ℕ → List Piece → List Part
parts_behind count [] = []
parts_behind count (piece ∷ pieces) =
    if length piece.2 == 0
    then part_of piece None ∷ parts_behind count pieces
    else part_of piece (Some (count + 1)) ∷ parts_behind (count + 1) pieces

-- the positions of the methods that pieces name, in order, if there are such methods
abbrev pub handlers_of : List Method → List Piece → Option (List ℕ)
handlers_of methods [] = Some []
handlers_of methods (piece ∷ pieces) =
    if length piece.2 == 0
    then handlers_of methods pieces
    else (method_number methods piece.2 >>= λ number. (handlers_of methods pieces >>= λ numbers. Some (number ∷ numbers)))
