-- The parts of pieces, and their handlers.
use Rattle.std.proofs.Common.{◌≡◌, ℕ, ◌+◌, true, false, List, [], ◌∷◌, ◌++◌, length, Some, None, refl, ap, append_assoc, eqb}
use Rattle.std.specs.declared.option.Option.{Option}
use Rattle.first_click.specs.declared.component.Method.{Method}
use Rattle.first_click.specs.declared.parts.Part.{Part}
use Rattle.first_click.specs.Handlers.{method_number, part_of, parts_behind, handlers_of}
use Rattle.first_click.specs.Options.{◌>>=◌}
use Rattle.first_click.specs.Pieces.{Piece}
use Rattle.first_click.specs.Reading.Handlers.{with_numbers}

-- a piece that names no method

pub part-plain : (front : List Part) (count : ℕ) (piece : Piece) (pieces : List Piece) → eqb (length piece.2) 0 ≡ true
    → (front ++ part_of piece None ∷ []) ++ parts_behind count pieces ≡ front ++ parts_behind count (piece ∷ pieces)
part-plain front count piece pieces e = rw e (append_assoc front (part_of piece None ∷ []) (parts_behind count pieces))

pub handlers-plain : (methods : List Method) (piece : Piece) (pieces : List Piece) → eqb (length piece.2) 0 ≡ true → handlers_of methods (piece ∷ pieces) ≡ handlers_of methods pieces
handlers-plain methods piece pieces e = rw e refl

-- a piece that names one

pub part-handled : (front : List Part) (count : ℕ) (piece : Piece) (pieces : List Piece) → eqb (length piece.2) 0 ≡ false
    → (front ++ part_of piece (Some (count + 1)) ∷ []) ++ parts_behind (count + 1) pieces ≡ front ++ parts_behind count (piece ∷ pieces)
part-handled front count piece pieces e = rw e (append_assoc front (part_of piece (Some (count + 1)) ∷ []) (parts_behind (count + 1) pieces))

numbers-one : (front : List ℕ) (number : ℕ) (more : Option (List ℕ)) → with_numbers (front ++ number ∷ []) more ≡ with_numbers front (more >>= λ numbers. Some (number ∷ numbers))
numbers-one front number None = refl
numbers-one front number (Some numbers) = ap Some (append_assoc front (number ∷ []) numbers)

pub handlers-handled : (methods : List Method) (front : List ℕ) (number : ℕ) (piece : Piece) (pieces : List Piece) → eqb (length piece.2) 0 ≡ false → method_number methods piece.2 ≡ Some number
    → with_numbers (front ++ number ∷ []) (handlers_of methods pieces) ≡ with_numbers front (handlers_of methods (piece ∷ pieces))
handlers-handled methods front number piece pieces e is = rw (e, is) (numbers-one front number (handlers_of methods pieces))

pub handlers-none : (methods : List Method) (front : List ℕ) (piece : Piece) (pieces : List Piece) → eqb (length piece.2) 0 ≡ false → method_number methods piece.2 ≡ None
    → with_numbers front (handlers_of methods (piece ∷ pieces)) ≡ None
handlers-none methods front piece pieces e is = rw (e, is) refl
