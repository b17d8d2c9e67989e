-- What the answers for a text say.
use Rattle.std.specs.Prelude.{◌≡◌, ℕ, ◌+◌, List, [], ◌∷◌, ◌++◌, length}
use Rattle.text_core.specs.declared.place.Place.{Place}
use Rattle.cs_token.specs.Places.{place_after}
use Rattle.razor_token.specs.declared.fault.RazorFault.{RazorFault}
use Rattle.razor_token.specs.declared.fault.RazorFault.TheVariants as fault
use Rattle.razor_token.specs.declared.piece.Piece.{Piece}
use Rattle.razor_token.specs.Cutting.{Cuts}

-- the place of a character of the text, or of its end
pub record IsPlaceIn (text : List ℕ) (place : Place) : Type 0 where
  pub before : List ℕ
  pub rest : List ℕ
  pub laid : text ≡ before ++ rest
  pub here : place ≡ place_after before

-- the text is cut into no pieces
pub record IsUncut (text : List ℕ) (place : Place) : Type 0 where
  pub uncut : (pieces : List Piece) → Cuts text pieces → ⊥
  pub here : IsPlaceIn text place

-- what a fault says of a text; of want of memory nothing
abbrev pub Explains : List ℕ → RazorFault → Type 0
Explains text (fault.Syntax place) = IsUncut text place
Explains text fault.Oom = Unit {0}

-- from this number of characters on, the pieces are slices of this text, one right behind another, to its end
pub data Cover : ℕ → List ℕ → List Piece → Type 0 where
  no_piece : (at : ℕ) → Cover at [] []
  one_piece : (at : ℕ) (here rest : List ℕ) (piece : Piece) (pieces : List Piece) →
      piece.start ≡ at → piece.end ≡ at + length here → Cover piece.end rest pieces → Cover at (here ++ rest) (piece ∷ pieces)
