-- What is said of the text of a printed component.
use Rattle.std.specs.Prelude.{ℕ, List}
use Rattle.razor_token.specs.declared.piece.Piece.{Piece}
use Rattle.razor_token.specs.Cutting.{Cuts}
use Rattle.razor_ast.specs.Pieces.{counted}
use Rattle.razor_print.specs.Parts.{Parts}
use Rattle.printed_pieces.specs.Meant.{Mean}

-- the text is cut into pieces, of which those that count are what the parts are meant to be
pub record IsCutInto (text : List ℕ) (parts : Parts) : Type 0 where
  pub pieces : List Piece
  pub cut : Cuts text pieces
  pub mean : Mean parts (counted pieces)
