-- What is known of each piece of a text, wherever it stands.
use Rattle.std.specs.Prelude.{List, [], ◌∷◌}
use Rattle.razor_token.specs.declared.piece.Piece.{Piece}
use Rattle.razor_token.specs.declared.piece.PieceKind.{PieceKind}
use Rattle.razor_token.specs.declared.piece.PieceKind.TheVariants as k
use Rattle.printed_pieces.specs.Names.{IsTagName, IsAttributeName}
use Rattle.printed_pieces.specs.Written.{IsLexeme}

-- a token is one that a text can have, and names are written as such names are
abbrev pub IsSound : PieceKind → Type 0
IsSound (k.Code kind) = IsLexeme kind
IsSound (k.TagStart name) = IsTagName name
IsSound (k.EndTagStart name) = IsTagName name
IsSound (k.AttributeName name) = IsAttributeName name
IsSound _ = Unit {0}

-- each of the pieces is so
pub data AreSound : List Piece → Type 0 where
  none : AreSound []
  one_more : (p : Piece) (ps : List Piece) → IsSound p.kind → AreSound ps → AreSound (p ∷ ps)
