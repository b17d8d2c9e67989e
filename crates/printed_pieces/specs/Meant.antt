-- Which pieces the parts of printed text are meant to be.
use Rattle.std.specs.Prelude.{ℕ, List, [], ◌∷◌, ◌++◌, Option, Some}
use Rattle.cs_ast.specs.declared.expression.Expr.{Expr}
use Rattle.cs_token.specs.declared.token.TokenKind.{TokenKind}
use Rattle.razor_token.specs.declared.piece.Piece.{Piece}
use Rattle.razor_token.specs.declared.piece.PieceKind.{PieceKind}
use Rattle.razor_token.specs.declared.piece.PieceKind.TheVariants as k
use Rattle.razor_token.specs.declared.piece.Quote.{Quote}
use Rattle.razor_ast.specs.Pieces.{IsKind}
use Rattle.razor_print.specs.Parts.{Part, Parts}
use Rattle.razor_print.specs.Parts as parts

-- literal pieces that say this text together
pub data Says : List ℕ → List Piece → Type 0 where
  nothing : Says [] []
  more : (x text : List ℕ) (p : Piece) (ps : List Piece) → IsKind (k.Literal x) p → Says text ps → Says (x ++ text) (p ∷ ps)

-- the pieces are what the parts are meant to be; a comment is meant to be none that counts
pub data Mean : Parts → List Piece → Type 0 where
  no_part : Mean [] []
  piece : (kind : PieceKind) (x : List ℕ) (p : Piece) (xs : Parts) (ps : List Piece) → IsKind kind p → Mean xs ps → Mean (parts.piece kind x ∷ xs) (p ∷ ps)
  token : (kind : TokenKind) (p : Piece) (xs : Parts) (ps : List Piece) → IsKind (k.Code kind) p → Mean xs ps → Mean (parts.token kind ∷ xs) (p ∷ ps)
  said : (text : List ℕ) (xs : Parts) (us ps : List Piece) → Says text us → Mean xs ps → Mean (parts.said text ∷ xs) (us ++ ps)
  verbatim : (text : List ℕ) (xs : Parts) (us ps : List Piece) → Says text us → Mean xs ps → Mean (parts.verbatim text ∷ xs) (us ++ ps)
  supplied : (quote : Quote) (text : List ℕ) (a : Option Expr) (v e : Piece) (xs : Parts) (us ps : List Piece) →
      IsKind (k.ValueStart (Some quote)) v → Says text us → IsKind k.ValueEnd e → Mean xs ps →
      Mean (parts.supplied quote text a ∷ xs) (v ∷ (us ++ e ∷ ps))
  apart : (xs : Parts) (ps : List Piece) → Mean xs ps → Mean (parts.apart ∷ xs) ps
