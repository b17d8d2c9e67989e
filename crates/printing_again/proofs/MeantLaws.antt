-- The pieces that printed parts are meant to be, part by part.
use Rattle.std.proofs.Common.{◌≡◌, ℕ, List, [], ◌∷◌, ◌++◌, refl, sym, ap, ◌∙◌}
use Rattle.cs_token.specs.declared.token.Token.{Token}
use Rattle.cs_token.specs.declared.token.TokenKind.{TokenKind}
use Rattle.cs_print.specs.Printed.{Kinds}
use Rattle.cs_print.proofs.LayLemmas.{Are}
use Rattle.cs_print.proofs.LayLemmas as l
use Rattle.razor_token.specs.declared.piece.Piece.{Piece}
use Rattle.razor_token.specs.declared.piece.PieceKind.{PieceKind}
use Rattle.razor_token.specs.declared.piece.PieceKind.TheVariants as k
use Rattle.razor_ast.specs.Brackets.{token_of}
use Rattle.razor_ast.specs.Pieces.{IsKind, code, codes_of}
use Rattle.razor_print.specs.Parts.{Parts, tokens}
use Rattle.razor_print.specs.Parts as parts
use Rattle.printed_pieces.specs.Meant.{Says, Mean}
use Rattle.printed_pieces.specs.Meant as m

-- the first piece
pub record First (kind : PieceKind) (later : Parts) (ps : List Piece) : Type 0 where
  pub p : Piece
  pub rest : List Piece
  pub split : p ∷ rest ≡ ps
  pub is : IsKind kind p
  pub mean : Mean later rest

pub first-piece : (kind : PieceKind) (x : List ℕ) (later : Parts) (ps : List Piece) → Mean (parts.piece kind x ∷ later) ps → First kind later ps
first-piece _ _ _ _ (m.piece kind x p later ps is mean) = record { p = p; rest = ps; split = refl; is = is; mean = mean }

pub first-token : (kind : TokenKind) (later : Parts) (ps : List Piece) → Mean (parts.token kind ∷ later) ps → First (k.Code kind) later ps
first-token _ _ _ (m.token kind p later ps is mean) = record { p = p; rest = ps; split = refl; is = is; mean = mean }

-- the token that a piece is
pub piece-is : (p : Piece) (kind : TokenKind) → IsKind (k.Code kind) p → code (token_of p kind) ≡ p
piece-is p kind is = ap (λ (z : PieceKind). record { kind = z; start = p.start; end = p.end; place = p.place }) (sym is)

-- tokens, and what is behind them
pub record Tokens (ks : Kinds) (later : Parts) (ps : List Piece) : Type 0 where
  pub ts : List Token
  pub rest : List Piece
  pub split : codes_of ts ++ rest ≡ ps
  pub are : Are ks ts []
  pub mean : Mean later rest

pub first-tokens : (ks : Kinds) (later : Parts) (ps : List Piece) → Mean (tokens ks ++ later) ps → Tokens ks later ps
first-tokens [] later ps h = record { ts = []; rest = ps; split = refl; are = l.nil []; mean = h }
first-tokens (kind ∷ ks) later ps h =
    let one = first-token kind (tokens ks ++ later) ps h in
    let more = first-tokens ks later one.rest one.mean in
    record {
      ts = token_of one.p kind ∷ more.ts;
      rest = more.rest;
      split = ap (λ z. z ∷ (codes_of more.ts ++ more.rest)) (piece-is one.p kind one.is) ∙ ap (λ z. one.p ∷ z) more.split ∙ one.split;
      are = l.cons kind (token_of one.p kind) ks more.ts [] refl more.are;
      mean = more.mean;
    }
