-- Content expressions.
use Rattle.std.specs.Prelude.{◌≡◌, ℕ, List, [], ◌∷◌, ◌++◌}
use Rattle.text_core.specs.declared.place.Place.{Place}
use Rattle.cs_ast.specs.declared.expression.Expr.{Expr}
use Rattle.cs_token.specs.declared.token.Token.{Token}
use Rattle.cs_token.specs.declared.token.TokenKind.TheVariants as t
use Rattle.cs_token.specs.declared.token.Sign.TheVariants as s
use Rattle.cs_grammar.specs.Expressions.{Spells}
use Rattle.cs_grammar.specs.Lambdas.{SpelledValue}
use Rattle.razor_token.specs.declared.piece.Piece.{Piece}
use Rattle.razor_token.specs.declared.piece.PieceKind.TheVariants as k
use Rattle.razor_ast.specs.Pieces.{IsKind, codes_of}

-- the tokens of an expression behind an at sign: in brackets, or a name and what goes on with it
pub data ShownTokens : List Token → Expr → Type 0 where
  in_round : (o c : Token) (ts : List Token) (a : Expr) →
      o.kind ≡ t.Sign s.OpenRound → SpelledValue ts a → c.kind ≡ t.Sign s.CloseRound → ShownTokens (o ∷ (ts ++ c ∷ [])) a
  named : (x : List ℕ) (p : Place) (n : Token) (ts : List Token) (a : Expr) →
      n.kind ≡ t.Name x → Spells 0 p (n ∷ ts) [] a → ShownTokens (n ∷ ts) a

-- Shown ps rest a: the pieces ps up to rest spell the content expression a.
pub data Shown : List Piece → List Piece → Expr → Type 0 where
  shown : (at end : Piece) (ts : List Token) (rest : List Piece) (a : Expr) →
      IsKind k.At at → ShownTokens ts a → IsKind k.ExpressionEnd end → Shown (at ∷ (codes_of ts ++ end ∷ rest)) rest a
