-- Code in brackets.
use Rattle.std.specs.Prelude.{◌≡◌, ℕ, zero, suc, ◌+◌, List, [], ◌∷◌, Option, Some, None, option_map, if◌then◌else◌}
use Rattle.cs_token.specs.declared.token.Token.{Token}
use Rattle.cs_token.specs.declared.token.TokenKind.{TokenKind}
use Rattle.cs_token.specs.declared.token.TokenKind.TheVariants as t
use Rattle.cs_token.specs.declared.token.Sign.{Sign}
use Rattle.cs_token.specs.declared.token.Sign.TheVariants as s
use Rattle.cs_grammar.specs.Nesting.{opens, closes}
use Rattle.razor_token.specs.declared.piece.Piece.{Piece}
use Rattle.razor_token.specs.declared.piece.PieceKind.{PieceKind}
use Rattle.razor_token.specs.declared.piece.PieceKind.TheVariants as k
use Rattle.razor_ast.specs.Pieces.{IsSign}

-- the token that a piece is
abbrev pub token_of : Piece → TokenKind → Token
token_of p kind = record { kind = kind; start = p.start; end = p.end; place = p.place }

-- one less, if there is one
abbrev pub before : ℕ → Option ℕ
before zero = None
before (suc n) = Some n

-- tokens, and the pieces behind them
abbrev pub Split : Type 0
Split = Option (List Token × List Piece)

-- one token more before them
abbrev pub with_token : Token → Split → Split
with_token token split = option_map (λ x. (token ∷ x.0, x.1)) split

-- the token of code that a piece is
abbrev pub code_of : PieceKind → Option TokenKind
code_of (k.Code kind) = Some kind
code_of _ = None

-- how many brackets are open behind a sign, or none where it closes one more than are open
abbrev pub count_behind_sign : Sign → ℕ → Option ℕ
count_behind_sign sign count = if opens sign then Some (count + 1) else if closes sign then before count else Some count

-- the same behind any token
abbrev pub count_behind : TokenKind → ℕ → Option ℕ
count_behind (t.Sign sign) count = count_behind_sign sign count
count_behind _ count = Some count

-- the tokens up to a bracket that closes one more than are open, and the pieces from that bracket on
abbrev pub in_brackets : List Piece → ℕ → Split
in_brackets [] count = None
in_brackets (p ∷ ps) count = elim (code_of p.kind) [
  | None ↦ None
  | Some kind ↦ elim (count_behind kind count) [ None ↦ Some ([], p ∷ ps) | Some n ↦ with_token (token_of p kind) (in_brackets ps n) ]
]

-- `(`, these tokens and its `)`, with these pieces behind it
pub data Round : List Piece → List Token → List Piece → Type 0 where
  round : (o c : Piece) (ps rest : List Piece) (ts : List Token) →
      IsSign s.OpenRound o → in_brackets ps 0 ≡ Some (ts, c ∷ rest) → IsSign s.CloseRound c → Round (o ∷ ps) ts rest
