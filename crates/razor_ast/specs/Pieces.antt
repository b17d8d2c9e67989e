-- What a single piece is, and which pieces count for the grammar.
use Rattle.std.specs.Prelude.{◌≡◌, Bool, true, false, List, filter, map}
use Rattle.cs_token.specs.declared.token.Token.{Token}
use Rattle.cs_token.specs.declared.token.TokenKind.TheVariants as t
use Rattle.cs_token.specs.declared.token.Sign.{Sign}
use Rattle.cs_token.specs.declared.token.Word.{Word}
use Rattle.razor_token.specs.declared.piece.Piece.{Piece}
use Rattle.razor_token.specs.declared.piece.PieceKind.{PieceKind}
use Rattle.razor_token.specs.declared.piece.PieceKind.TheVariants as k

-- all but comments, and white space between tokens of code
abbrev pub is_counted : PieceKind → Bool
is_counted k.Comment = false
is_counted k.Gap = false
is_counted _ = true

-- the pieces that count
abbrev pub counted : List Piece → List Piece
counted = filter (λ p. is_counted p.kind)

-- a piece of this kind
abbrev pub IsKind : PieceKind → Piece → Type 0
IsKind kind p = p.kind ≡ kind

-- this sign of code
abbrev pub IsSign : Sign → Piece → Type 0
IsSign sign p = p.kind ≡ k.Code (t.Sign sign)

-- this word of code that is no name
abbrev pub IsWord : Word → Piece → Type 0
IsWord word p = p.kind ≡ k.Code (t.Word word)

-- the piece that a token is
abbrev pub code : Token → Piece
code token = record { kind = k.Code token.kind; start = token.start; end = token.end; place = token.place }

-- the pieces that tokens are
abbrev pub codes_of : List Token → List Piece
codes_of = map code
