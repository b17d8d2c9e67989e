-- Of which parts a text is printed, and how each is written.
use Rattle.std.specs.Prelude.{ℕ, ◌==◌, List, [], ◌∷◌, ◌++◌, map, codes, Option, Some, if◌then◌else◌}
use Rattle.std.specs.List.{flat_map}
use Rattle.cs_ast.specs.declared.expression.Expr.{Expr}
use Rattle.cs_token.specs.declared.token.TokenKind.{TokenKind}
use Rattle.cs_token.specs.declared.token.TokenKind.TheVariants as t
use Rattle.cs_token.specs.declared.token.Sign.TheVariants as s
use Rattle.cs_print.specs.Layout.{laid}
use Rattle.cs_print.specs.Printed.{Kinds}
use Rattle.razor_token.specs.declared.piece.PieceKind.{PieceKind}
use Rattle.razor_token.specs.declared.piece.PieceKind.TheVariants as k
use Rattle.razor_token.specs.declared.piece.Quote.{Quote}
use Rattle.razor_token.specs.CodeFronts.{mark}

-- A part of printed text: a piece with its characters; a token of code; literal text in which an at sign may begin something, and such
-- as is taken as it is; the text of a parameter in its quotes, with the expression that it spells; a comment of content.
pub data Part : Type 0 where
  piece : PieceKind → List ℕ → Part
  token : TokenKind → Part
  said : List ℕ → Part
  verbatim : List ℕ → Part
  supplied : Quote → List ℕ → Option Expr → Part
  apart : Part

abbrev pub Parts : Type 0
Parts = List Part

-- a character of literal text in which an at sign may begin something
abbrev pub doubled : ℕ → List ℕ
doubled c = if c == 64 then 64 ∷ 64 ∷ [] else c ∷ []

-- this behind `=` in quotes
abbrev pub in_quotes : Quote → List ℕ → List ℕ
in_quotes quote text = 61 ∷ mark quote ∷ (text ++ mark quote ∷ [])

-- how a part is written
unfoldable pub written : Part → List ℕ
written (piece kind text) = text
written (token kind) = laid kind
written (said text) = flat_map doubled text
written (verbatim text) = text
written (supplied quote text a) = in_quotes quote text
written apart = codes "@**@"

-- parts one behind another
unfoldable pub parts_text : Parts → List ℕ
parts_text = flat_map written

-- the tokens of code
abbrev pub tokens : Kinds → Parts
tokens = map token

-- a value in quotes
abbrev pub quoted : Quote → Parts → Parts
quoted quote x = piece (k.ValueStart (Some quote)) (61 ∷ mark quote ∷ []) ∷ (x ++ piece k.ValueEnd (mark quote ∷ []) ∷ [])

-- the end of an expression or of `@code`, which has no characters
abbrev pub expression_end : Part
expression_end = piece k.ExpressionEnd []

-- a brace that no blank follows
abbrev pub close_brace : Part
close_brace = piece (k.Code (t.Sign s.CloseBrace)) (125 ∷ [])

-- code in braces
abbrev pub in_block : Parts → Parts
in_block x = token (t.Sign s.OpenBrace) ∷ (x ++ close_brace ∷ [])

-- an at sign and code in round brackets
abbrev pub led : Kinds → Parts
led x =
    piece k.At (64 ∷ []) ∷ piece (k.Code (t.Sign s.OpenRound)) (40 ∷ [])
    ∷ (tokens x ++ piece (k.Code (t.Sign s.CloseRound)) (41 ∷ []) ∷ [])

-- a content expression
abbrev pub shown : Kinds → Parts
shown x = led x ++ expression_end ∷ []
