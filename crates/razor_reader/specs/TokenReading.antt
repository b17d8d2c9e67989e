-- How tokens are taken out of pieces of code.
use Rattle.std.specs.Prelude.{Bool, if◌then◌else◌, List, [], ◌∷◌, Option, Some, None, option_map}
use Rattle.cs_token.specs.declared.token.Token.{Token}
use Rattle.cs_token.specs.declared.token.TokenKind.{TokenKind}
use Rattle.razor_token.specs.declared.piece.Piece.{Piece}
use Rattle.razor_ast.specs.Brackets.{Split, token_of, code_of, with_token, in_brackets}
use Rattle.razor_reader.specs.declared.mark.Mark.{Mark}
use Rattle.razor_reader.specs.declared.mark.Mark.TheVariants as m
use Rattle.razor_reader.specs.Marks.{is_token}
use Rattle.razor_reader.specs.Reading.{Read, ◌>>=◌, after}

-- one token more, if the piece is one
abbrev pub with_code : Option TokenKind → Piece → List Piece → List Token × List Piece → List Token × List Piece
with_code (Some kind) p ps run = (token_of p kind ∷ run.0, run.1)
with_code None p ps run = ([], p ∷ ps)

-- the tokens that the pieces of code at the front are, and the pieces behind them
abbrev pub code_run : List Piece → List Token × List Piece
code_run [] = ([], [])
code_run (p ∷ ps) = with_code (code_of p.kind) p ps (code_run ps)

-- the same up to and with the first of a mark
abbrev pub code_to_from : Mark → Option TokenKind → Piece → List Piece → Split → Split
code_to_from mark None p ps more = None
code_to_from mark (Some kind) p ps more = if is_token mark kind then Some (token_of p kind ∷ [], ps) else with_token (token_of p kind) more

abbrev pub code_to : Mark → List Piece → Split
code_to mark [] = None
code_to mark (p ∷ ps) = code_to_from mark (code_of p.kind) p ps (code_to mark ps)

-- the tokens in round brackets
abbrev pub round : List Piece → Read (List Token)
round ps = after m.OpenRound ps >>= λ us. (in_brackets us 0 >>= λ x. (after m.CloseRound x.1 >>= λ rest. Some (x.0, rest)))

-- the tokens before the last, which has this mark
abbrev pub before_last : Mark → List Token → Option (List Token)
before_last mark [] = None
before_last mark (t ∷ []) = if is_token mark t.kind then Some [] else None
before_last mark (t ∷ u ∷ ts) = option_map (λ inner. t ∷ inner) (before_last mark (u ∷ ts))

-- the tokens between the first and the last, which have these marks
abbrev pub between : Mark → Mark → List Token → Option (List Token)
between open_mark close_mark [] = None
between open_mark close_mark (t ∷ ts) = if is_token open_mark t.kind then before_last close_mark ts else None
