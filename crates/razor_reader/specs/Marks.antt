-- What pieces and tokens are, by marks.
use Rattle.std.specs.Prelude.{ℕ, Bool, ◌==◌}
use Rattle.cs_token.specs.declared.token.Sign.{Sign}
use Rattle.cs_token.specs.declared.token.Sign.TheVariants as s
use Rattle.cs_token.specs.declared.token.TokenKind.{TokenKind}
use Rattle.cs_token.specs.declared.token.TokenKind.TheVariants as t
use Rattle.cs_token.specs.declared.token.Word.{Word}
use Rattle.cs_token.specs.declared.token.Word.TheVariants as w
use Rattle.razor_token.specs.declared.piece.PieceKind.{PieceKind}
use Rattle.razor_token.specs.declared.piece.PieceKind.TheVariants as k
use Rattle.razor_reader.specs.declared.mark.Mark.{Mark}
use Rattle.razor_reader.specs.declared.mark.Mark.TheVariants as m

-- of a sign
unfoldable pub sign_mark : Sign → Mark
sign_mark s.OpenRound = m.OpenRound
sign_mark s.CloseRound = m.CloseRound
sign_mark s.OpenBrace = m.OpenBrace
sign_mark s.CloseBrace = m.CloseBrace
sign_mark s.Semicolon = m.Semicolon
sign_mark s.Colon = m.Colon
sign_mark s.Minus = m.Minus
sign_mark _ = m.Other

-- of a word
unfoldable pub word_mark : Word → Mark
word_mark w.Break = m.Break
word_mark w.Case = m.Case
word_mark w.Continue = m.Continue
word_mark w.Default = m.Default
word_mark w.Else = m.Else
word_mark w.False = m.False
word_mark w.For = m.For
word_mark w.Foreach = m.Foreach
word_mark w.If = m.If
word_mark w.In = m.In
word_mark w.Null = m.Null
word_mark w.Switch = m.Switch
word_mark w.True = m.True
word_mark w.Var = m.Var
word_mark w.While = m.While
word_mark _ = m.Other

-- of a token
abbrev pub token_mark : TokenKind → Mark
token_mark (t.Sign sign) = sign_mark sign
token_mark (t.Word word) = word_mark word
token_mark _ = m.Other

-- of a piece
abbrev pub mark_of : PieceKind → Mark
mark_of (k.Code kind) = token_mark kind
mark_of k.Space = m.Space
mark_of k.At = m.At
mark_of k.CodeAt = m.CodeAt
mark_of k.MembersAt = m.MembersAt
mark_of k.ExpressionEnd = m.ExpressionEnd
mark_of k.Directive = m.Directive
mark_of k.DirectiveEnd = m.DirectiveEnd
mark_of k.Implements = m.Implements
mark_of k.ValueEnd = m.ValueEnd
mark_of k.ContentStart = m.ContentStart
mark_of k.EmptyTagEnd = m.EmptyTagEnd
mark_of k.EndTagEnd = m.EndTagEnd
mark_of k.LineStart = m.LineStart
mark_of k.LineEnd = m.LineEnd
mark_of (k.ValueStart quote) = m.ValueStart
mark_of (k.TagStart name) = m.TagStart
mark_of _ = m.Other

-- a number for each mark
unfoldable pub mark_number : Mark → ℕ
mark_number m.Space = 0
mark_number m.At = 1
mark_number m.CodeAt = 2
mark_number m.MembersAt = 3
mark_number m.ExpressionEnd = 4
mark_number m.Directive = 5
mark_number m.DirectiveEnd = 6
mark_number m.Implements = 7
mark_number m.ValueEnd = 8
mark_number m.ContentStart = 9
mark_number m.EmptyTagEnd = 10
mark_number m.EndTagEnd = 11
mark_number m.LineStart = 12
mark_number m.LineEnd = 13
mark_number m.ValueStart = 14
mark_number m.TagStart = 15
mark_number m.OpenRound = 16
mark_number m.CloseRound = 17
mark_number m.OpenBrace = 18
mark_number m.CloseBrace = 19
mark_number m.Semicolon = 20
mark_number m.Colon = 21
mark_number m.Minus = 22
mark_number m.Break = 23
mark_number m.Case = 24
mark_number m.Continue = 25
mark_number m.Default = 26
mark_number m.Else = 27
mark_number m.False = 28
mark_number m.For = 29
mark_number m.Foreach = 30
mark_number m.If = 31
mark_number m.In = 32
mark_number m.Null = 33
mark_number m.Switch = 34
mark_number m.True = 35
mark_number m.Var = 36
mark_number m.While = 37
mark_number m.Other = 38

-- the piece has the mark
abbrev pub is_mark : Mark → PieceKind → Bool
is_mark mark kind = mark_number (mark_of kind) == mark_number mark

-- the token has the mark
abbrev pub is_token : Mark → TokenKind → Bool
is_token mark kind = mark_number (token_mark kind) == mark_number mark
