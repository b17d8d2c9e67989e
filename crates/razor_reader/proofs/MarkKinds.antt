-- The tokens and the pieces of marks.
use Rattle.std.proofs.Common.{◌≡◌, refl}
use Rattle.std.specs.Prelude.{Option, Some, None}
use Rattle.cs_token.specs.declared.token.Sign.TheVariants as s
use Rattle.cs_token.specs.declared.token.TokenKind.{TokenKind}
use Rattle.cs_token.specs.declared.token.TokenKind.TheVariants as t
use Rattle.cs_token.specs.declared.token.Word.TheVariants as w
use Rattle.razor_token.specs.declared.piece.PieceKind.{PieceKind}
use Rattle.razor_token.specs.declared.piece.PieceKind.TheVariants as k
use Rattle.razor_reader.specs.declared.mark.Mark.{Mark}
use Rattle.razor_reader.specs.declared.mark.Mark.TheVariants as m

-- the token of a mark
unfoldable pub token_kind : Mark → Option TokenKind
token_kind m.OpenRound = Some (t.Sign s.OpenRound)
token_kind m.CloseRound = Some (t.Sign s.CloseRound)
token_kind m.OpenBrace = Some (t.Sign s.OpenBrace)
token_kind m.CloseBrace = Some (t.Sign s.CloseBrace)
token_kind m.Semicolon = Some (t.Sign s.Semicolon)
token_kind m.Colon = Some (t.Sign s.Colon)
token_kind m.Minus = Some (t.Sign s.Minus)
token_kind m.Break = Some (t.Word w.Break)
token_kind m.Case = Some (t.Word w.Case)
token_kind m.Continue = Some (t.Word w.Continue)
token_kind m.Default = Some (t.Word w.Default)
token_kind m.Else = Some (t.Word w.Else)
token_kind m.False = Some (t.Word w.False)
token_kind m.For = Some (t.Word w.For)
token_kind m.Foreach = Some (t.Word w.Foreach)
token_kind m.If = Some (t.Word w.If)
token_kind m.In = Some (t.Word w.In)
token_kind m.Null = Some (t.Word w.Null)
token_kind m.Switch = Some (t.Word w.Switch)
token_kind m.True = Some (t.Word w.True)
token_kind m.Var = Some (t.Word w.Var)
token_kind m.While = Some (t.Word w.While)
token_kind _ = None

-- the piece of a mark
unfoldable pub piece_kind : Mark → Option PieceKind
piece_kind m.Space = Some k.Space
piece_kind m.At = Some k.At
piece_kind m.CodeAt = Some k.CodeAt
piece_kind m.MembersAt = Some k.MembersAt
piece_kind m.ExpressionEnd = Some k.ExpressionEnd
piece_kind m.Directive = Some k.Directive
piece_kind m.DirectiveEnd = Some k.DirectiveEnd
piece_kind m.Implements = Some k.Implements
piece_kind m.ValueEnd = Some k.ValueEnd
piece_kind m.ContentStart = Some k.ContentStart
piece_kind m.EmptyTagEnd = Some k.EmptyTagEnd
piece_kind m.EndTagEnd = Some k.EndTagEnd
piece_kind m.LineStart = Some k.LineStart
piece_kind m.LineEnd = Some k.LineEnd
piece_kind m.OpenRound = Some (k.Code (t.Sign s.OpenRound))
piece_kind m.CloseRound = Some (k.Code (t.Sign s.CloseRound))
piece_kind m.OpenBrace = Some (k.Code (t.Sign s.OpenBrace))
piece_kind m.CloseBrace = Some (k.Code (t.Sign s.CloseBrace))
piece_kind m.Semicolon = Some (k.Code (t.Sign s.Semicolon))
piece_kind m.Colon = Some (k.Code (t.Sign s.Colon))
piece_kind m.Minus = Some (k.Code (t.Sign s.Minus))
piece_kind m.Break = Some (k.Code (t.Word w.Break))
piece_kind m.Case = Some (k.Code (t.Word w.Case))
piece_kind m.Continue = Some (k.Code (t.Word w.Continue))
piece_kind m.Default = Some (k.Code (t.Word w.Default))
piece_kind m.Else = Some (k.Code (t.Word w.Else))
piece_kind m.False = Some (k.Code (t.Word w.False))
piece_kind m.For = Some (k.Code (t.Word w.For))
piece_kind m.Foreach = Some (k.Code (t.Word w.Foreach))
piece_kind m.If = Some (k.Code (t.Word w.If))
piece_kind m.In = Some (k.Code (t.Word w.In))
piece_kind m.Null = Some (k.Code (t.Word w.Null))
piece_kind m.Switch = Some (k.Code (t.Word w.Switch))
piece_kind m.True = Some (k.Code (t.Word w.True))
piece_kind m.Var = Some (k.Code (t.Word w.Var))
piece_kind m.While = Some (k.Code (t.Word w.While))
piece_kind _ = None

-- the kinds of the marks
pub of_space : piece_kind m.Space ≡ Some k.Space
unfolding piece_kind
of_space = refl

pub of_at : piece_kind m.At ≡ Some k.At
unfolding piece_kind
of_at = refl

pub of_code_at : piece_kind m.CodeAt ≡ Some k.CodeAt
unfolding piece_kind
of_code_at = refl

pub of_members_at : piece_kind m.MembersAt ≡ Some k.MembersAt
unfolding piece_kind
of_members_at = refl

pub of_expression_end : piece_kind m.ExpressionEnd ≡ Some k.ExpressionEnd
unfolding piece_kind
of_expression_end = refl

pub of_directive : piece_kind m.Directive ≡ Some k.Directive
unfolding piece_kind
of_directive = refl

pub of_directive_end : piece_kind m.DirectiveEnd ≡ Some k.DirectiveEnd
unfolding piece_kind
of_directive_end = refl

pub of_implements : piece_kind m.Implements ≡ Some k.Implements
unfolding piece_kind
of_implements = refl

pub of_value_end : piece_kind m.ValueEnd ≡ Some k.ValueEnd
unfolding piece_kind
of_value_end = refl

pub of_content_start : piece_kind m.ContentStart ≡ Some k.ContentStart
unfolding piece_kind
of_content_start = refl

pub of_empty_tag_end : piece_kind m.EmptyTagEnd ≡ Some k.EmptyTagEnd
unfolding piece_kind
of_empty_tag_end = refl

pub of_end_tag_end : piece_kind m.EndTagEnd ≡ Some k.EndTagEnd
unfolding piece_kind
of_end_tag_end = refl

pub of_line_start : piece_kind m.LineStart ≡ Some k.LineStart
unfolding piece_kind
of_line_start = refl

pub of_line_end : piece_kind m.LineEnd ≡ Some k.LineEnd
unfolding piece_kind
of_line_end = refl

pub of_open_round : piece_kind m.OpenRound ≡ Some (k.Code (t.Sign s.OpenRound))
unfolding piece_kind
of_open_round = refl

pub token_open_round : token_kind m.OpenRound ≡ Some (t.Sign s.OpenRound)
unfolding token_kind
token_open_round = refl

pub of_close_round : piece_kind m.CloseRound ≡ Some (k.Code (t.Sign s.CloseRound))
unfolding piece_kind
of_close_round = refl

pub token_close_round : token_kind m.CloseRound ≡ Some (t.Sign s.CloseRound)
unfolding token_kind
token_close_round = refl

pub of_open_brace : piece_kind m.OpenBrace ≡ Some (k.Code (t.Sign s.OpenBrace))
unfolding piece_kind
of_open_brace = refl

pub token_open_brace : token_kind m.OpenBrace ≡ Some (t.Sign s.OpenBrace)
unfolding token_kind
token_open_brace = refl

pub of_close_brace : piece_kind m.CloseBrace ≡ Some (k.Code (t.Sign s.CloseBrace))
unfolding piece_kind
of_close_brace = refl

pub token_close_brace : token_kind m.CloseBrace ≡ Some (t.Sign s.CloseBrace)
unfolding token_kind
token_close_brace = refl

pub of_semicolon : piece_kind m.Semicolon ≡ Some (k.Code (t.Sign s.Semicolon))
unfolding piece_kind
of_semicolon = refl

pub token_semicolon : token_kind m.Semicolon ≡ Some (t.Sign s.Semicolon)
unfolding token_kind
token_semicolon = refl

pub of_colon : piece_kind m.Colon ≡ Some (k.Code (t.Sign s.Colon))
unfolding piece_kind
of_colon = refl

pub token_colon : token_kind m.Colon ≡ Some (t.Sign s.Colon)
unfolding token_kind
token_colon = refl

pub of_minus : piece_kind m.Minus ≡ Some (k.Code (t.Sign s.Minus))
unfolding piece_kind
of_minus = refl

pub token_minus : token_kind m.Minus ≡ Some (t.Sign s.Minus)
unfolding token_kind
token_minus = refl

pub of_break : piece_kind m.Break ≡ Some (k.Code (t.Word w.Break))
unfolding piece_kind
of_break = refl

pub token_break : token_kind m.Break ≡ Some (t.Word w.Break)
unfolding token_kind
token_break = refl

pub of_case : piece_kind m.Case ≡ Some (k.Code (t.Word w.Case))
unfolding piece_kind
of_case = refl

pub token_case : token_kind m.Case ≡ Some (t.Word w.Case)
unfolding token_kind
token_case = refl

pub of_continue : piece_kind m.Continue ≡ Some (k.Code (t.Word w.Continue))
unfolding piece_kind
of_continue = refl

pub token_continue : token_kind m.Continue ≡ Some (t.Word w.Continue)
unfolding token_kind
token_continue = refl

pub of_default : piece_kind m.Default ≡ Some (k.Code (t.Word w.Default))
unfolding piece_kind
of_default = refl

pub token_default : token_kind m.Default ≡ Some (t.Word w.Default)
unfolding token_kind
token_default = refl

pub of_else : piece_kind m.Else ≡ Some (k.Code (t.Word w.Else))
unfolding piece_kind
of_else = refl

pub token_else : token_kind m.Else ≡ Some (t.Word w.Else)
unfolding token_kind
token_else = refl

pub of_false : piece_kind m.False ≡ Some (k.Code (t.Word w.False))
unfolding piece_kind
of_false = refl

pub token_false : token_kind m.False ≡ Some (t.Word w.False)
unfolding token_kind
token_false = refl

pub of_for : piece_kind m.For ≡ Some (k.Code (t.Word w.For))
unfolding piece_kind
of_for = refl

pub token_for : token_kind m.For ≡ Some (t.Word w.For)
unfolding token_kind
token_for = refl

pub of_foreach : piece_kind m.Foreach ≡ Some (k.Code (t.Word w.Foreach))
unfolding piece_kind
of_foreach = refl

pub token_foreach : token_kind m.Foreach ≡ Some (t.Word w.Foreach)
unfolding token_kind
token_foreach = refl

pub of_if : piece_kind m.If ≡ Some (k.Code (t.Word w.If))
unfolding piece_kind
of_if = refl

pub token_if : token_kind m.If ≡ Some (t.Word w.If)
unfolding token_kind
token_if = refl

pub of_in : piece_kind m.In ≡ Some (k.Code (t.Word w.In))
unfolding piece_kind
of_in = refl

pub token_in : token_kind m.In ≡ Some (t.Word w.In)
unfolding token_kind
token_in = refl

pub of_null : piece_kind m.Null ≡ Some (k.Code (t.Word w.Null))
unfolding piece_kind
of_null = refl

pub token_null : token_kind m.Null ≡ Some (t.Word w.Null)
unfolding token_kind
token_null = refl

pub of_switch : piece_kind m.Switch ≡ Some (k.Code (t.Word w.Switch))
unfolding piece_kind
of_switch = refl

pub token_switch : token_kind m.Switch ≡ Some (t.Word w.Switch)
unfolding token_kind
token_switch = refl

pub of_true : piece_kind m.True ≡ Some (k.Code (t.Word w.True))
unfolding piece_kind
of_true = refl

pub token_true : token_kind m.True ≡ Some (t.Word w.True)
unfolding token_kind
token_true = refl

pub of_var : piece_kind m.Var ≡ Some (k.Code (t.Word w.Var))
unfolding piece_kind
of_var = refl

pub token_var : token_kind m.Var ≡ Some (t.Word w.Var)
unfolding token_kind
token_var = refl

pub of_while : piece_kind m.While ≡ Some (k.Code (t.Word w.While))
unfolding piece_kind
of_while = refl

pub token_while : token_kind m.While ≡ Some (t.Word w.While)
unfolding token_kind
token_while = refl
