-- What pieces and tokens are that have a mark.
use Rattle.std.proofs.Common.{◌≡◌, List, [], ◌∷◌, refl, sym, ap, ◌∙◌}
use Rattle.std.proofs.lemmas.Bool.{eqb-true, eq-eqb}
use Rattle.std.specs.Prelude.{Bool, true, false, ◌==◌, if◌then◌else◌, Option, Some, None}
use Rattle.cs_token.specs.declared.token.Sign.{Sign}
use Rattle.cs_token.specs.declared.token.Sign.TheVariants as s
use Rattle.cs_token.specs.declared.token.TokenKind.{TokenKind}
use Rattle.cs_token.specs.declared.token.TokenKind.TheVariants as t
use Rattle.cs_token.specs.declared.token.Word.{Word}
use Rattle.cs_token.specs.declared.token.Word.TheVariants as w
use Rattle.razor_token.specs.declared.piece.Piece.{Piece}
use Rattle.razor_token.specs.declared.piece.PieceKind.{PieceKind}
use Rattle.razor_token.specs.declared.piece.PieceKind.TheVariants as k
use Rattle.razor_ast.specs.Pieces.{IsKind, IsWord}
use Rattle.razor_ast.specs.Attributes.{BeginsValue}
use Rattle.razor_reader.specs.declared.mark.Mark.{Mark}
use Rattle.razor_reader.specs.declared.mark.Mark.TheVariants as m
use Rattle.razor_reader.specs.Marks.{sign_mark, word_mark, token_mark, mark_of, mark_number, is_mark, is_token}
use Rattle.razor_reader.specs.Reading.{after}
use Rattle.razor_reader.proofs.MarkKinds.{token_kind, piece_kind}
use Rattle.razor_reader.proofs.MarkNumbers.{one_mark}

sign_back : (sign : Sign) (kind : TokenKind) → token_kind (sign_mark sign) ≡ Some kind → t.Sign sign ≡ kind
unfolding sign_mark token_kind
sign_back s.OpenRound kind e = cc
sign_back s.CloseRound kind e = cc
sign_back s.OpenBrace kind e = cc
sign_back s.CloseBrace kind e = cc
sign_back s.Semicolon kind e = cc
sign_back s.Colon kind e = cc
sign_back s.Minus kind e = cc
sign_back _ kind e = absurd (cc)

word_back : (word : Word) (kind : TokenKind) → token_kind (word_mark word) ≡ Some kind → t.Word word ≡ kind
unfolding word_mark token_kind
word_back w.Break kind e = cc
word_back w.Case kind e = cc
word_back w.Continue kind e = cc
word_back w.Default kind e = cc
word_back w.Else kind e = cc
word_back w.False kind e = cc
word_back w.For kind e = cc
word_back w.Foreach kind e = cc
word_back w.If kind e = cc
word_back w.In kind e = cc
word_back w.Null kind e = cc
word_back w.Switch kind e = cc
word_back w.True kind e = cc
word_back w.Var kind e = cc
word_back w.While kind e = cc
word_back _ kind e = absurd (cc)

token_back : (of : TokenKind) (kind : TokenKind) → token_kind (token_mark of) ≡ Some kind → of ≡ kind
unfolding token_kind
token_back (t.Sign sign) kind e = sign_back sign kind e
token_back (t.Word word) kind e = word_back word kind e
token_back _ kind e = absurd (cc)

sign_piece : (sign : Sign) (kind : PieceKind) → piece_kind (sign_mark sign) ≡ Some kind → k.Code (t.Sign sign) ≡ kind
unfolding sign_mark piece_kind
sign_piece s.OpenRound kind e = cc
sign_piece s.CloseRound kind e = cc
sign_piece s.OpenBrace kind e = cc
sign_piece s.CloseBrace kind e = cc
sign_piece s.Semicolon kind e = cc
sign_piece s.Colon kind e = cc
sign_piece s.Minus kind e = cc
sign_piece _ kind e = absurd (cc)

word_piece : (word : Word) (kind : PieceKind) → piece_kind (word_mark word) ≡ Some kind → k.Code (t.Word word) ≡ kind
unfolding word_mark piece_kind
word_piece w.Break kind e = cc
word_piece w.Case kind e = cc
word_piece w.Continue kind e = cc
word_piece w.Default kind e = cc
word_piece w.Else kind e = cc
word_piece w.False kind e = cc
word_piece w.For kind e = cc
word_piece w.Foreach kind e = cc
word_piece w.If kind e = cc
word_piece w.In kind e = cc
word_piece w.Null kind e = cc
word_piece w.Switch kind e = cc
word_piece w.True kind e = cc
word_piece w.Var kind e = cc
word_piece w.While kind e = cc
word_piece _ kind e = absurd (cc)

token_piece : (of : TokenKind) (kind : PieceKind) → piece_kind (token_mark of) ≡ Some kind → k.Code of ≡ kind
unfolding piece_kind
token_piece (t.Sign sign) kind e = sign_piece sign kind e
token_piece (t.Word word) kind e = word_piece word kind e
token_piece _ kind e = absurd (cc)

piece_back : (of kind : PieceKind) → piece_kind (mark_of of) ≡ Some kind → of ≡ kind
unfolding piece_kind
piece_back (k.Code of) kind e = token_piece of kind e
piece_back k.Space kind e = cc
piece_back k.At kind e = cc
piece_back k.CodeAt kind e = cc
piece_back k.MembersAt kind e = cc
piece_back k.ExpressionEnd kind e = cc
piece_back k.Directive kind e = cc
piece_back k.DirectiveEnd kind e = cc
piece_back k.Implements kind e = cc
piece_back k.ValueEnd kind e = cc
piece_back k.ContentStart kind e = cc
piece_back k.EmptyTagEnd kind e = cc
piece_back k.EndTagEnd kind e = cc
piece_back k.LineStart kind e = cc
piece_back k.LineEnd kind e = cc
piece_back _ kind e = absurd (cc)

same_number : (a b : Mark) → (mark_number a == mark_number b) ≡ true → a ≡ b
same_number a b e = one_mark a b (eqb-true _ _ e)

-- a token that has the mark, and a piece that has it
pub token_sure : (mark : Mark) (kind of : TokenKind) → token_kind mark ≡ Some kind → is_token mark of ≡ true → of ≡ kind
token_sure mark kind of i e = token_back of kind (ap token_kind (same_number (token_mark of) mark e) ∙ i)

pub piece_sure : (mark : Mark) (kind of : PieceKind) → piece_kind mark ≡ Some kind → is_mark mark of ≡ true → of ≡ kind
piece_sure mark kind of i e = piece_back of kind (ap piece_kind (same_number (mark_of of) mark e) ∙ i)

-- the piece that was taken
pub record Taken (kind : PieceKind) (ps rest : List Piece) : Type 0 where
  pub p : Piece
  pub whole : ps ≡ p ∷ rest
  pub is : IsKind kind p

pub taken : (mark : Mark) (kind : PieceKind) (ps rest : List Piece) → piece_kind mark ≡ Some kind → after mark ps ≡ Some rest → Taken kind ps rest
taken mark kind [] rest i e = absurd (cc)
taken mark kind (p ∷ ps) rest i e = go (is_mark mark p.kind) refl e
  where
    go : (b : Bool) → is_mark mark p.kind ≡ b → (if b then Some ps else None) ≡ Some rest → Taken kind (p ∷ ps) rest
    go true j e = record { p = p; whole = cc; is = piece_sure mark kind p.kind i j }
    go false j e = absurd (cc)

sign_begins_no_value : (sign : Sign) → sign_mark sign ≡ m.ValueStart → ⊥
unfolding sign_mark
sign_begins_no_value s.OpenRound e = absurd (cc)
sign_begins_no_value _ e = absurd (cc)

word_begins_no_value : (word : Word) → word_mark word ≡ m.ValueStart → ⊥
unfolding word_mark
word_begins_no_value w.Break e = absurd (cc)
word_begins_no_value _ e = absurd (cc)

token_begins_no_value : (kind : TokenKind) → token_mark kind ≡ m.ValueStart → ⊥
token_begins_no_value (t.Sign sign) e = sign_begins_no_value sign e
token_begins_no_value (t.Word word) e = word_begins_no_value word e
token_begins_no_value _ e = absurd (cc)

-- a piece that has the mark of the beginning of a value
pub value_start : (v : Piece) → is_mark m.ValueStart v.kind ≡ true → BeginsValue v
value_start v e = go v.kind refl (same_number (mark_of v.kind) m.ValueStart e)
  where
    go : (of : PieceKind) → v.kind ≡ of → mark_of of ≡ m.ValueStart → BeginsValue v
    go (k.ValueStart quote) i e = (quote, i)
    go (k.Code kind) i e = absurd (token_begins_no_value kind e)
    go _ i e = absurd (cc)

-- a piece of which the mark is this
pub piece_of_mark : (mark : Mark) (kind of : PieceKind) → piece_kind mark ≡ Some kind → mark_of of ≡ mark → of ≡ kind
piece_of_mark mark kind of i e = piece_back of kind (ap piece_kind e ∙ i)

-- `else` by its mark
pub else_marked : (d : Piece) → IsWord w.Else d → is_mark m.Else d.kind ≡ true
unfolding word_mark mark_number
else_marked d e = ap (is_mark m.Else) e
