-- Tokens that no expression has in it: the arrow of a lambda, and `MarkupString`.
use Rattle.std.proofs.Common.{◌≡◌, ℕ, ◌+◌, List, [], ◌∷◌, ◌++◌, refl, ap, ◌∙◌, arith}
use Rattle.std.specs.Prelude.{Bool, Option, Some, None}
use Rattle.text_core.specs.declared.place.Place.{Place}
use Rattle.cs_ast.specs.declared.cs_type.TypeExpr.{TypeExpr}
use Rattle.cs_ast.specs.declared.cs_type.TypeKind.{TypeKind}
use Rattle.cs_ast.specs.declared.expression.Expr.{Expr}
use Rattle.cs_ast.specs.declared.expression.ExprKind.{ExprKind}
use Rattle.cs_ast.specs.declared.expression.TextPart.{TextPart}
use Rattle.cs_ast.specs.declared.expression.WithPart.{WithPart}
use Rattle.cs_ast.specs.declared.operators.BinaryOp.{BinaryOp}
use Rattle.cs_ast.specs.declared.operators.StaticType.{StaticType}
use Rattle.cs_ast.specs.declared.operators.UnaryOp.{UnaryOp}
use Rattle.cs_token.specs.declared.token.Token.{Token}
use Rattle.cs_token.specs.declared.token.TokenKind.{TokenKind}
use Rattle.cs_token.specs.declared.token.TokenKind.TheVariants as t
use Rattle.cs_token.specs.declared.token.Sign.{Sign}
use Rattle.cs_token.specs.declared.token.Sign.TheVariants as s
use Rattle.cs_token.specs.declared.token.Word.{Word}
use Rattle.cs_token.specs.declared.token.Word.TheVariants as w
use Rattle.cs_grammar.specs.Expressions.{Spells, Arguments, Values, WithParts, TextParts}
use Rattle.cs_grammar.specs.Expressions as g
use Rattle.cs_grammar.specs.Tables.{operator, unary_operator, literal, static_type, plain_type}
use Rattle.cs_grammar.specs.Types.{WritesType, WritesCore}
use Rattle.cs_grammar.specs.Types as ty

-- the arrow, counted
unfoldable pub arrow : Sign → ℕ
arrow s.Arrow = 1
arrow _ = 0

-- `MarkupString`, counted
unfoldable pub markup : Word → ℕ
markup w.MarkupString = 1
markup _ = 0

-- one of the two, counted
abbrev pub foreign : TokenKind → ℕ
foreign (t.Sign sign) = arrow sign
foreign (t.Word word) = markup word
foreign _ = 0

-- how many of them there are
abbrev pub foreigners : List Token → ℕ
foreigners [] = 0
foreigners (u ∷ ts) = foreign u.kind + foreigners ts

-- a token that is none of them
passes : (u : Token) (ts : List Token) (kind : TokenKind) → u.kind ≡ kind → foreign kind ≡ 0 → foreigners (u ∷ ts) ≡ foreigners ts
passes u ts kind e z = let f : foreign u.kind ≡ 0 = ap foreign e ∙ z in omega arith

of_operator : (sign : Sign) (op : BinaryOp) → operator sign ≡ Some op → arrow sign ≡ 0
unfolding operator arrow
of_operator s.Arrow op e = absurd (cc)
of_operator _ op e = refl

of_unary : (sign : Sign) (op : UnaryOp) → unary_operator sign ≡ Some op → arrow sign ≡ 0
unfolding unary_operator arrow
of_unary s.Arrow op e = absurd (cc)
of_unary _ op e = refl

of_literal : (word : Word) (kind : ExprKind) → literal word ≡ Some kind → markup word ≡ 0
unfolding literal markup
of_literal w.MarkupString kind e = absurd (cc)
of_literal _ kind e = refl

of_static : (word : Word) (owner : StaticType) → static_type word ≡ Some owner → markup word ≡ 0
unfolding static_type markup
of_static w.MarkupString owner e = absurd (cc)
of_static _ owner e = refl

of_plain : (word : Word) (x : TypeKind × Bool) → plain_type word ≡ Some x → markup word ≡ 0
unfolding plain_type markup
of_plain w.MarkupString x e = absurd (cc)
of_plain _ x e = refl

-- signs and words by name

question : arrow s.Question ≡ 0
unfolding arrow
question = refl

colon : arrow s.Colon ≡ 0
unfolding arrow
colon = refl

open_round : arrow s.OpenRound ≡ 0
unfolding arrow
open_round = refl

close_round : arrow s.CloseRound ≡ 0
unfolding arrow
close_round = refl

open_square : arrow s.OpenSquare ≡ 0
unfolding arrow
open_square = refl

close_square : arrow s.CloseSquare ≡ 0
unfolding arrow
close_square = refl

open_brace : arrow s.OpenBrace ≡ 0
unfolding arrow
open_brace = refl

close_brace : arrow s.CloseBrace ≡ 0
unfolding arrow
close_brace = refl

question_dot : arrow s.QuestionDot ≡ 0
unfolding arrow
question_dot = refl

dot : arrow s.Dot ≡ 0
unfolding arrow
dot = refl

comma : arrow s.Comma ≡ 0
unfolding arrow
comma = refl

assign : arrow s.Assign ≡ 0
unfolding arrow
assign = refl

less : arrow s.Less ≡ 0
unfolding arrow
less = refl

greater : arrow s.Greater ≡ 0
unfolding arrow
greater = refl

text_start : arrow s.InterpolationStart ≡ 0
unfolding arrow
text_start = refl

text_end : arrow s.InterpolationEnd ≡ 0
unfolding arrow
text_end = refl

hole_open : arrow s.HoleOpen ≡ 0
unfolding arrow
hole_open = refl

hole_close : arrow s.HoleClose ≡ 0
unfolding arrow
hole_close = refl

string : markup w.String ≡ 0
unfolding markup
string = refl

new : markup w.New ≡ 0
unfolding markup
new = refl

list : markup w.ImmutableList ≡ 0
unfolding markup
list = refl

callback : markup w.EventCallback ≡ 0
unfolding markup
callback = refl

fragment : markup w.RenderFragment ≡ 0
unfolding markup
fragment = refl

-- types have none

mutual
  type_passes : (ts rest : List Token) (a : TypeExpr) → WritesType ts rest a → foreigners ts ≡ foreigners rest
  type_passes _ _ _ (ty.bare n ts rest a h) = core_passes n ts rest a h
  type_passes _ _ _ (ty.marked q ts rest a h e) = core_passes _ ts (q ∷ rest) a h ∙ passes q rest _ e question

  core_passes : (n : Bool) (ts rest : List Token) (a : TypeExpr) → WritesCore n ts rest a → foreigners ts ≡ foreigners rest
  core_passes _ _ _ _ (ty.plain n word kind u rest e f) = passes u rest _ e (of_plain word (kind, n) f)
  core_passes _ _ _ _ (ty.name x u rest e) = passes u rest _ e refl
  core_passes _ _ _ _ (ty.list u o c ts rest a e1 e2 h e3) =
      passes u (o ∷ ts) _ e1 list ∙ passes o ts _ e2 less ∙ type_passes ts (c ∷ rest) a h ∙ passes c rest _ e3 greater
  core_passes _ _ _ _ (ty.callback u rest e) = passes u rest _ e callback
  core_passes _ _ _ _ (ty.callback_of u o c ts rest a e1 e2 h e3) =
      passes u (o ∷ ts) _ e1 callback ∙ passes o ts _ e2 less ∙ type_passes ts (c ∷ rest) a h ∙ passes c rest _ e3 greater
  core_passes _ _ _ _ (ty.fragment u rest e) = passes u rest _ e fragment
  core_passes _ _ _ _ (ty.fragment_of u o c ts rest a e1 e2 h e3) =
      passes u (o ∷ ts) _ e1 fragment ∙ passes o ts _ e2 less ∙ type_passes ts (c ∷ rest) a h ∙ passes c rest _ e3 greater

-- expressions have none

mutual
  pub spelled_passes : (l : ℕ) (p : Place) (ts rest : List Token) (a : Expr) → Spells l p ts rest a → foreigners ts ≡ foreigners rest
  spelled_passes _ _ _ _ _ (g.conditional l p q r u c ts us vs rest a b d le h1 e1 h2 e2 h3) =
      spelled_passes 1 p ts (u ∷ us) a h1 ∙ passes u us _ e1 question ∙ spelled_passes 0 q us (c ∷ vs) b h2 ∙ passes c vs _ e2 colon ∙ spelled_passes 0 r vs rest d h3
  spelled_passes _ _ _ _ _ (g.binary l sign op p q u ts us rest a b le h1 e1 e2 h2) =
      spelled_passes _ p ts (u ∷ us) a h1 ∙ passes u us _ e1 (of_operator sign op e2) ∙ spelled_passes _ q us rest b h2
  spelled_passes _ _ _ _ _ (g.with_parts l p u o c ts us rest a parts le h1 e1 e2 h2 e3) =
      spelled_passes 10 p ts (u ∷ o ∷ us) a h1 ∙ passes u (o ∷ us) _ e1 refl ∙ passes o us _ e2 open_brace ∙ with_passes us (c ∷ rest) parts h2 ∙ passes c rest _ e3 close_brace
  spelled_passes _ _ _ _ _ (g.unary l sign op q u ts rest a le e1 e2 h) =
      passes u ts _ e1 (of_unary sign op e2) ∙ spelled_passes 11 q ts rest a h
  spelled_passes _ _ _ _ _ (g.cast l q o u c ts rest a le e1 e2 e3 h) =
      passes o (u ∷ c ∷ ts) _ e1 open_round ∙ passes u (c ∷ ts) _ e2 string ∙ passes c ts _ e3 close_round ∙ spelled_passes 11 q ts rest a h
  spelled_passes _ _ _ _ _ (g.null_member l x p d u ts rest a le h e1 e2) =
      spelled_passes 12 p ts (d ∷ u ∷ rest) a h ∙ passes d (u ∷ rest) _ e1 question_dot ∙ passes u rest _ e2 refl
  spelled_passes _ _ _ _ _ (g.member l x p d u ts rest a le h e1 e2) =
      spelled_passes 13 p ts (d ∷ u ∷ rest) a h ∙ passes d (u ∷ rest) _ e1 dot ∙ passes u rest _ e2 refl
  spelled_passes _ _ _ _ _ (g.call l p o ts us rest a bs le h e1 h2) =
      spelled_passes 13 p ts (o ∷ us) a h ∙ passes o us _ e1 open_round ∙ arguments_pass us rest bs h2
  spelled_passes _ _ _ _ _ (g.index l p q o c ts us rest a b le h e1 h2 e2) =
      spelled_passes 13 p ts (o ∷ us) a h ∙ passes o us _ e1 open_square ∙ spelled_passes 0 q us (c ∷ rest) b h2 ∙ passes c rest _ e2 close_square
  spelled_passes _ _ _ _ _ (g.number l n u rest e) = passes u rest _ e refl
  spelled_passes _ _ _ _ _ (g.text l x u rest e) = passes u rest _ e refl
  spelled_passes _ _ _ _ _ (g.literals l word kind u rest e f) = passes u rest _ e (of_literal word kind f)
  spelled_passes _ _ _ _ _ (g.interpolated l o c ts rest parts e1 h e2) =
      passes o ts _ e1 text_start ∙ texts_pass ts (c ∷ rest) parts h ∙ passes c rest _ e2 text_end
  spelled_passes _ _ _ _ _ (g.name l x u rest e) = passes u rest _ e refl
  spelled_passes _ _ _ _ _ (g.static l word owner x u d n rest e1 f e2 e3) =
      passes u (d ∷ n ∷ rest) _ e1 (of_static word owner f) ∙ passes d (n ∷ rest) _ e2 dot ∙ passes n rest _ e3 refl
  spelled_passes _ _ _ _ _ (g.brackets l p o c ts rest a e1 h e2) =
      passes o ts _ e1 open_round ∙ spelled_passes 0 p ts (c ∷ rest) a h ∙ passes c rest _ e2 close_round
  spelled_passes _ _ _ _ _ (g.new_record l x u n o ts rest bs e1 e2 e3 h) =
      passes u (n ∷ o ∷ ts) _ e1 new ∙ passes n (o ∷ ts) _ e2 refl ∙ passes o ts _ e3 open_round ∙ arguments_pass ts rest bs h
  spelled_passes _ _ _ _ _ (g.empty_list l u o c d n ts rest a e1 e2 h e3 e4 e5) =
      passes u (o ∷ ts) _ e1 list ∙ passes o ts _ e2 less ∙ type_passes ts (c ∷ d ∷ n ∷ rest) a h ∙ passes c (d ∷ n ∷ rest) _ e3 greater
      ∙ passes d (n ∷ rest) _ e4 dot ∙ passes n rest _ e5 refl

  arguments_pass : (ts rest : List Token) (bs : List Expr) → Arguments ts rest bs → foreigners ts ≡ foreigners rest
  arguments_pass _ _ _ (g.no_argument c rest e) = passes c rest _ e close_round
  arguments_pass _ _ _ (g.some_arguments c ts rest bs h e) = values_pass ts (c ∷ rest) bs h ∙ passes c rest _ e close_round

  values_pass : (ts rest : List Token) (bs : List Expr) → Values ts rest bs → foreigners ts ≡ foreigners rest
  values_pass _ _ _ (g.one_value p ts rest a h) = spelled_passes 0 p ts rest a h
  values_pass _ _ _ (g.more_values p u ts us rest a bs h e h2) =
      spelled_passes 0 p ts (u ∷ us) a h ∙ passes u us _ e comma ∙ values_pass us rest bs h2

  with_passes : (ts rest : List Token) (parts : List WithPart) → WithParts ts rest parts → foreigners ts ≡ foreigners rest
  with_passes _ _ _ (g.one_part x p n u ts rest a e1 e2 h) =
      passes n (u ∷ ts) _ e1 refl ∙ passes u ts _ e2 assign ∙ spelled_passes 0 p ts rest a h
  with_passes _ _ _ (g.more_parts x p n u c ts us rest a parts e1 e2 h e3 h2) =
      passes n (u ∷ ts) _ e1 refl ∙ passes u ts _ e2 assign ∙ spelled_passes 0 p ts (c ∷ us) a h ∙ passes c us _ e3 comma ∙ with_passes us rest parts h2

  texts_pass : (ts rest : List Token) (parts : List TextPart) → TextParts ts rest parts → foreigners ts ≡ foreigners rest
  texts_pass _ _ _ (g.no_text_part rest) = refl
  texts_pass _ _ _ (g.literal_part x u ts rest parts e h) = passes u ts _ e refl ∙ texts_pass ts rest parts h
  texts_pass _ _ _ (g.hole p o c ts us rest a parts e1 h e2 h2) =
      passes o ts _ e1 hole_open ∙ spelled_passes 0 p ts (c ∷ us) a h ∙ passes c us _ e2 hole_close ∙ texts_pass us rest parts h2

-- tokens behind what is spelled change nothing

module _ (more : List Token) where
  mutual
    type_more : (ts rest : List Token) (a : TypeExpr) → WritesType ts rest a → WritesType (ts ++ more) (rest ++ more) a
    type_more _ _ _ (ty.bare n ts rest a h) = ty.bare n (ts ++ more) (rest ++ more) a (core_more n ts rest a h)
    type_more _ _ _ (ty.marked q ts rest a h i) = ty.marked q (ts ++ more) (rest ++ more) a (core_more _ ts (q ∷ rest) a h) i

    core_more : (n : Bool) (ts rest : List Token) (a : TypeExpr) → WritesCore n ts rest a → WritesCore n (ts ++ more) (rest ++ more) a
    core_more _ _ _ _ (ty.plain n word kind u rest i f) = ty.plain n word kind u (rest ++ more) i f
    core_more _ _ _ _ (ty.name x u rest i) = ty.name x u (rest ++ more) i
    core_more _ _ _ _ (ty.list u o c ts rest a e1 e2 h e3) = ty.list u o c (ts ++ more) (rest ++ more) a e1 e2 (type_more ts (c ∷ rest) a h) e3
    core_more _ _ _ _ (ty.callback u rest i) = ty.callback u (rest ++ more) i
    core_more _ _ _ _ (ty.callback_of u o c ts rest a e1 e2 h e3) = ty.callback_of u o c (ts ++ more) (rest ++ more) a e1 e2 (type_more ts (c ∷ rest) a h) e3
    core_more _ _ _ _ (ty.fragment u rest i) = ty.fragment u (rest ++ more) i
    core_more _ _ _ _ (ty.fragment_of u o c ts rest a e1 e2 h e3) = ty.fragment_of u o c (ts ++ more) (rest ++ more) a e1 e2 (type_more ts (c ∷ rest) a h) e3

  mutual
    pub spelled_more : (l : ℕ) (p : Place) (ts rest : List Token) (a : Expr) → Spells l p ts rest a → Spells l p (ts ++ more) (rest ++ more) a
    spelled_more _ _ _ _ _ (g.conditional l p q r u c ts us vs rest a b d le h1 e1 h2 e2 h3) =
        g.conditional l p q r u c (ts ++ more) (us ++ more) (vs ++ more) (rest ++ more) a b d le (spelled_more 1 p ts (u ∷ us) a h1) e1 (spelled_more 0 q us (c ∷ vs) b h2) e2 (spelled_more 0 r vs rest d h3)
    spelled_more _ _ _ _ _ (g.binary l sign op p q u ts us rest a b le h1 e1 e2 h2) =
        g.binary l sign op p q u (ts ++ more) (us ++ more) (rest ++ more) a b le (spelled_more _ p ts (u ∷ us) a h1) e1 e2 (spelled_more _ q us rest b h2)
    spelled_more _ _ _ _ _ (g.with_parts l p u o c ts us rest a parts le h1 e1 e2 h2 e3) =
        g.with_parts l p u o c (ts ++ more) (us ++ more) (rest ++ more) a parts le (spelled_more 10 p ts (u ∷ o ∷ us) a h1) e1 e2 (with_more us (c ∷ rest) parts h2) e3
    spelled_more _ _ _ _ _ (g.unary l sign op q u ts rest a le e1 e2 h) = g.unary l sign op q u (ts ++ more) (rest ++ more) a le e1 e2 (spelled_more 11 q ts rest a h)
    spelled_more _ _ _ _ _ (g.cast l q o u c ts rest a le e1 e2 e3 h) = g.cast l q o u c (ts ++ more) (rest ++ more) a le e1 e2 e3 (spelled_more 11 q ts rest a h)
    spelled_more _ _ _ _ _ (g.null_member l x p d u ts rest a le h e1 e2) = g.null_member l x p d u (ts ++ more) (rest ++ more) a le (spelled_more 12 p ts (d ∷ u ∷ rest) a h) e1 e2
    spelled_more _ _ _ _ _ (g.member l x p d u ts rest a le h e1 e2) = g.member l x p d u (ts ++ more) (rest ++ more) a le (spelled_more 13 p ts (d ∷ u ∷ rest) a h) e1 e2
    spelled_more _ _ _ _ _ (g.call l p o ts us rest a bs le h e1 h2) = g.call l p o (ts ++ more) (us ++ more) (rest ++ more) a bs le (spelled_more 13 p ts (o ∷ us) a h) e1 (arguments_more us rest bs h2)
    spelled_more _ _ _ _ _ (g.index l p q o c ts us rest a b le h e1 h2 e2) =
        g.index l p q o c (ts ++ more) (us ++ more) (rest ++ more) a b le (spelled_more 13 p ts (o ∷ us) a h) e1 (spelled_more 0 q us (c ∷ rest) b h2) e2
    spelled_more _ _ _ _ _ (g.number l n u rest i) = g.number l n u (rest ++ more) i
    spelled_more _ _ _ _ _ (g.text l x u rest i) = g.text l x u (rest ++ more) i
    spelled_more _ _ _ _ _ (g.literals l word kind u rest i f) = g.literals l word kind u (rest ++ more) i f
    spelled_more _ _ _ _ _ (g.interpolated l o c ts rest parts e1 h e2) = g.interpolated l o c (ts ++ more) (rest ++ more) parts e1 (texts_more ts (c ∷ rest) parts h) e2
    spelled_more _ _ _ _ _ (g.name l x u rest i) = g.name l x u (rest ++ more) i
    spelled_more _ _ _ _ _ (g.static l word owner x u d n rest e1 f e2 e3) = g.static l word owner x u d n (rest ++ more) e1 f e2 e3
    spelled_more _ _ _ _ _ (g.brackets l p o c ts rest a e1 h e2) = g.brackets l p o c (ts ++ more) (rest ++ more) a e1 (spelled_more 0 p ts (c ∷ rest) a h) e2
    spelled_more _ _ _ _ _ (g.new_record l x u n o ts rest bs e1 e2 e3 h) = g.new_record l x u n o (ts ++ more) (rest ++ more) bs e1 e2 e3 (arguments_more ts rest bs h)
    spelled_more _ _ _ _ _ (g.empty_list l u o c d n ts rest a e1 e2 h e3 e4 e5) =
        g.empty_list l u o c d n (ts ++ more) (rest ++ more) a e1 e2 (type_more ts (c ∷ d ∷ n ∷ rest) a h) e3 e4 e5

    arguments_more : (ts rest : List Token) (bs : List Expr) → Arguments ts rest bs → Arguments (ts ++ more) (rest ++ more) bs
    arguments_more _ _ _ (g.no_argument c rest i) = g.no_argument c (rest ++ more) i
    arguments_more _ _ _ (g.some_arguments c ts rest bs h i) = g.some_arguments c (ts ++ more) (rest ++ more) bs (values_more ts (c ∷ rest) bs h) i

    values_more : (ts rest : List Token) (bs : List Expr) → Values ts rest bs → Values (ts ++ more) (rest ++ more) bs
    values_more _ _ _ (g.one_value p ts rest a h) = g.one_value p (ts ++ more) (rest ++ more) a (spelled_more 0 p ts rest a h)
    values_more _ _ _ (g.more_values p u ts us rest a bs h i h2) =
        g.more_values p u (ts ++ more) (us ++ more) (rest ++ more) a bs (spelled_more 0 p ts (u ∷ us) a h) i (values_more us rest bs h2)

    with_more : (ts rest : List Token) (parts : List WithPart) → WithParts ts rest parts → WithParts (ts ++ more) (rest ++ more) parts
    with_more _ _ _ (g.one_part x p n u ts rest a e1 e2 h) = g.one_part x p n u (ts ++ more) (rest ++ more) a e1 e2 (spelled_more 0 p ts rest a h)
    with_more _ _ _ (g.more_parts x p n u c ts us rest a parts e1 e2 h e3 h2) =
        g.more_parts x p n u c (ts ++ more) (us ++ more) (rest ++ more) a parts e1 e2 (spelled_more 0 p ts (c ∷ us) a h) e3 (with_more us rest parts h2)

    texts_more : (ts rest : List Token) (parts : List TextPart) → TextParts ts rest parts → TextParts (ts ++ more) (rest ++ more) parts
    texts_more _ _ _ (g.no_text_part rest) = g.no_text_part (rest ++ more)
    texts_more _ _ _ (g.literal_part x u ts rest parts i h) = g.literal_part x u (ts ++ more) (rest ++ more) parts i (texts_more ts rest parts h)
    texts_more _ _ _ (g.hole p o c ts us rest a parts e1 h e2 h2) =
        g.hole p o c (ts ++ more) (us ++ more) (rest ++ more) a parts e1 (spelled_more 0 p ts (c ∷ us) a h) e2 (texts_more us rest parts h2)
