-- How statements begin is read.
use Rattle.std.proofs.Common.{◌≡◌, ℕ, ◌+◌, List, [], ◌∷◌, ◌++◌, refl, sym, ap, ◌∙◌, subst}
use Rattle.std.specs.Prelude.{Bool, true, false, not, ◌&&◌, if◌then◌else◌, Option, Some, None}
use Rattle.text_core.specs.declared.place.Place.{Place}
use Rattle.cs_ast.specs.declared.cs_type.TypeExpr.{TypeExpr}
use Rattle.cs_ast.specs.declared.cs_type.TypeKind.{TypeKind}
use Rattle.cs_ast.specs.declared.expression.Expr.{Expr}
use Rattle.cs_ast.specs.declared.expression.ExprKind.{ExprKind}
use Rattle.cs_ast.specs.declared.expression.Stmt.{Stmt}
use Rattle.cs_ast.specs.declared.expression.StmtKind.{StmtKind, StmtKind-F, out-StmtKind}
use Rattle.cs_ast.specs.declared.expression.StmtKind.TheVariants as st
use Rattle.cs_ast.specs.declared.operators.StaticType.{StaticType}
use Rattle.cs_ast.specs.declared.operators.UnaryOp.{UnaryOp}
use Rattle.cs_token.specs.declared.token.Token.{Token}
use Rattle.cs_token.specs.declared.token.TokenKind.{TokenKind}
use Rattle.cs_token.specs.declared.token.TokenKind.TheVariants as t
use Rattle.cs_token.specs.declared.token.Sign.{Sign}
use Rattle.cs_token.specs.declared.token.Sign.TheVariants as s
use Rattle.cs_token.specs.declared.token.Word.{Word}
use Rattle.cs_token.specs.declared.token.Word.TheVariants as w
use Rattle.cs_grammar.specs.Expressions.{Spells, SpelledExpression}
use Rattle.cs_grammar.specs.Expressions as e
use Rattle.cs_grammar.specs.Statements.{Changes, Acts, Declares, Statement, stmt}
use Rattle.cs_grammar.specs.Statements as cs
use Rattle.cs_grammar.specs.Tables.{unary_operator, literal, static_type, plain_type}
use Rattle.cs_grammar.specs.Tokens.{ident}
use Rattle.cs_grammar.specs.Types.{WritesType, WritesCore}
use Rattle.cs_grammar.specs.Types as ty
use Rattle.razor_token.specs.declared.piece.Piece.{Piece}
use Rattle.razor_token.specs.declared.piece.PieceKind.{PieceKind}
use Rattle.razor_token.specs.declared.piece.PieceKind.TheVariants as k
use Rattle.razor_ast.specs.declared.node.TNode.TheVariants as nd
use Rattle.razor_ast.specs.Brackets.{Round}
use Rattle.razor_ast.specs.Pieces.{IsSign, IsWord, code, codes_of}
use Rattle.razor_ast.specs.Statements.{IsSimple, Simple, ForEachHead}
use Rattle.razor_ast.specs.Statements as g
use Rattle.razor_reader.specs.declared.frame.Frame.TheVariants as fr
use Rattle.razor_reader.specs.declared.frame.Jumps.{Jumps}
use Rattle.razor_reader.specs.declared.frame.Next.{Next}
use Rattle.razor_reader.specs.declared.frame.Next.TheVariants as nx
use Rattle.razor_reader.specs.declared.frame.Wanted.TheVariants as wanted
use Rattle.razor_reader.specs.declared.mark.Mark.{Mark}
use Rattle.razor_reader.specs.declared.mark.Mark.TheVariants as m
use Rattle.razor_reader.specs.Marks.{mark_of, is_mark, token_mark, sign_mark, word_mark, mark_number}
use Rattle.razor_reader.specs.Reading.{Numbered, ◌>>=◌, after}
use Rattle.razor_reader.specs.TokenReading.{round}
use Rattle.razor_reader.specs.CodeReading.{is_simple}
use Rattle.razor_reader.specs.HeadReading.{for_each_head}
use Rattle.razor_reader.specs.StatementReading as r
use Rattle.razor_reader.proofs.HeadComplete.{round_complete, flat_round, condition_complete, for_each_complete}
use Rattle.razor_reader.proofs.SimpleComplete.{simple_is, simple_complete}
use Rattle.razor_reader.proofs.ValueComplete.{FlatPieces, after_is, bind_is}

-- a mark that begins a simple statement, if a statement at all
abbrev pub is_other : Mark → Bool
is_other m.OpenBrace = false
is_other m.If = false
is_other m.While = false
is_other m.For = false
is_other m.Foreach = false
is_other m.Switch = false
is_other m.Break = false
is_other m.Continue = false
is_other m.CloseBrace = false
is_other m.Case = false
is_other m.Default = false
is_other m.Else = false
is_other _ = true

abbrev pub begins_simple : List Token → Bool
begins_simple [] = false
begins_simple (u ∷ ts) = is_other (token_mark u.kind)

first_is : (u : Token) (ts : List Token) (kind : TokenKind) → u.kind ≡ kind → is_other (token_mark kind) ≡ true → begins_simple (u ∷ ts) ≡ true
first_is u ts kind i f = ap (λ kind. is_other (token_mark kind)) i ∙ f

of_unary : (sign : Sign) (op : UnaryOp) → unary_operator sign ≡ Some op → is_other (sign_mark sign) ≡ true
unfolding unary_operator sign_mark
of_unary s.OpenBrace op i = absurd (cc)
of_unary s.CloseBrace op i = absurd (cc)
of_unary _ op i = refl

of_literal : (word : Word) (x : ExprKind) → literal word ≡ Some x → is_other (word_mark word) ≡ true
unfolding literal word_mark
of_literal w.If x i = absurd (cc)
of_literal w.While x i = absurd (cc)
of_literal w.For x i = absurd (cc)
of_literal w.Foreach x i = absurd (cc)
of_literal w.Switch x i = absurd (cc)
of_literal w.Break x i = absurd (cc)
of_literal w.Continue x i = absurd (cc)
of_literal w.Case x i = absurd (cc)
of_literal w.Default x i = absurd (cc)
of_literal w.Else x i = absurd (cc)
of_literal _ x i = refl

of_static : (word : Word) (x : StaticType) → static_type word ≡ Some x → is_other (word_mark word) ≡ true
unfolding static_type word_mark
of_static w.If x i = absurd (cc)
of_static w.While x i = absurd (cc)
of_static w.For x i = absurd (cc)
of_static w.Foreach x i = absurd (cc)
of_static w.Switch x i = absurd (cc)
of_static w.Break x i = absurd (cc)
of_static w.Continue x i = absurd (cc)
of_static w.Case x i = absurd (cc)
of_static w.Default x i = absurd (cc)
of_static w.Else x i = absurd (cc)
of_static _ x i = refl

of_plain : (word : Word) (x : TypeKind × Bool) → plain_type word ≡ Some x → is_other (word_mark word) ≡ true
unfolding plain_type word_mark
of_plain w.If x i = absurd (cc)
of_plain w.While x i = absurd (cc)
of_plain w.For x i = absurd (cc)
of_plain w.Foreach x i = absurd (cc)
of_plain w.Switch x i = absurd (cc)
of_plain w.Break x i = absurd (cc)
of_plain w.Continue x i = absurd (cc)
of_plain w.Case x i = absurd (cc)
of_plain w.Default x i = absurd (cc)
of_plain w.Else x i = absurd (cc)
of_plain _ x i = refl

open_round : is_other (sign_mark s.OpenRound) ≡ true
unfolding sign_mark
open_round = refl

text_start : is_other (sign_mark s.InterpolationStart) ≡ true
unfolding sign_mark
text_start = refl

semicolon : is_other (sign_mark s.Semicolon) ≡ true
unfolding sign_mark
semicolon = refl

new : is_other (word_mark w.New) ≡ true
unfolding word_mark
new = refl

list : is_other (word_mark w.ImmutableList) ≡ true
unfolding word_mark
list = refl

callback : is_other (word_mark w.EventCallback) ≡ true
unfolding word_mark
callback = refl

fragment : is_other (word_mark w.RenderFragment) ≡ true
unfolding word_mark
fragment = refl

await : is_other (word_mark w.Await) ≡ true
unfolding word_mark
await = refl

return_word : is_other (word_mark w.Return) ≡ true
unfolding word_mark
return_word = refl

var : is_other (word_mark w.Var) ≡ true
unfolding word_mark
var = refl

pub expression_first : (l : ℕ) (p : Place) (ts rest : List Token) (a : Expr) → Spells l p ts rest a → begins_simple ts ≡ true
expression_first _ _ _ _ _ (e.conditional l p q r u c ts us vs rest a b d le h1 e1 h2 e2 h3) = expression_first 1 p ts (u ∷ us) a h1
expression_first _ _ _ _ _ (e.binary l sign op p q u ts us rest a b le h1 e1 e2 h2) = expression_first _ p ts (u ∷ us) a h1
expression_first _ _ _ _ _ (e.with_parts l p u o c ts us rest a parts le h1 e1 e2 h2 e3) = expression_first 10 p ts (u ∷ o ∷ us) a h1
expression_first _ _ _ _ _ (e.unary l sign op q u ts rest a le e1 e2 h) = first_is u ts _ e1 (of_unary sign op e2)
expression_first _ _ _ _ _ (e.cast l q o u c ts rest a le e1 e2 e3 h) = first_is o (u ∷ c ∷ ts) _ e1 open_round
expression_first _ _ _ _ _ (e.null_member l x p d u ts rest a le h e1 e2) = expression_first 12 p ts (d ∷ u ∷ rest) a h
expression_first _ _ _ _ _ (e.member l x p d u ts rest a le h e1 e2) = expression_first 13 p ts (d ∷ u ∷ rest) a h
expression_first _ _ _ _ _ (e.call l p o ts us rest a bs le h e1 h2) = expression_first 13 p ts (o ∷ us) a h
expression_first _ _ _ _ _ (e.index l p q o c ts us rest a b le h e1 h2 e2) = expression_first 13 p ts (o ∷ us) a h
expression_first _ _ _ _ _ (e.number l n u rest i) = first_is u rest _ i refl
expression_first _ _ _ _ _ (e.text l x u rest i) = first_is u rest _ i refl
expression_first _ _ _ _ _ (e.literals l word kind u rest i f) = first_is u rest _ i (of_literal word kind f)
expression_first _ _ _ _ _ (e.interpolated l o c ts rest parts e1 h e2) = first_is o ts _ e1 text_start
expression_first _ _ _ _ _ (e.name l x u rest i) = first_is u rest _ i refl
expression_first _ _ _ _ _ (e.static l word owner x u d n rest e1 f e2 e3) = first_is u (d ∷ n ∷ rest) _ e1 (of_static word owner f)
expression_first _ _ _ _ _ (e.brackets l p o c ts rest a e1 h e2) = first_is o ts _ e1 open_round
expression_first _ _ _ _ _ (e.new_record l x u n o ts rest bs e1 e2 e3 h) = first_is u (n ∷ o ∷ ts) _ e1 new
expression_first _ _ _ _ _ (e.empty_list l u o c d n ts rest a e1 e2 h e3 e4 e5) = first_is u (o ∷ ts) _ e1 list

core_first : (n : Bool) (ts rest : List Token) (a : TypeExpr) → WritesCore n ts rest a → begins_simple ts ≡ true
core_first _ _ _ _ (ty.plain n word kind u rest i f) = first_is u rest _ i (of_plain word (kind, n) f)
core_first _ _ _ _ (ty.name x u rest i) = first_is u rest _ i refl
core_first _ _ _ _ (ty.list u o c ts rest a e1 e2 h e3) = first_is u (o ∷ ts) _ e1 list
core_first _ _ _ _ (ty.callback u rest i) = first_is u rest _ i callback
core_first _ _ _ _ (ty.callback_of u o c ts rest a e1 e2 h e3) = first_is u (o ∷ ts) _ e1 callback
core_first _ _ _ _ (ty.fragment u rest i) = first_is u rest _ i fragment
core_first _ _ _ _ (ty.fragment_of u o c ts rest a e1 e2 h e3) = first_is u (o ∷ ts) _ e1 fragment

type_first : (ts rest : List Token) (a : TypeExpr) → WritesType ts rest a → begins_simple ts ≡ true
type_first _ _ _ (ty.bare n ts rest a h) = core_first n ts rest a h
type_first _ _ _ (ty.marked q ts rest a h i) = core_first true ts (q ∷ rest) a h

declares_first : (p : Place) (ts rest : List Token) (a : Option TypeExpr) → Declares p ts rest a → begins_simple ts ≡ true
declares_first _ _ _ _ (cs.by_value u rest i) = first_is u rest _ i var
declares_first _ _ _ _ (cs.by_type ts rest a h) = type_first ts rest a h

change_first : (p : Place) (ts rest : List Token) (a : Expr) → Changes p ts rest a → begins_simple ts ≡ true
change_first _ _ _ _ (cs.assign x sign op q n u ts rest a i1 i2 i3 h) = first_is n (u ∷ ts) _ i1 refl
change_first _ _ _ _ (cs.step x sign op n u rest i1 i2 i3) = first_is n (u ∷ rest) _ i1 refl

acts_first : (p : Place) (ts rest : List Token) (a : Expr) → Acts p ts rest a → begins_simple ts ≡ true
acts_first _ _ _ _ (cs.change p ts rest a h) = change_first p ts rest a h
acts_first _ _ _ _ (cs.call p q ts rest f bs h) = expression_first 0 p ts rest _ h

simple_first : (p : Place) (ts rest : List Token) (kind : StmtKind) → cs.Simple p ts rest kind → begins_simple ts ≡ true
simple_first _ _ _ _ (cs.local x p n ts us rest a value h i j) = declares_first p ts (n ∷ us) a h
simple_first _ _ _ _ (cs.act p ts rest a h) = acts_first p ts rest a h

clash : {A : Type 0} (b : Bool) → b ≡ true → b ≡ false → A
clash b i f = let z : true ≡ false = sym i ∙ f in absurd (cc)

statement_first : (j : cs.Jumps) (f : Bool) (ts rest : List Token) (a : Stmt) → Statement j f ts rest a → is_simple a ≡ true → begins_simple ts ≡ true
statement_first _ _ _ _ _ (cs.simple j f p c ts rest kind h i) x = simple_first p ts (c ∷ rest) kind h
statement_first _ _ _ _ _ (cs.empty j f c rest i) x = first_is c rest _ i semicolon
statement_first _ _ _ _ _ (cs.await_ j f p q r u n c ts rest a bs i1 h i2) x = first_is u ts _ i1 await
statement_first _ _ _ _ _ (cs.return_ j f u c ts rest value i1 h i2) x = first_is u ts _ i1 return_word
statement_first _ _ _ _ _ (cs.block j f o c ts rest body i h l) x = clash _ x (ap (λ x. elim x [ StmtKind-F.Local cs_type name value ↦ true | StmtKind-F.Empty ↦ true | StmtKind-F.Expr b ↦ true | StmtKind-F.Await b ↦ true | StmtKind-F.Return value ↦ true | _ ↦ false ]) (st.outs-Block body))
statement_first _ _ _ _ _ (cs.if_alone j p u o c ts us rest a one i1 i2 h i3 y) x = clash _ x (ap (λ x. elim x [ StmtKind-F.Local cs_type name value ↦ true | StmtKind-F.Empty ↦ true | StmtKind-F.Expr b ↦ true | StmtKind-F.Await b ↦ true | StmtKind-F.Return value ↦ true | _ ↦ false ]) (st.outs-If a one None))
statement_first _ _ _ _ _ (cs.if_else j f p u o c d ts us vs rest a one two i1 i2 h i3 y i4 z) x = clash _ x (ap (λ x. elim x [ StmtKind-F.Local cs_type name value ↦ true | StmtKind-F.Empty ↦ true | StmtKind-F.Expr b ↦ true | StmtKind-F.Await b ↦ true | StmtKind-F.Return value ↦ true | _ ↦ false ]) (st.outs-If a one (Some two)))
statement_first _ _ _ _ _ (cs.while_ j f p u o c ts us rest a body i1 i2 h i3 y) x = clash _ x (ap (λ x. elim x [ StmtKind-F.Local cs_type name value ↦ true | StmtKind-F.Empty ↦ true | StmtKind-F.Expr b ↦ true | StmtKind-F.Await b ↦ true | StmtKind-F.Return value ↦ true | _ ↦ false ]) (st.outs-While a body))
statement_first _ _ _ _ _ (cs.for_ j f u o v n c ts us vs xs rest start condition step body i1 i2 h1 i3 h2 i4 h3 i5 y) x = clash _ x (ap (λ x. elim x [ StmtKind-F.Local cs_type name value ↦ true | StmtKind-F.Empty ↦ true | StmtKind-F.Expr b ↦ true | StmtKind-F.Await b ↦ true | StmtKind-F.Return value ↦ true | _ ↦ false ]) (st.outs-For start condition step body))
statement_first _ _ _ _ _ (cs.foreach_ j f v p u o z n i c ts us rest a body i1 i2 i3 i4 i5 h i6 y) x = clash _ x (ap (λ x. elim x [ StmtKind-F.Local cs_type name value ↦ true | StmtKind-F.Empty ↦ true | StmtKind-F.Expr b ↦ true | StmtKind-F.Await b ↦ true | StmtKind-F.Return value ↦ true | _ ↦ false ]) (st.outs-ForEach _ a body))
statement_first _ _ _ _ _ (cs.switch_ j f p u o c b d ts us rest a sections i1 i2 h i3 i4 y i5) x = clash _ x (ap (λ x. elim x [ StmtKind-F.Local cs_type name value ↦ true | StmtKind-F.Empty ↦ true | StmtKind-F.Expr b ↦ true | StmtKind-F.Await b ↦ true | StmtKind-F.Return value ↦ true | _ ↦ false ]) (st.outs-Switch a sections))
statement_first _ _ _ _ _ (cs.break_ j f u c rest i i1 i2) x = clash _ x (ap (λ x. elim x [ StmtKind-F.Local cs_type name value ↦ true | StmtKind-F.Empty ↦ true | StmtKind-F.Expr b ↦ true | StmtKind-F.Await b ↦ true | StmtKind-F.Return value ↦ true | _ ↦ false ]) st.outs-Break)
statement_first _ _ _ _ _ (cs.continue_ j f u c rest i i1 i2) x = clash _ x (ap (λ x. elim x [ StmtKind-F.Local cs_type name value ↦ true | StmtKind-F.Empty ↦ true | StmtKind-F.Expr b ↦ true | StmtKind-F.Await b ↦ true | StmtKind-F.Return value ↦ true | _ ↦ false ]) st.outs-Continue)

-- the statement that a piece's mark begins

pub by_mark : (b : Bool) (p : Place) (j : Jumps) (n : ℕ) (u : Piece) (ps : List Piece) (mark : Mark) → mark_of u.kind ≡ mark → r.statement b p j n (u ∷ ps) ≡ r.statement_by mark b p j n u ps
by_mark b p j n u ps mark i = ap (λ mark. r.statement_by mark b p j n u ps) i

pub word_mark_is : (u : Piece) (word : Word) (mark : Mark) → IsWord word u → word_mark word ≡ mark → mark_of u.kind ≡ mark
word_mark_is u word mark i e = ap mark_of i ∙ e

other_by : (p : Place) (j : Jumps) (n : ℕ) (u : Piece) (ps : List Piece) (mark : Mark) → is_other mark ≡ true → r.statement_by mark false p j n u ps ≡ r.simple_statement false n (u ∷ ps)
other_by p j n u ps m.OpenBrace i = absurd (cc)
other_by p j n u ps m.If i = absurd (cc)
other_by p j n u ps m.While i = absurd (cc)
other_by p j n u ps m.For i = absurd (cc)
other_by p j n u ps m.Foreach i = absurd (cc)
other_by p j n u ps m.Switch i = absurd (cc)
other_by p j n u ps m.Break i = absurd (cc)
other_by p j n u ps m.Continue i = absurd (cc)
other_by p j n u ps m.CloseBrace i = absurd (cc)
other_by p j n u ps m.Case i = absurd (cc)
other_by p j n u ps m.Default i = absurd (cc)
other_by p j n u ps m.Else i = absurd (cc)
other_by p j n u ps _ i = refl

simple_by : (p : Place) (j : Jumps) (n : ℕ) (ts : List Token) (rest : List Piece) → begins_simple ts ≡ true → r.statement false p j n (codes_of ts ++ rest) ≡ r.simple_statement false n (codes_of ts ++ rest)
simple_by p j n [] rest i = absurd (cc)
simple_by p j n (u ∷ ts) rest i = other_by p j n (code u) (codes_of ts ++ rest) (token_mark u.kind) i

-- a mark that may begin a statement
abbrev pub is_free : Mark → Bool
is_free m.CloseBrace = false
is_free m.Case = false
is_free m.Default = false
is_free m.Else = false
is_free _ = true

other_free : (mark : Mark) → is_other mark ≡ true → is_free mark ≡ true
other_free m.CloseBrace i = absurd (cc)
other_free m.Case i = absurd (cc)
other_free m.Default i = absurd (cc)
other_free m.Else i = absurd (cc)
other_free _ i = refl

-- a piece of code that may begin a statement stands first
pub record Starts (ps : List Piece) : Type 0 where
  pub p : Piece
  pub us : List Piece
  pub kind : TokenKind
  pub whole : ps ≡ p ∷ us
  pub is : p.kind ≡ k.Code kind
  pub free : is_free (token_mark kind) ≡ true

codes_start : (ts : List Token) (rest : List Piece) → begins_simple ts ≡ true → Starts (codes_of ts ++ rest)
codes_start [] rest i = absurd (cc)
codes_start (u ∷ ts) rest i = record { p = code u; us = codes_of ts ++ rest; kind = u.kind; whole = refl; is = refl; free = other_free (token_mark u.kind) i }

pub simple_starts : (ps rest : List Piece) (a : Stmt) → Simple ps rest a → Starts ps
simple_starts _ _ _ (g.simple ts c rest a none is h kind) =
    codes_start (ts ++ c ∷ []) rest (statement_first cs.no_jumps true (ts ++ c ∷ []) [] a h (simple_is a.place a.kind kind))

-- each form

pub simple_begins : (p : Place) (j : Jumps) (n : ℕ) (ps rest : List Piece) (a : Stmt) → FlatPieces ps → Simple ps rest a → r.statement false p j n ps ≡ Some (nx.Done (nd.Statement a), n, rest)
simple_begins p j n _ _ _ f (g.simple ts c rest a none is h kind) =
    simple_by p j n (ts ++ c ∷ []) rest (statement_first cs.no_jumps true (ts ++ c ∷ []) [] a h (simple_is a.place a.kind kind))
    ∙ simple_complete (codes_of (ts ++ c ∷ []) ++ rest) rest n a f (g.simple ts c rest a none is h kind)

brace_mark : sign_mark s.OpenBrace ≡ m.OpenBrace
unfolding sign_mark
brace_mark = refl

pub block_begins : (b : Bool) (p : Place) (j : Jumps) (n : ℕ) (o : Piece) (ps : List Piece) → IsSign s.OpenBrace o → r.statement b p j n (o ∷ ps) ≡ Some (r.begun_block p j, n, ps)
block_begins b p j n o ps i = by_mark b p j n o ps m.OpenBrace (ap mark_of i ∙ brace_mark)

if_mark : word_mark w.If ≡ m.If
unfolding word_mark
if_mark = refl

pub if_begins : (b : Bool) (p : Place) (j : Jumps) (n : ℕ) (u : Piece) (ps us : List Piece) (ts : List Token) (a : Expr) → FlatPieces ps → IsWord w.If u → Round ps ts us → SpelledExpression ts a
    → r.statement b p j n (u ∷ ps) ≡ Some (nx.Inside (fr.Yes b p j a) (wanted.Body b j), n, us)
if_begins b p j n u ps us ts a f i h x =
    by_mark b p j n u ps m.If (word_mark_is u w.If m.If i if_mark)
    ∙ bind_is (r.condition_first ps) (a, us) (λ y. Some (nx.Inside (fr.Yes b p j y.0) (wanted.Body b j), n, y.1)) (condition_complete ps us ts a f h x)

while_mark : word_mark w.While ≡ m.While
unfolding word_mark
while_mark = refl

pub while_begins : (b : Bool) (p : Place) (j : Jumps) (n : ℕ) (u : Piece) (ps us : List Piece) (ts : List Token) (a : Expr) → FlatPieces ps → IsWord w.While u → Round ps ts us → SpelledExpression ts a
    → r.statement b p j n (u ∷ ps) ≡ Some (r.inside_loop (fr.While n p a) b, n + 1, us)
while_begins b p j n u ps us ts a f i h x =
    by_mark b p j n u ps m.While (word_mark_is u w.While m.While i while_mark)
    ∙ bind_is (r.condition_first ps) (a, us) (λ y. Some (r.inside_loop (fr.While n p y.0) b, n + 1, y.1)) (condition_complete ps us ts a f h x)

foreach_mark : word_mark w.Foreach ≡ m.Foreach
unfolding word_mark
foreach_mark = refl

pub foreach_begins : (b : Bool) (p : Place) (j : Jumps) (n : ℕ) (u : Piece) (name : Token) (x : List ℕ) (ps us : List Piece) (ts : List Token) (a : Expr) → FlatPieces ps → IsWord w.Foreach u → Round ps ts us
    → ForEachHead ts name x a → r.statement b p j n (u ∷ ps) ≡ Some (r.inside_loop (fr.ForEach n p (ident name x) a) b, n + 1, us)
foreach_begins b p j n u name x ps us ts a f i h parts =
    by_mark b p j n u ps m.Foreach (word_mark_is u w.Foreach m.Foreach i foreach_mark)
    ∙ bind_is (round ps) (ts, us) (λ y. (for_each_head y.0 >>= λ z. Some (r.inside_loop (fr.ForEach n p z.0 z.1) b, n + 1, y.1))) (round_complete ps us ts h)
    ∙ bind_is (for_each_head ts) (ident name x, a) (λ z. Some (r.inside_loop (fr.ForEach n p z.0 z.1) b, n + 1, us)) (for_each_complete ts name x a (flat_round ps us ts f h) parts)

switch_mark : word_mark w.Switch ≡ m.Switch
unfolding word_mark
switch_mark = refl

open_brace_is : is_mark m.OpenBrace (k.Code (t.Sign s.OpenBrace)) ≡ true
unfolding sign_mark mark_number
open_brace_is = refl

pub switch_begins : (b : Bool) (p : Place) (j : Jumps) (n : ℕ) (u o : Piece) (ps us : List Piece) (ts : List Token) (a : Expr) → FlatPieces ps → IsWord w.Switch u → Round ps ts (o ∷ us) → SpelledExpression ts a
    → IsSign s.OpenBrace o → r.statement b p j n (u ∷ ps) ≡ Some (nx.Switch (record { place = p; value = a; jumps = r.in_switch j; room = 1; sections = [] }), n, us)
switch_begins b p j n u o ps us ts a f i h x brace =
    by_mark b p j n u ps m.Switch (word_mark_is u w.Switch m.Switch i switch_mark)
    ∙ bind_is (r.condition_first ps) (a, o ∷ us) (λ y. (after m.OpenBrace y.1 >>= λ rest. Some (nx.Switch (record { place = p; value = y.0; jumps = r.in_switch j; room = 1; sections = [] }), n, rest))) (condition_complete ps (o ∷ us) ts a f h x)
    ∙ bind_is (after m.OpenBrace (o ∷ us)) us (λ rest. Some (nx.Switch (record { place = p; value = a; jumps = r.in_switch j; room = 1; sections = [] }), n, rest)) (after_is m.OpenBrace (k.Code (t.Sign s.OpenBrace)) o us open_brace_is brace)

break_mark : word_mark w.Break ≡ m.Break
unfolding word_mark
break_mark = refl

continue_mark : word_mark w.Continue ≡ m.Continue
unfolding word_mark
continue_mark = refl

semicolon_is : is_mark m.Semicolon (k.Code (t.Sign s.Semicolon)) ≡ true
unfolding sign_mark mark_number
semicolon_is = refl

jump_is : (allowed : Bool) (p : Place) (kind : StmtKind) (n : ℕ) (c : Piece) (rest : List Piece) → allowed ≡ true → IsSign s.Semicolon c
    → r.jump allowed p kind n (c ∷ rest) ≡ Some (nx.Done (nd.Statement (stmt p kind)), n, rest)
jump_is allowed p kind n c rest i e =
    ap (λ (b : Bool). if not b then None else (after m.Semicolon (c ∷ rest) >>= λ rest. Some (nx.Done (nd.Statement (stmt p kind)), n, rest))) i
    ∙ bind_is (after m.Semicolon (c ∷ rest)) rest (λ rest. Some (nx.Done (nd.Statement (stmt p kind)), n, rest)) (after_is m.Semicolon (k.Code (t.Sign s.Semicolon)) c rest semicolon_is e)

pub break_begins : (p : Place) (j : Jumps) (n : ℕ) (u c : Piece) (rest : List Piece) → j.breaks ≡ true → IsWord w.Break u → IsSign s.Semicolon c
    → r.statement false p j n (u ∷ c ∷ rest) ≡ Some (nx.Done (g.break_at u.place), n, rest)
break_begins p j n u c rest may i e =
    by_mark false p j n u (c ∷ rest) m.Break (word_mark_is u w.Break m.Break i break_mark) ∙ jump_is (not false && j.breaks) u.place st.Break n c rest may e

pub continue_begins : (p : Place) (j : Jumps) (n : ℕ) (u c : Piece) (rest : List Piece) → j.continues ≡ true → IsWord w.Continue u → IsSign s.Semicolon c
    → r.statement false p j n (u ∷ c ∷ rest) ≡ Some (nx.Done (g.continue_at u.place), n, rest)
continue_begins p j n u c rest may i e =
    by_mark false p j n u (c ∷ rest) m.Continue (word_mark_is u w.Continue m.Continue i continue_mark) ∙ jump_is (not false && j.continues) u.place st.Continue n c rest may e
