-- What is a local, a change or a call is read.
use Rattle.std.proofs.Common.{◌≡◌, ℕ, zero, suc, ◌+◌, ◌-◌, ◌<◌, ◌≤◌, List, [], ◌∷◌, length, refl, sym, ap, ◌∙◌, subst, arith}
use Rattle.std.specs.Prelude.{Bool, true, false, if◌then◌else◌, Option, Some, None}
use Rattle.text_core.specs.declared.place.Place.{Place}
use Rattle.cs_ast.specs.declared.cs_type.TypeExpr.{TypeExpr}
use Rattle.cs_ast.specs.declared.cs_type.TypeKind.{TypeKind}
use Rattle.cs_ast.specs.declared.cs_type.TypeKind.TheVariants as ty
use Rattle.cs_ast.specs.declared.expression.Expr.{Expr}
use Rattle.cs_ast.specs.declared.expression.ExprKind.{ExprKind, ExprKind-F}
use Rattle.cs_ast.specs.declared.expression.ExprKind.TheVariants as ek
use Rattle.cs_ast.specs.declared.expression.Stmt.{Stmt}
use Rattle.cs_ast.specs.declared.expression.StmtKind.{StmtKind}
use Rattle.cs_ast.specs.declared.expression.StmtKind.TheVariants as st
use Rattle.cs_ast.specs.declared.operators.AssignOp.{AssignOp}
use Rattle.cs_ast.specs.declared.operators.CastOp.TheVariants as co
use Rattle.cs_ast.specs.declared.operators.StaticType.{StaticType}
use Rattle.cs_ast.specs.declared.operators.StepOp.{StepOp}
use Rattle.cs_token.specs.declared.token.Token.{Token}
use Rattle.cs_token.specs.declared.token.TokenKind.{TokenKind}
use Rattle.cs_token.specs.declared.token.TokenKind.TheVariants as k
use Rattle.cs_token.specs.declared.token.Sign.{Sign}
use Rattle.cs_token.specs.declared.token.Sign.TheVariants as s
use Rattle.cs_token.specs.declared.token.Word.{Word}
use Rattle.cs_token.specs.declared.token.Word.TheVariants as w
use Rattle.cs_grammar.specs.Tokens.{IsSign, IsWord, IsName, ident}
use Rattle.cs_grammar.specs.Tables.{assignment, step_operator, literal, static_type, plain_type}
use Rattle.cs_grammar.specs.Types.{WritesType, type_at}
use Rattle.cs_grammar.specs.Types as gt
use Rattle.cs_grammar.specs.Expressions.{node, Spells}
use Rattle.cs_grammar.specs.Expressions as g
use Rattle.cs_grammar.specs.Statements.{stmt, Changes, Acts, Declares, Initial, Simple, Start, Condition, Step}
use Rattle.cs_grammar.specs.Statements as gs
use Rattle.cs_parse.specs.Numbers.{sign_number, word_number}
use Rattle.cs_parse.specs.declared.statement.frame.Beginning.TheVariants as b
use Rattle.cs_parse.specs.declared.statement.simple.Change.{Change}
use Rattle.cs_parse.specs.declared.statement.simple.Change.TheVariants as c
use Rattle.cs_parse.specs.Reading.{Read, ◌>>=◌, after, has_sign, is_sign, is_word, name_first}
use Rattle.cs_parse.specs.TypeReading.{type_in, type_first, former}
use Rattle.cs_parse.specs.TypeReading as rt
use Rattle.cs_parse.specs.ExpressionReading.{expr_first, next, going, going_sign, strength}
use Rattle.cs_parse.specs.ExpressionReading as re
use Rattle.cs_parse.specs.declared.tables.Going.TheVariants as go
use Rattle.cs_parse.specs.TreeViews.{is_call}
use Rattle.cs_parse.specs.SimpleReading as r
use Rattle.cs_parse.specs.SimpleReading.{after_word, place_first, has_name, is_name, change_of, changing, change_first, local_type, act, initial, simple, simple_first, start_first, condition_first, step_first}
use Rattle.cs_parse.specs.StatementReading.{beginning, by_sign, by_word}
use Rattle.cs_parse.proofs.TokenLemmas.{after_yes, after_not, name_yes, is_that_sign, is_that_word}
use Rattle.cs_parse.proofs.TypeComplete.{Ends, type_complete, name_ends}
use Rattle.cs_parse.proofs.TypeLaws.{type_law}
use Rattle.cs_parse.proofs.ExpressionComplete.{first_complete}
use Rattle.cs_parse.proofs.LevelLemmas.{levels}
use Rattle.cs_parse.proofs.HeadLemmas.{Heads, expression_heads, type_heads, var_simple}
use Rattle.cs_parse.proofs.TreeLemmas.{call_is}

-- an expression and an initial value end there
pub record Stops (rest : List Token) : Type 0 where
  pub quiet : next rest ≤ 0
  pub no_assign : after s.Assign rest ≡ None

stops_by : (sign : Sign) (t : Token) (rest : List Token) → IsSign sign t → going_sign sign ≡ go.Nothing → is_sign s.Assign (k.Sign sign) ≡ false → Stops (t ∷ rest)
stops_by sign t rest e q d = record {
  quiet = let z : next (t ∷ rest) ≡ 0 = ap (λ kind. strength (going kind)) e ∙ ap strength q in omega (arith, z);
  no_assign = after_not s.Assign t rest (ap (is_sign s.Assign) e ∙ d);
}

semicolon_quiet : going_sign s.Semicolon ≡ go.Nothing
unfolding going_sign
semicolon_quiet = refl

semicolon_no_assign : is_sign s.Assign (k.Sign s.Semicolon) ≡ false
unfolding sign_number
semicolon_no_assign = refl

close_quiet : going_sign s.CloseRound ≡ go.Nothing
unfolding going_sign
close_quiet = refl

close_no_assign : is_sign s.Assign (k.Sign s.CloseRound) ≡ false
unfolding sign_number
close_no_assign = refl

pub semicolon_stops : (t : Token) (rest : List Token) → IsSign s.Semicolon t → Stops (t ∷ rest)
semicolon_stops t rest e = stops_by s.Semicolon t rest e semicolon_quiet semicolon_no_assign

pub close_stops : (t : Token) (rest : List Token) → IsSign s.CloseRound t → Stops (t ∷ rest)
close_stops t rest e = stops_by s.CloseRound t rest e close_quiet close_no_assign

pub expression_read : (p : Place) (ts rest : List Token) (a : Expr) → next rest ≤ 0 → Spells 0 p ts rest a → expr_first 0 ts ≡ Some (a, rest)
expression_read p ts rest a q sp = first_complete 0 p ts rest a q sp

-- a local is read by its type and its name
var_local : (ts us : List Token) → after_word w.Var ts ≡ Some us → has_name us ≡ true → local_type ts ≡ Some (None, us)
var_local ts us e h =
    ap (λ o. (elim o [ Some q ↦ Some (None, q) | None ↦ type_first ts >>= r.some ]) >>= λ x. if has_name x.1 then Some x else None) e
    ∙ ap (λ d. if d then Some (None, us) else None) h

typed_local : (ts us : List Token) (a : TypeExpr) (d : Bool) → after_word w.Var ts ≡ None → type_first ts ≡ Some (a, us) → has_name us ≡ d → local_type ts ≡ (if d then Some (Some a, us) else None)
typed_local ts us a d e t h =
    ap (λ o. (elim o [ Some q ↦ Some (None, q) | None ↦ type_first ts >>= r.some ]) >>= λ x. if has_name x.1 then Some x else None) e
    ∙ ap (λ o. (o >>= r.some) >>= λ x. if has_name x.1 then Some x else None) t
    ∙ ap (λ d. if d then Some (Some a, us) else None) h

no_type : (ts : List Token) → after_word w.Var ts ≡ None → type_first ts ≡ None → local_type ts ≡ None
no_type ts e t =
    ap (λ o. (elim o [ Some q ↦ Some (None, q) | None ↦ type_first ts >>= r.some ]) >>= λ x. if has_name x.1 then Some x else None) e
    ∙ ap (λ o. (o >>= r.some) >>= λ x. if has_name x.1 then Some x else None) t

no_var : (t : Token) (ts : List Token) → is_word w.Var t.kind ≡ false → after_word w.Var (t ∷ ts) ≡ None
no_var t ts e = ap (λ d. if d then Some ts else None) e

-- neither a local nor a change
record Unlocal (ts : List Token) : Type 0 where
  no_local : local_type ts ≡ None
  no_change : change_first ts ≡ None

no_name : (t : Token) (ts : List Token) → is_name t.kind ≡ false → change_first (t ∷ ts) ≡ None
no_name t [] e = refl
no_name t (u ∷ us) e = ap (λ d. if d then (changing u.kind >>= λ x. Some (x, us)) else None) e

-- a token with which no type begins
untyped : (t : Token) (ts : List Token) (kind : TokenKind) → t.kind ≡ kind → ((self : List Token → Read TypeExpr) → rt.of_kind self kind t.place ts ≡ None) → type_first (t ∷ ts) ≡ None
unfolding type_first
untyped t ts kind e h =
    type_law (length (t ∷ ts) + 1) (t ∷ ts) (omega arith)
    ∙ ap (λ x. rt.of_kind (type_in (length (t ∷ ts) + 1 - 1)) x t.place ts >>= λ x. Some (x.0.0, rt.unmarked x.0.1 x.1)) e
    ∙ ap (λ o. o >>= λ x. Some (x.0.0, rt.unmarked x.0.1 x.1)) (h (type_in (length (t ∷ ts) + 1 - 1)))

unlocal_by : (t : Token) (ts : List Token) (kind : TokenKind) → t.kind ≡ kind → is_word w.Var kind ≡ false → is_name kind ≡ false →
    ((self : List Token → Read TypeExpr) → rt.of_kind self kind t.place ts ≡ None) → Unlocal (t ∷ ts)
unlocal_by t ts kind e v n h = record { no_local = no_type (t ∷ ts) (no_var t ts (ap (is_word w.Var) e ∙ v)) (untyped t ts kind e h); no_change = no_name t ts (ap is_name e ∙ n) }

-- a word with which no type begins
untyped_word : (word : Word) (p : Place) (ts : List Token) → plain_type word ≡ None → former word ≡ None → (self : List Token → Read TypeExpr) → rt.of_word self word p ts ≡ None
untyped_word word p ts e1 e2 self =
    ap (λ o. elim o [ Some x ↦ Some ((type_at p x.0, x.1), ts) | None ↦ former word >>= λ x. rt.formed self x p ts ]) e1
    ∙ ap (λ o. o >>= λ x. rt.formed self x p ts) e2

record Wordless (word : Word) : Type 0 where
  no_var_word : is_word w.Var (k.Word word) ≡ false
  plain : plain_type word ≡ None
  formless : former word ≡ None

unlocal_word : (word : Word) (t : Token) (ts : List Token) → IsWord word t → Wordless word → Unlocal (t ∷ ts)
unlocal_word word t ts e x = unlocal_by t ts (k.Word word) e x.no_var_word refl (λ self. untyped_word word t.place ts x.plain x.formless self)

literal_wordless : (word : Word) (kind : ExprKind) → literal word ≡ Some kind → Wordless word
unfolding literal word_number plain_type former
literal_wordless w.True kind e = record { no_var_word = refl; plain = refl; formless = refl }
literal_wordless w.False kind e = record { no_var_word = refl; plain = refl; formless = refl }
literal_wordless w.Null kind e = record { no_var_word = refl; plain = refl; formless = refl }
literal_wordless _ kind e = absurd (cc)

new_wordless : Wordless w.New
unfolding word_number plain_type former
new_wordless = record { no_var_word = refl; plain = refl; formless = refl }

list_no_var : is_word w.Var (k.Word w.ImmutableList) ≡ false
unfolding word_number
list_no_var = refl

-- the words before `.`
record Static (word : Word) : Type 0 where
  kind : TypeKind
  nullable : Bool
  is : plain_type word ≡ Some (kind, nullable)
  no_var_word : is_word w.Var (k.Word word) ≡ false

static_of : (word : Word) (owner : StaticType) → static_type word ≡ Some owner → Static word
unfolding static_type plain_type word_number
static_of w.Int owner e = record { kind = ty.Int; nullable = false; is = refl; no_var_word = refl }
static_of w.String owner e = record { kind = ty.Text; nullable = true; is = refl; no_var_word = refl }
static_of _ owner e = absurd (cc)

-- a sign behind a type or a name that goes on with neither, and changes nothing
record Joins (sign : Sign) : Type 0 where
  no_less : is_sign s.Less (k.Sign sign) ≡ false
  no_question : is_sign s.Question (k.Sign sign) ≡ false

joins_end : (sign : Sign) (t : Token) (rest : List Token) → IsSign sign t → Joins sign → Ends (t ∷ rest)
joins_end sign t rest e x = record { no_less = ap (is_sign s.Less) e ∙ x.no_less; no_question = after_not s.Question t rest (ap (is_sign s.Question) e ∙ x.no_question) }

dot_joins : Joins s.Dot
unfolding sign_number
dot_joins = record { no_less = refl; no_question = refl }

round_joins : Joins s.OpenRound
unfolding sign_number
round_joins = record { no_less = refl; no_question = refl }

square_joins : Joins s.OpenSquare
unfolding sign_number
square_joins = record { no_less = refl; no_question = refl }

dot_unchanged : change_of s.Dot ≡ None
unfolding assignment step_operator
dot_unchanged = refl

round_unchanged : change_of s.OpenRound ≡ None
unfolding assignment step_operator
round_unchanged = refl

square_unchanged : change_of s.OpenSquare ≡ None
unfolding assignment step_operator
square_unchanged = refl

-- what is written as a type before a sign is no local
type_unlocal : (ts us : List Token) (sign : Sign) (o : Token) (a : TypeExpr) → after_word w.Var ts ≡ None → WritesType ts (o ∷ us) a → IsSign sign o → Joins sign → local_type ts ≡ None
type_unlocal ts us sign o a e t i j = typed_local ts (o ∷ us) a false e (type_complete ts (o ∷ us) a (joins_end sign o us i j) t) (ap is_name i)

name_unlocal : (x : List ℕ) (sign : Sign) (t o : Token) (us : List Token) → IsName x t → IsSign sign o → Joins sign → local_type (t ∷ o ∷ us) ≡ None
name_unlocal x sign t o us e i j =
    type_unlocal (t ∷ o ∷ us) us sign o (type_at t.place (ty.Named x)) (no_var t (o ∷ us) (ap (is_word w.Var) e)) (gt.bare true (t ∷ o ∷ us) (o ∷ us) (type_at t.place (ty.Named x)) (gt.name x t (o ∷ us) e)) i j

unchanged : (t o : Token) (us : List Token) (sign : Sign) → IsSign sign o → change_of sign ≡ None → change_first (t ∷ o ∷ us) ≡ None
unchanged t o us sign i e = ap (λ y. if is_name t.kind then (y >>= λ x. Some (x, us)) else None) (ap changing i ∙ e) ∙ same (is_name t.kind)
  where
    same : (d : Bool) → ◌≡◌ {A = Option (Change × List Token)} (if d then (None >>= λ x. Some (x, us)) else None) None
    same true = refl
    same false = refl

-- what stands before `.`, `(` or `[` begins as no local and no change does
front : (l : ℕ) (p : Place) (ts rest : List Token) (a : Expr) → Spells l p ts rest a → 12 ≤ l → (sign : Sign) (o : Token) (os : List Token) → rest ≡ o ∷ os → IsSign sign o → Joins sign → change_of sign ≡ None → Unlocal ts
front l p ts rest a (g.conditional _ _ q v t c _ us vs _ x y z h2 s1 e1 s2 e2 s3) h sign o os m i j u = absurd (omega arith)
front l p ts rest a (g.binary _ sign' op _ q t _ us _ x y h2 s1 e1 e2 s2) h sign o os m i j u = let small = (levels op).level_small in absurd (omega arith)
front l p ts rest a (g.with_parts _ _ t o' c _ us _ x parts h2 s1 e1 e2 s2 e3) h sign o os m i j u = absurd (omega arith)
front l p ts rest a (g.unary _ sign' op q t us _ x h2 e1 e2 s1) h sign o os m i j u = absurd (omega arith)
front l p ts rest a (g.cast _ q o' t c us _ x h2 e1 e2 e3 s1) h sign o os m i j u = absurd (omega arith)
front l p ts rest a (g.null_member _ n _ d t _ _ x h2 s1 e1 e2) h sign o os m i j u = absurd (omega arith)
front l p ts rest a (g.member _ n _ d t _ _ x h2 s1 e1 e2) h sign o os m i j u = front 13 p ts (d ∷ t ∷ rest) x s1 (omega arith) s.Dot d (t ∷ rest) refl e1 dot_joins dot_unchanged
front l p ts rest a (g.call _ _ o' _ us _ x bs h2 s1 e1 s2) h sign o os m i j u = front 13 p ts (o' ∷ us) x s1 (omega arith) s.OpenRound o' us refl e1 round_joins round_unchanged
front l p ts rest a (g.index _ _ q o' c _ us _ x y h2 s1 e1 s2 e2) h sign o os m i j u = front 13 p ts (o' ∷ us) x s1 (omega arith) s.OpenSquare o' us refl e1 square_joins square_unchanged
front l p ts rest a (g.number _ n t _ e) h sign o os m i j u = unlocal_by t rest (k.Number n) e refl refl (λ self. refl)
front l p ts rest a (g.text _ n t _ e) h sign o os m i j u = unlocal_by t rest (k.Text n) e refl refl (λ self. refl)
front l p ts rest a (g.literals _ word kind t _ e1 e2) h sign o os m i j u = unlocal_word word t rest e1 (literal_wordless word kind e2)
front l p ts rest a (g.interpolated _ o' c us _ parts e1 s1 e2) h sign o os m i j u = unlocal_by o' us (k.Sign s.InterpolationStart) e1 refl refl (λ self. refl)
front l p ts rest a (g.name _ n t _ e) h sign o os m i j u =
    subst (λ l. Unlocal (t ∷ l)) (sym m) (record { no_local = name_unlocal n sign t o os e i j; no_change = unchanged t o os sign i u })
front l p ts rest a (g.static _ word owner n t d x _ e1 e2 e3 e4) h sign o os m i j u =
    let y = static_of word owner e2 in
    record {
      no_local = type_unlocal (t ∷ d ∷ x ∷ rest) (x ∷ rest) s.Dot d (type_at t.place y.kind) (no_var t (d ∷ x ∷ rest) (ap (is_word w.Var) e1 ∙ y.no_var_word))
          (gt.bare y.nullable (t ∷ d ∷ x ∷ rest) (d ∷ x ∷ rest) (type_at t.place y.kind) (gt.plain y.nullable word y.kind t (d ∷ x ∷ rest) e1 y.is)) e3 dot_joins;
      no_change = no_name t (d ∷ x ∷ rest) (ap is_name e1);
    }
front l p ts rest a (g.brackets _ q o' c us _ _ e1 s1 e2) h sign o os m i j u = unlocal_by o' us (k.Sign s.OpenRound) e1 refl refl (λ self. refl)
front l p ts rest a (g.new_record _ n t x o' us _ bs e1 e2 e3 s1) h sign o os m i j u = unlocal_word w.New t (x ∷ o' ∷ us) e1 new_wordless
front l p ts rest a (g.empty_list _ t o' c d n us _ x e1 e2 wr e3 e4 e5) h sign o os m i j u = record {
  no_local = type_unlocal (t ∷ o' ∷ us) (n ∷ rest) s.Dot d (type_at t.place (ty.List x)) (no_var t (o' ∷ us) (ap (is_word w.Var) e1 ∙ list_no_var))
      (gt.bare true (t ∷ o' ∷ us) (d ∷ n ∷ rest) (type_at t.place (ty.List x)) (gt.list t o' c us (d ∷ n ∷ rest) x e1 e2 wr e3)) e4 dot_joins;
  no_change = no_name t (o' ∷ us) (ap is_name e1);
}

literal_no_call : (word : Word) (kind : ExprKind) (p : Place) → literal word ≡ Some kind → is_call (node p kind) ≡ false
unfolding literal
literal_no_call w.True kind p e = let z : ek.Bool true ≡ kind = cc in ap (λ x. is_call (node p x)) (sym z) ∙ ap (λ v. elim v [ ExprKind-F.Call f bs ↦ true | _ ↦ false ]) (ek.outs-Bool true)
literal_no_call w.False kind p e = let z : ek.Bool false ≡ kind = cc in ap (λ x. is_call (node p x)) (sym z) ∙ ap (λ v. elim v [ ExprKind-F.Call f bs ↦ true | _ ↦ false ]) (ek.outs-Bool false)
literal_no_call w.Null kind p e = let z : ek.Null ≡ kind = cc in ap (λ x. is_call (node p x)) (sym z) ∙ ap (λ v. elim v [ ExprKind-F.Call f bs ↦ true | _ ↦ false ]) ek.outs-Null
literal_no_call _ kind p e = absurd (cc)

-- so does a call
call_front : (l : ℕ) (p : Place) (ts rest : List Token) (a : Expr) → Spells l p ts rest a → is_call a ≡ true → Unlocal ts
call_front l p ts rest a (g.conditional _ _ q v t c _ us vs _ x y z h2 s1 e1 s2 e2 s3) i = let z : false ≡ true = sym (ap (λ v. elim v [ ExprKind-F.Call f bs ↦ true | _ ↦ false ]) (ek.outs-Conditional x y z)) ∙ i in absurd (cc)
call_front l p ts rest a (g.binary _ sign op _ q t _ us _ x y h2 s1 e1 e2 s2) i = let z : false ≡ true = sym (ap (λ v. elim v [ ExprKind-F.Call f bs ↦ true | _ ↦ false ]) (ek.outs-Binary op x y)) ∙ i in absurd (cc)
call_front l p ts rest a (g.with_parts _ _ t o c _ us _ x parts h2 s1 e1 e2 s2 e3) i = let z : false ≡ true = sym (ap (λ v. elim v [ ExprKind-F.Call f bs ↦ true | _ ↦ false ]) (ek.outs-With x parts)) ∙ i in absurd (cc)
call_front l p ts rest a (g.unary _ sign op q t us _ x h2 e1 e2 s1) i = let z : false ≡ true = sym (ap (λ v. elim v [ ExprKind-F.Call f bs ↦ true | _ ↦ false ]) (ek.outs-Unary op x)) ∙ i in absurd (cc)
call_front l p ts rest a (g.cast _ q o t c us _ x h2 e1 e2 e3 s1) i = let z : false ≡ true = sym (ap (λ v. elim v [ ExprKind-F.Call f bs ↦ true | _ ↦ false ]) (ek.outs-Cast co.Text x)) ∙ i in absurd (cc)
call_front l p ts rest a (g.null_member _ n _ d t _ _ x h2 s1 e1 e2) i = let z : false ≡ true = sym (ap (λ v. elim v [ ExprKind-F.Call f bs ↦ true | _ ↦ false ]) (ek.outs-NullMember x (ident t n))) ∙ i in absurd (cc)
call_front l p ts rest a (g.member _ n _ d t _ _ x h2 s1 e1 e2) i = let z : false ≡ true = sym (ap (λ v. elim v [ ExprKind-F.Call f bs ↦ true | _ ↦ false ]) (ek.outs-Member x (ident t n))) ∙ i in absurd (cc)
call_front l p ts rest a (g.index _ _ q o c _ us _ x y h2 s1 e1 s2 e2) i = let z : false ≡ true = sym (ap (λ v. elim v [ ExprKind-F.Call f bs ↦ true | _ ↦ false ]) (ek.outs-Index x y)) ∙ i in absurd (cc)
call_front l p ts rest a (g.number _ n t _ e) i = let z : false ≡ true = sym (ap (λ v. elim v [ ExprKind-F.Call f bs ↦ true | _ ↦ false ]) (ek.outs-Int n)) ∙ i in absurd (cc)
call_front l p ts rest a (g.text _ n t _ e) i = let z : false ≡ true = sym (ap (λ v. elim v [ ExprKind-F.Call f bs ↦ true | _ ↦ false ]) (ek.outs-Text n)) ∙ i in absurd (cc)
call_front l p ts rest a (g.interpolated _ o c us _ parts e1 s1 e2) i = let z : false ≡ true = sym (ap (λ v. elim v [ ExprKind-F.Call f bs ↦ true | _ ↦ false ]) (ek.outs-Interpolated parts)) ∙ i in absurd (cc)
call_front l p ts rest a (g.name _ n t _ e) i = let z : false ≡ true = sym (ap (λ v. elim v [ ExprKind-F.Call f bs ↦ true | _ ↦ false ]) (ek.outs-Name n)) ∙ i in absurd (cc)
call_front l p ts rest a (g.static _ word owner n t d m _ e1 e2 e3 e4) i = let z : false ≡ true = sym (ap (λ v. elim v [ ExprKind-F.Call f bs ↦ true | _ ↦ false ]) (ek.outs-Static owner (ident m n))) ∙ i in absurd (cc)
call_front l p ts rest a (g.new_record _ n t m o us _ bs e1 e2 e3 s1) i = let z : false ≡ true = sym (ap (λ v. elim v [ ExprKind-F.Call f bs ↦ true | _ ↦ false ]) (ek.outs-New (ident m n) bs)) ∙ i in absurd (cc)
call_front l p ts rest a (g.empty_list _ t o c d n us _ x e1 e2 wr e3 e4 e5) i = let z : false ≡ true = sym (ap (λ v. elim v [ ExprKind-F.Call f bs ↦ true | _ ↦ false ]) (ek.outs-EmptyList x)) ∙ i in absurd (cc)
call_front l p ts rest a (g.literals _ word kind t _ e1 e2) i = let z : false ≡ true = sym (literal_no_call word kind t.place e2) ∙ i in absurd (cc)
call_front l p ts rest a (g.call _ _ o _ us _ x bs h2 s1 e1 s2) i = front 13 p ts (o ∷ us) x s1 (omega arith) s.OpenRound o us refl e1 round_joins round_unchanged
call_front l p ts rest a (g.brackets _ q o c us _ _ e1 s1 e2) i = unlocal_by o us (k.Sign s.OpenRound) e1 refl refl (λ self. refl)

-- the signs of changes
record Changer (sign : Sign) (change : Change) : Type 0 where
  is : change_of sign ≡ Some change
  joins : Joins sign

assigner_joins : (sign : Sign) (op : AssignOp) → assignment sign ≡ Some op → Joins sign
unfolding assignment sign_number
assigner_joins s.Assign op e = record { no_less = refl; no_question = refl }
assigner_joins s.AddAssign op e = record { no_less = refl; no_question = refl }
assigner_joins s.SubtractAssign op e = record { no_less = refl; no_question = refl }
assigner_joins s.MultiplyAssign op e = record { no_less = refl; no_question = refl }
assigner_joins s.DivideAssign op e = record { no_less = refl; no_question = refl }
assigner_joins s.RemainderAssign op e = record { no_less = refl; no_question = refl }
assigner_joins _ op e = absurd (cc)

assigner : (sign : Sign) (op : AssignOp) → assignment sign ≡ Some op → Changer sign (c.Assign op)
assigner sign op e = record { is = ap (λ o. elim o [ Some p ↦ Some (c.Assign p) | None ↦ r.step_of sign ]) e; joins = assigner_joins sign op e }

stepper : (sign : Sign) (op : StepOp) → step_operator sign ≡ Some op → Changer sign (c.Step op)
unfolding step_operator assignment sign_number
stepper s.PlusPlus op e = record { is = ap (λ o. elim o [ Some p ↦ Some (c.Step p) | None ↦ None ]) e; joins = record { no_less = refl; no_question = refl } }
stepper s.MinusMinus op e = record { is = ap (λ o. elim o [ Some p ↦ Some (c.Step p) | None ↦ None ]) e; joins = record { no_less = refl; no_question = refl } }
stepper _ op e = absurd (cc)

change_read : (x : List ℕ) (sign : Sign) (change : Change) (n t : Token) (ts : List Token) → IsName x n → IsSign sign t → Changer sign change → change_first (n ∷ t ∷ ts) ≡ Some (change, ts)
change_read x sign change n t ts e1 e2 y =
    ap (λ d. if d then (changing t.kind >>= λ x. Some (x, ts)) else None) (ap is_name e1)
    ∙ ap (λ o. o >>= λ x. Some (x, ts)) (ap changing e2 ∙ y.is)

changed_read : (x : List ℕ) (sign : Sign) (change : Change) (n t : Token) (ts rest : List Token) (a : Expr) → IsName x n → IsSign sign t → Changer sign change → r.changed change (ident n x) ts ≡ Some (a, rest) → act (n ∷ t ∷ ts) ≡ Some (a, rest)
changed_read x sign change n t ts rest a e1 e2 y e =
    ap (λ o. elim o [ Some z ↦ name_first (n ∷ t ∷ ts) >>= (λ i. r.changed z.0 i.0 z.1) | None ↦ r.called (n ∷ t ∷ ts) ]) (change_read x sign change n t ts e1 e2 y)
    ∙ ap (λ o. o >>= λ i. r.changed change i.0 ts) (name_yes x n (t ∷ ts) e1)
    ∙ e

-- what is a change or a call is read as one, and not as a local
record Read_act (ts rest : List Token) (a : Expr) : Type 0 where
  read : act ts ≡ Some (a, rest)
  no_local : local_type ts ≡ None

changes_read : (p : Place) (ts rest : List Token) (a : Expr) → next rest ≤ 0 → Changes p ts rest a → Read_act ts rest a
changes_read p ts rest a q (gs.assign x sign op v n t us _ d e1 e2 e3 sp) = record {
  read = changed_read x sign (c.Assign op) n t us rest (node n.place (ek.Assign op (ident n x) d)) e1 e2 (assigner sign op e3)
      (ap (λ o. o >>= λ y. Some (node n.place (ek.Assign op (ident n x) y.0), y.1)) (expression_read v us rest d q sp));
  no_local = name_unlocal x sign n t us e1 e2 (assigner sign op e3).joins;
}
changes_read p ts rest a q (gs.step x sign op n t _ e1 e2 e3) = record {
  read = changed_read x sign (c.Step op) n t rest rest (node n.place (ek.Step op (ident n x))) e1 e2 (stepper sign op e3) refl;
  no_local = name_unlocal x sign n t rest e1 e2 (stepper sign op e3).joins;
}

acts_read : (p : Place) (ts rest : List Token) (a : Expr) → next rest ≤ 0 → Acts p ts rest a → Read_act ts rest a
acts_read p ts rest a q (gs.change _ _ _ _ x) = changes_read p ts rest a q x
acts_read p ts rest a q (gs.call _ v _ _ d bs sp) =
    let y = call_front 0 p ts rest (node v (ek.Call d bs)) sp (call_is v d bs) in
    record {
      read = ap (λ o. elim o [ Some z ↦ name_first ts >>= (λ i. r.changed z.0 i.0 z.1) | None ↦ r.called ts ]) y.no_change
          ∙ ap (λ o. o >>= λ x. if is_call x.0 then Some x else None) (expression_read p ts rest (node v (ek.Call d bs)) q sp)
          ∙ ap (λ z. if z then Some (node v (ek.Call d bs), rest) else None) (call_is v d bs);
      no_local = y.no_local;
    }

initial_read : (ts rest : List Token) (value : Option Expr) → Stops rest → Initial ts rest value → initial ts ≡ Some (value, rest)
initial_read ts rest value h (gs.none _) = ap (λ o. elim o [ Some q ↦ expr_first 0 q >>= r.some | None ↦ Some (None, rest) ]) h.no_assign
initial_read ts rest value h (gs.some p t us _ a e sp) =
    ap (λ o. elim o [ Some q ↦ expr_first 0 q >>= r.some | None ↦ Some (None, t ∷ us) ]) (after_yes s.Assign t us e)
    ∙ ap (λ o. o >>= r.some) (expression_read p us rest a h.quiet sp)

-- the tokens begin at the place as a local, a change or a call does
abbrev pub Head : Place → List Token → Type 0
Head p ts = Heads p ts []

heading : (p : Place) (ts rest : List Token) → Heads p ts rest → Head p ts
heading p ts rest x = record { t = x.t; us = x.us; whole = x.whole; place = x.place; simple = x.simple; shorter = omega arith }

declares_head : (p : Place) (ts rest : List Token) (a : Option TypeExpr) → Declares p ts rest a → Head p ts
declares_head p ts rest a (gs.by_value t _ e) = record { t = t; us = rest; whole = refl; place = refl; simple = ap beginning e ∙ var_simple; shorter = omega arith }
declares_head p ts rest a (gs.by_type _ _ d x) = heading d.place ts rest (type_heads ts rest d x)

changes_head : (p : Place) (ts rest : List Token) (a : Expr) → Changes p ts rest a → Head p ts
changes_head p ts rest a (gs.assign x sign op v n t us _ d e1 e2 e3 sp) = record { t = n; us = t ∷ us; whole = refl; place = refl; simple = ap beginning e1; shorter = omega arith }
changes_head p ts rest a (gs.step x sign op n t _ e1 e2 e3) = record { t = n; us = t ∷ rest; whole = refl; place = refl; simple = ap beginning e1; shorter = omega arith }

acts_head : (p : Place) (ts rest : List Token) (a : Expr) → Acts p ts rest a → Head p ts
acts_head p ts rest a (gs.change _ _ _ _ x) = changes_head p ts rest a x
acts_head p ts rest a (gs.call _ v _ _ d bs sp) = heading p ts rest (expression_heads 0 p ts rest (node v (ek.Call d bs)) sp)

pub simple_head : (p : Place) (ts rest : List Token) (kind : StmtKind) → Simple p ts rest kind → Head p ts
simple_head p ts rest kind (gs.local x _ n _ us _ a value d e i) = declares_head p ts (n ∷ us) a d
simple_head p ts rest kind (gs.act _ _ _ a x) = acts_head p ts rest a x

plain_no_var : (word : Word) (x : TypeKind × Bool) → plain_type word ≡ Some x → is_word w.Var (k.Word word) ≡ false
unfolding plain_type word_number
plain_no_var w.Var x e = absurd (cc)
plain_no_var _ x e = refl

callback_no_var : is_word w.Var (k.Word w.EventCallback) ≡ false
unfolding word_number
callback_no_var = refl

fragment_no_var : is_word w.Var (k.Word w.RenderFragment) ≡ false
unfolding word_number
fragment_no_var = refl

core_no_var : (nullable : Bool) (ts rest : List Token) (a : TypeExpr) → gt.WritesCore nullable ts rest a → after_word w.Var ts ≡ None
core_no_var nullable ts rest a (gt.plain _ word kind t _ e1 e2) = no_var t rest (ap (is_word w.Var) e1 ∙ plain_no_var word (kind, nullable) e2)
core_no_var nullable ts rest a (gt.name x t _ e) = no_var t rest (ap (is_word w.Var) e)
core_no_var nullable ts rest a (gt.list t o c us _ d e1 e2 x e3) = no_var t (o ∷ us) (ap (is_word w.Var) e1 ∙ list_no_var)
core_no_var nullable ts rest a (gt.callback t _ e) = no_var t rest (ap (is_word w.Var) e ∙ callback_no_var)
core_no_var nullable ts rest a (gt.callback_of t o c us _ d e1 e2 x e3) = no_var t (o ∷ us) (ap (is_word w.Var) e1 ∙ callback_no_var)
core_no_var nullable ts rest a (gt.fragment t _ e) = no_var t rest (ap (is_word w.Var) e ∙ fragment_no_var)
core_no_var nullable ts rest a (gt.fragment_of t o c us _ d e1 e2 x e3) = no_var t (o ∷ us) (ap (is_word w.Var) e1 ∙ fragment_no_var)

declares_read : (p : Place) (ts us : List Token) (x : List ℕ) (n : Token) (a : Option TypeExpr) → Declares p ts (n ∷ us) a → IsName x n → local_type ts ≡ Some (a, n ∷ us)
declares_read p ts us x n a (gs.by_value t _ e) i = var_local (t ∷ n ∷ us) (n ∷ us) (ap (λ d. if d then Some (n ∷ us) else None) (is_that_word w.Var t e)) (ap is_name i)
declares_read p ts us x n a (gs.by_type _ _ d y) i =
    typed_local ts (n ∷ us) d true (no_var_type d.place ts (n ∷ us) d y) (type_complete ts (n ∷ us) d (name_ends x n us i) y) (ap is_name i)
  where
    no_var_type : (p : Place) (ts rest : List Token) (a : TypeExpr) → WritesType ts rest a → after_word w.Var ts ≡ None
    no_var_type p ts rest a (gt.bare nullable _ _ _ z) = core_no_var nullable ts rest a z
    no_var_type p ts rest a (gt.marked q _ _ _ z e) = core_no_var true ts (q ∷ rest) a z

simple_read : (p : Place) (ts rest : List Token) (kind : StmtKind) → Stops rest → Simple p ts rest kind → simple ts ≡ Some (kind, rest)
simple_read p ts rest kind h (gs.local x _ n _ us _ a value d e i) =
    ap (λ o. elim o [ Some y ↦ r.local y.0 y.1 | None ↦ act ts >>= (λ y. Some (st.Expr y.0, y.1)) ]) (declares_read p ts us x n a d e)
    ∙ ap (λ o. o >>= λ j. (initial j.1 >>= λ v. Some (st.Local a j.0 v.0, v.1))) (name_yes x n us e)
    ∙ ap (λ o. o >>= λ v. Some (st.Local a (ident n x) v.0, v.1)) (initial_read us rest value h i)
simple_read p ts rest kind h (gs.act _ _ _ a x) =
    let y = acts_read p ts rest a h.quiet x in
    ap (λ o. elim o [ Some z ↦ r.local z.0 z.1 | None ↦ act ts >>= (λ z. Some (st.Expr z.0, z.1)) ]) y.no_local
    ∙ ap (λ o. o >>= λ z. Some (st.Expr z.0, z.1)) y.read

head_place : (p : Place) (ts : List Token) → Head p ts → place_first ts ≡ Some p
head_place p ts x = ap place_first x.whole ∙ ap Some (sym x.place)

pub simple_complete : (p : Place) (ts rest : List Token) (kind : StmtKind) → Stops rest → Simple p ts rest kind → simple_first ts ≡ Some (stmt p kind, rest)
simple_complete p ts rest kind h x =
    ap (λ o. o >>= λ q. (simple ts >>= λ y. Some (stmt q y.0, y.1))) (head_place p ts (simple_head p ts rest kind x))
    ∙ ap (λ o. o >>= λ y. Some (stmt p y.0, y.1)) (simple_read p ts rest kind h x)

-- neither `;` nor `)` begins anything
record Closed (kind : TokenKind) : Type 0 where
  no_semicolon : is_sign s.Semicolon kind ≡ false
  no_close : is_sign s.CloseRound kind ≡ false

closed_sign : (sign : Sign) → by_sign sign ≡ b.Simple → Closed (k.Sign sign)
unfolding by_sign sign_number
closed_sign s.OpenRound e = record { no_semicolon = refl; no_close = refl }
closed_sign s.InterpolationStart e = record { no_semicolon = refl; no_close = refl }
closed_sign s.Minus e = record { no_semicolon = refl; no_close = refl }
closed_sign s.Plus e = record { no_semicolon = refl; no_close = refl }
closed_sign s.Not e = record { no_semicolon = refl; no_close = refl }
closed_sign _ e = absurd (cc)

closed : (kind : TokenKind) → beginning kind ≡ b.Simple → Closed kind
closed (k.Sign sign) e = closed_sign sign e
closed _ e = record { no_semicolon = refl; no_close = refl }

no_semicolon_head : (p : Place) (ts : List Token) → Head p ts → has_sign s.Semicolon ts ≡ false
no_semicolon_head p ts x = ap (has_sign s.Semicolon) x.whole ∙ (closed x.t.kind x.simple).no_semicolon

no_close_head : (p : Place) (ts : List Token) → Head p ts → has_sign s.CloseRound ts ≡ false
no_close_head p ts x = ap (has_sign s.CloseRound) x.whole ∙ (closed x.t.kind x.simple).no_close

condition_read : (ts us : List Token) (value : Option Expr) → has_sign s.Semicolon us ≡ true → Stops us → Condition ts us value → condition_first ts ≡ Some (value, us)
condition_read ts us value m h (gs.none _) = ap (λ d. if d then Some (None, us) else (expr_first 0 us >>= r.some)) m
condition_read ts us value m h (gs.some p _ _ a sp) =
    ap (λ d. if d then Some (None, ts) else (expr_first 0 ts >>= r.some)) (no_semicolon_head p ts (heading p ts us (expression_heads 0 p ts us a sp)))
    ∙ ap (λ o. o >>= r.some) (expression_read p ts us a h.quiet sp)

pub condition_complete : (ts rest : List Token) (c : Token) (value : Option Expr) → IsSign s.Semicolon c → Condition ts (c ∷ rest) value → condition_first ts ≡ Some (value, c ∷ rest)
condition_complete ts rest c value e x = condition_read ts (c ∷ rest) value (is_that_sign s.Semicolon c e) (semicolon_stops c rest e) x

step_read : (ts us : List Token) (value : Option Expr) → has_sign s.CloseRound us ≡ true → Stops us → Step ts us value → step_first ts ≡ Some (value, us)
step_read ts us value m h (gs.none _) = ap (λ d. if d then Some (None, us) else (act us >>= r.some)) m
step_read ts us value m h (gs.some p _ _ a y) =
    ap (λ d. if d then Some (None, ts) else (act ts >>= r.some)) (no_close_head p ts (acts_head p ts us a y))
    ∙ ap (λ o. o >>= r.some) (acts_read p ts us a h.quiet y).read

pub step_complete : (ts rest : List Token) (c : Token) (value : Option Expr) → IsSign s.CloseRound c → Step ts (c ∷ rest) value → step_first ts ≡ Some (value, c ∷ rest)
step_complete ts rest c value e x = step_read ts (c ∷ rest) value (is_that_sign s.CloseRound c e) (close_stops c rest e) x

start_read : (ts us : List Token) (value : Option Stmt) → has_sign s.Semicolon us ≡ true → Stops us → Start ts us value → start_first ts ≡ Some (value, us)
start_read ts us value m h (gs.none _) = ap (λ d. if d then Some (None, us) else (simple_first us >>= r.some)) m
start_read ts us value m h (gs.some p _ _ kind y) =
    ap (λ d. if d then Some (None, ts) else (simple_first ts >>= r.some)) (no_semicolon_head p ts (simple_head p ts us kind y))
    ∙ ap (λ o. o >>= r.some) (simple_complete p ts us kind h y)

pub start_complete : (ts rest : List Token) (c : Token) (value : Option Stmt) → IsSign s.Semicolon c → Start ts (c ∷ rest) value → start_first ts ≡ Some (value, c ∷ rest)
start_complete ts rest c value e x = start_read ts (c ∷ rest) value (is_that_sign s.Semicolon c e) (semicolon_stops c rest e) x
