-- What is spelled as a lambda is read.
use Rattle.std.proofs.Common.{◌≡◌, ℕ, ◌+◌, ◌-◌, ◌<◌, ◌≤◌, List, [], ◌∷◌, length, refl, sym, ap, ◌∙◌, subst, arith}
use Rattle.std.specs.Prelude.{Bool, true, false, ◌&&◌, if◌then◌else◌, Option, Some, None}
use Rattle.text_core.specs.declared.place.Place.{Place}
use Rattle.cs_ast.specs.declared.expression.Body.{Body}
use Rattle.cs_ast.specs.declared.expression.Body.TheVariants as body
use Rattle.cs_ast.specs.declared.expression.Expr.{Expr}
use Rattle.cs_ast.specs.declared.expression.ExprKind.TheVariants as ek
use Rattle.cs_ast.specs.declared.expression.Stmt.{Stmt}
use Rattle.cs_ast.specs.declared.identifier.Ident.{Ident}
use Rattle.cs_ast.specs.declared.operators.AssignOp.{AssignOp}
use Rattle.cs_ast.specs.declared.operators.StepOp.{StepOp}
use Rattle.cs_token.specs.declared.token.Token.{Token}
use Rattle.cs_token.specs.declared.token.TokenKind.{TokenKind}
use Rattle.cs_token.specs.declared.token.TokenKind.TheVariants as k
use Rattle.cs_token.specs.declared.token.Sign.{Sign}
use Rattle.cs_token.specs.declared.token.Sign.TheVariants as s
use Rattle.cs_token.specs.declared.token.Word.TheVariants as w
use Rattle.cs_grammar.specs.Tokens.{IsSign, IsWord, IsName, ident}
use Rattle.cs_grammar.specs.Tables.{assignment, step_operator}
use Rattle.cs_grammar.specs.Expressions.{Spells, node}
use Rattle.cs_grammar.specs.Expressions as ge
use Rattle.cs_grammar.specs.Statements.{Statements, Changes, no_jumps}
use Rattle.cs_grammar.specs.Statements as gs
use Rattle.cs_grammar.specs.Lambdas.{LambdaBody, SpelledValue, Spelled}
use Rattle.cs_grammar.specs.Lambdas as g
use Rattle.cs_parse.specs.Numbers.{sign_number}
use Rattle.cs_parse.specs.declared.statement.frame.Beginning.TheVariants as b
use Rattle.cs_parse.specs.declared.statement.simple.Change.{Change}
use Rattle.cs_parse.specs.declared.statement.simple.Change.TheVariants as c
use Rattle.cs_parse.specs.declared.tables.FirstSign.TheVariants as fs
use Rattle.cs_parse.specs.declared.tables.Going.TheVariants as go
use Rattle.cs_parse.specs.Reading.{Read, ◌>>=◌, after, is_sign, is_word, name_first}
use Rattle.cs_parse.specs.ExpressionReading.{expr_first, within, going, going_sign, strength, next, first_sign}
use Rattle.cs_parse.specs.ExpressionReading as x
use Rattle.cs_parse.specs.SimpleReading.{is_name, place_first, step_of, change_of, changing, change_first, changed}
use Rattle.cs_parse.specs.StatementReading.{statements_first, beginning, by_sign, nowhere}
use Rattle.cs_parse.specs.MemberReading.{block_body}
use Rattle.cs_parse.specs.WholeReading.{if_all, whole_value}
use Rattle.cs_parse.specs.LambdaReading as r
use Rattle.cs_parse.proofs.TokenLemmas.{moved, sign_is, name_yes, after_yes, after_not, is_that_sign}
use Rattle.cs_parse.proofs.HeadLemmas.{expression_heads}
use Rattle.cs_parse.proofs.ExpressionLaws.{expr_law}
use Rattle.cs_parse.proofs.ExpressionComplete.{first_complete}
use Rattle.cs_parse.proofs.WholeLemmas.{value_complete}
use Rattle.cs_parse.proofs.LambdaSound.{Changer, changer, change_body, same_change, none_begins, bare_begins, one_begins}

-- signs behind which no expression goes on
arrow_stops : going_sign s.Arrow ≡ go.Nothing
unfolding going_sign
arrow_stops = refl

close_stops : going_sign s.CloseRound ≡ go.Nothing
unfolding going_sign
close_stops = refl

stops : (sign : Sign) (t : Token) (rest : List Token) → IsSign sign t → going_sign sign ≡ go.Nothing → next (t ∷ rest) ≤ 0
stops sign t rest e n = let z = ap (λ kind. strength (going kind)) e ∙ ap strength n in omega (arith, z)

change_stops : (sign : Sign) (change : Change) → change_of sign ≡ Some change → going_sign sign ≡ go.Nothing
unfolding going_sign assignment step_operator
change_stops s.OpenRound change e = absurd (cc)
change_stops _ change e = cc

-- what is read as one expression is so in one way
one_way : (p : Place) (ts rest : List Token) (a d : Expr) (q : Place) → Spells 0 p ts [] a → Spells 0 q ts rest d → next rest ≤ 0 → rest ≡ []
one_way p ts rest a d q h1 h2 n =
    let e : ◌≡◌ {A = Read Expr} (Some (d, rest)) (Some (a, [])) = sym (first_complete 0 q ts rest d n h2) ∙ first_complete 0 p ts [] a (omega arith) h1 in
    moved {A = Expr × List Token} (λ z. rest ≡ z.1) e refl

-- a name is an expression
name_spells : (x : List ℕ) (n : Token) (rest : List Token) → IsName x n → Spells 0 n.place (n ∷ rest) rest (node n.place (ek.Name x))
name_spells x n rest e = ge.name 0 x n rest e

not_empty : (t : Token) (ts : List Token) → t ∷ ts ≡ [] → ⊥
not_empty t ts e = absurd (cc)

-- an expression begins with no brace
brace_block : by_sign s.OpenBrace ≡ b.Block
unfolding by_sign
brace_block = refl

no_brace : (kind : TokenKind) → beginning kind ≡ b.Simple → is_sign s.OpenBrace kind ≡ false
no_brace kind e = go (is_sign s.OpenBrace kind) refl
  where
    go : (d : Bool) → is_sign s.OpenBrace kind ≡ d → d ≡ false
    go false i = refl
    go true i = let z : b.Block ≡ b.Simple = sym (ap beginning (sign_is s.OpenBrace kind i) ∙ brace_block) ∙ e in absurd (cc)

expression_no_brace : (p : Place) (ts rest : List Token) (a : Expr) → Spells 0 p ts rest a → after s.OpenBrace ts ≡ None
expression_no_brace p ts rest a h =
    let z = expression_heads 0 p ts rest a h in
    ap (after s.OpenBrace) z.whole ∙ after_not s.OpenBrace z.t z.us (no_brace z.t.kind z.simple)

-- an expression to the end is no change
no_change : (p : Place) (ts : List Token) (a : Expr) → Spells 0 p ts [] a → change_first ts ≡ None
no_change p ts a h = go (change_first ts) refl
  where
    go : (d : Option (Change × List Token)) → change_first ts ≡ d → d ≡ None
    go None i = refl
    go (Some y) i =
        let z = changer ts y.0 y.1 i in
        absurd (not_empty z.t y.1 (one_way p ts (z.t ∷ y.1) a (node z.n.place (ek.Name z.x)) z.n.place h
        (subst (λ l. Spells 0 z.n.place l (z.t ∷ y.1) (node z.n.place (ek.Name z.x))) (sym z.whole) (name_spells z.x z.n (z.t ∷ y.1) z.name))
        (stops z.sign z.t y.1 z.is (change_stops z.sign y.0 z.changes))))

step_alone : (sign : Sign) (op : StepOp) → step_operator sign ≡ Some op → change_of sign ≡ Some (c.Step op)
unfolding assignment step_operator
step_alone s.PlusPlus op e = cc
step_alone s.MinusMinus op e = cc
step_alone _ op e = absurd (cc)

change_yes : (x : List ℕ) (sign : Sign) (change : Change) (n t : Token) (rest : List Token) → IsName x n → IsSign sign t → change_of sign ≡ Some change → change_first (n ∷ t ∷ rest) ≡ Some (change, rest)
change_yes x sign change n t rest i j m =
    ap (λ kind. if is_name kind then (changing t.kind >>= λ y. Some (y, rest)) else None) i
    ∙ ap (λ kind. changing kind >>= λ y. Some (y, rest)) j
    ∙ ap (λ d. d >>= λ y. Some (y, rest)) m

name_no_brace : (x : List ℕ) (n : Token) (rest : List Token) → IsName x n → after s.OpenBrace (n ∷ rest) ≡ None
name_no_brace x n rest e = after_not s.OpenBrace n rest (ap (is_sign s.OpenBrace) e)

-- a change of a name to the end
change_read : (x : List ℕ) (sign : Sign) (change : Change) (n t : Token) (us : List Token) (a : Expr) → IsName x n → IsSign sign t → change_of sign ≡ Some change →
    changed change (ident n x) us ≡ Some (a, []) → r.lambda_body (n ∷ t ∷ us) ≡ Some (body.Value a)
change_read x sign change n t us a i j m e =
    ap (λ d. elim d [ Some q ↦ r.whole_block q | None ↦ r.change_or_value (n ∷ t ∷ us) ]) (name_no_brace x n (t ∷ us) i)
    ∙ same_change (n ∷ t ∷ us)
    ∙ ap (λ d. elim d [ Some y ↦ change_body y.0 (n ∷ t ∷ us) y.1 | None ↦ r.value_body (n ∷ t ∷ us) ]) (change_yes x sign change n t us i j m)
    ∙ ap (λ d. d >>= λ z. (changed change z.0 us >>= λ y. if_all (body.Value y.0) y.1)) (name_yes x n (t ∷ us) i)
    ∙ ap (λ d. d >>= λ y. if_all (body.Value y.0) y.1) e

changes_read : (p : Place) (ts : List Token) (a : Expr) → Changes p ts [] a → r.lambda_body ts ≡ Some (body.Value a)
changes_read p ts a (gs.assign x sign op q n t us _ d i j m h) =
    change_read x sign (c.Assign op) n t us a i j (ap (λ z. elim z [ Some o ↦ Some (c.Assign o) | None ↦ step_of sign ]) m)
    (ap (λ z. z >>= λ y. Some (node n.place (ek.Assign op (ident n x) y.0), y.1)) (first_complete 0 q us [] d (omega arith) h))
changes_read p ts a (gs.step x sign op n t _ i j m) = change_read x sign (c.Step op) n t [] a i j (step_alone sign op m) refl

value_read : (p : Place) (ts : List Token) (a : Expr) → Spells 0 p ts [] a → r.lambda_body ts ≡ Some (body.Value a)
value_read p ts a h =
    ap (λ d. elim d [ Some q ↦ r.whole_block q | None ↦ r.change_or_value ts ]) (expression_no_brace p ts [] a h)
    ∙ same_change ts
    ∙ ap (λ d. elim d [ Some y ↦ change_body y.0 ts y.1 | None ↦ r.value_body ts ]) (no_change p ts a h)
    ∙ ap (λ d. d >>= λ y. if_all (body.Value y.0) y.1) (first_complete 0 p ts [] a (omega arith) h)

-- no expression begins with `()`
round_first : first_sign s.OpenRound ≡ fs.Round
unfolding first_sign
round_first = refl

close_first : first_sign s.CloseRound ≡ fs.Nothing
unfolding first_sign
close_first = refl

no_prefix : (self : List Token → x.Reads) (t : Token) (us : List Token) → IsSign s.CloseRound t → x.expr self 0 (t ∷ us) ≡ None
no_prefix self t us e =
    ap (λ kind. x.prefix self kind t.place us >>= λ y. (self y.1).loop 0 t.place y.0) e
    ∙ ap (λ f. x.of_sign self f t.place us >>= λ y. (self y.1).loop 0 t.place y.0) close_first

no_cast : (t : Token) (us : List Token) → IsSign s.CloseRound t → x.as_cast (t ∷ us) ≡ None
no_cast t [] e = refl
no_cast t (u ∷ us) e = ap (λ kind. if is_word w.String kind && is_sign s.CloseRound u.kind then Some us else None) e

round_none : (self : List Token → x.Reads) (o t : Token) (us : List Token) → IsSign s.OpenRound o → IsSign s.CloseRound t → (self (t ∷ us)).expr 0 ≡ None → x.expr self 0 (o ∷ t ∷ us) ≡ None
round_none self o t us e1 e2 h =
    ap (λ kind. x.prefix self kind o.place (t ∷ us) >>= λ y. (self y.1).loop 0 o.place y.0) e1
    ∙ ap (λ f. x.of_sign self f o.place (t ∷ us) >>= λ y. (self y.1).loop 0 o.place y.0) round_first
    ∙ ap (λ d. d >>= λ y. (self y.1).loop 0 o.place y.0) (bracket self o t us e2 h)
  where
    bracket : (self : List Token → x.Reads) (o t : Token) (us : List Token) → IsSign s.CloseRound t → (self (t ∷ us)).expr 0 ≡ None → x.round self o.place (t ∷ us) ≡ None
    bracket self o t us e2 h =
        ap (λ d. elim d [ Some v ↦ x.cast self o.place v | None ↦ x.bracketed self (t ∷ us) ]) (no_cast t us e2)
        ∙ ap (λ d. d >>= λ y. (after s.CloseRound y.1 >>= λ v. Some (y.0, v))) h

nothing_in_round : (o t : Token) (us : List Token) → IsSign s.OpenRound o → IsSign s.CloseRound t → expr_first 0 (o ∷ t ∷ us) ≡ None
unfolding expr_first
nothing_in_round o t us e1 e2 =
    expr_law (length (o ∷ t ∷ us) + 1) 0 (o ∷ t ∷ us) (omega arith)
    ∙ round_none (within (length (o ∷ t ∷ us) + 1 - 1)) o t us e1 e2
    (expr_law (length (o ∷ t ∷ us) + 1 - 1) 0 (t ∷ us) (omega arith) ∙ no_prefix (within (length (o ∷ t ∷ us) + 1 - 1 - 1)) t us e2)

-- no value begins as a lambda does
none_no_value : (o q t : Token) (us : List Token) (a : Expr) → IsSign s.OpenRound o → IsSign s.CloseRound q → SpelledValue (o ∷ q ∷ t ∷ us) a → ⊥
none_no_value o q t us a i j (g.expression p _ _ h) =
    let z : ◌≡◌ {A = Read Expr} None (Some (a, [])) = sym (nothing_in_round o q (t ∷ us) i j) ∙ first_complete 0 p (o ∷ q ∷ t ∷ us) [] a (omega arith) h in absurd (cc)
none_no_value o q t us a i j (g.markup p _ _ _ _ d e1 e2 e3 h) = let z : k.Sign s.CloseRound ≡ k.Word w.MarkupString = sym j ∙ e2 in absurd (cc)

bare_no_value : (x : List ℕ) (n t : Token) (us : List Token) (a : Expr) → IsName x n → IsSign s.Arrow t → SpelledValue (n ∷ t ∷ us) a → ⊥
bare_no_value x n t us a i j (g.expression p _ _ h) =
    not_empty t us (one_way p (n ∷ t ∷ us) (t ∷ us) a (node n.place (ek.Name x)) n.place h (name_spells x n (t ∷ us) i) (stops s.Arrow t us j arrow_stops))
bare_no_value x n t us a i j (g.markup p _ _ _ _ d e1 e2 e3 h) = let z : k.Name x ≡ k.Sign s.OpenRound = sym i ∙ e1 in absurd (cc)

one_no_value : (x : List ℕ) (o n q t : Token) (us : List Token) (a : Expr) → IsSign s.OpenRound o → IsName x n → IsSign s.CloseRound q → IsSign s.Arrow t → SpelledValue (o ∷ n ∷ q ∷ t ∷ us) a → ⊥
one_no_value x o n q t us a i j m v (g.expression p _ _ h) =
    not_empty t us (one_way p (o ∷ n ∷ q ∷ t ∷ us) (t ∷ us) a (node n.place (ek.Name x)) o.place h
    (ge.brackets 0 n.place o q (n ∷ q ∷ t ∷ us) (t ∷ us) (node n.place (ek.Name x)) i (name_spells x n (q ∷ t ∷ us) j) m) (stops s.Arrow t us v arrow_stops))
one_no_value x o n q t us a i j m v (g.markup p _ _ _ _ d e1 e2 e3 h) = let z : k.Name x ≡ k.Word w.MarkupString = sym j ∙ e2 in absurd (cc)

absent : {A : Type 0} (d : Option A) → ((y : A) → d ≡ Some y → ⊥) → d ≡ None
absent None h = refl
absent (Some y) h = absurd (h y refl)

no_none : (ts : List Token) (a : Expr) → SpelledValue ts a → r.behind_none ts ≡ None
no_none ts a v = absent (r.behind_none ts) (λ q i. none_begins ts q (λ l. SpelledValue l a → ⊥) i (λ o d t h1 h2 h3 z. none_no_value o d t q a h1 h2 z) v)

no_bare : (ts : List Token) (a : Expr) → SpelledValue ts a → r.behind_bare ts ≡ None
no_bare ts a v = absent (r.behind_bare ts) (λ q i. bare_begins ts q (λ l. SpelledValue l a → ⊥) i (λ x n t h1 h2 z. bare_no_value x n t q a h1 h2 z) v)

no_one : (ts : List Token) (a : Expr) → SpelledValue ts a → r.behind_one ts ≡ None
no_one ts a v = absent (r.behind_one ts) (λ q i. one_begins ts q (λ l. SpelledValue l a → ⊥) i (λ x o n d t h1 h2 h3 h4 z. one_no_value x o n d t q a h1 h2 h3 h4 z) v)

-- the tokens before the body of a lambda
none_there : (o q t : Token) (us : List Token) → IsSign s.OpenRound o → IsSign s.CloseRound q → IsSign s.Arrow t → r.behind_none (o ∷ q ∷ t ∷ us) ≡ Some us
none_there o q t us i j m =
    ap (λ d. d >>= λ v. (after s.CloseRound v >>= after s.Arrow)) (after_yes s.OpenRound o (q ∷ t ∷ us) i)
    ∙ ap (λ d. d >>= after s.Arrow) (after_yes s.CloseRound q (t ∷ us) j)
    ∙ after_yes s.Arrow t us m

name_behind : (x : List ℕ) (n : Token) (us : List Token) → IsName x n → r.behind_a_name (n ∷ us) ≡ Some us
name_behind x n us e = ap (λ kind. if is_name kind then Some us else None) e

name_no_sign : (sign : Sign) (x : List ℕ) (n : Token) (us : List Token) → IsName x n → after sign (n ∷ us) ≡ None
name_no_sign sign x n us e = after_not sign n us (ap (is_sign sign) e)

name_not_none : (x : List ℕ) (n : Token) (us : List Token) → IsName x n → r.behind_none (n ∷ us) ≡ None
name_not_none x n us e = ap (λ d. d >>= λ v. (after s.CloseRound v >>= after s.Arrow)) (name_no_sign s.OpenRound x n us e)

bare_there : (x : List ℕ) (n t : Token) (us : List Token) → IsName x n → IsSign s.Arrow t → r.behind_bare (n ∷ t ∷ us) ≡ Some us
bare_there x n t us i j = ap (λ d. d >>= after s.Arrow) (name_behind x n (t ∷ us) i) ∙ after_yes s.Arrow t us j

round_not_none : (x : List ℕ) (o n : Token) (us : List Token) → IsSign s.OpenRound o → IsName x n → r.behind_none (o ∷ n ∷ us) ≡ None
round_not_none x o n us i j =
    ap (λ d. d >>= λ v. (after s.CloseRound v >>= after s.Arrow)) (after_yes s.OpenRound o (n ∷ us) i)
    ∙ ap (λ d. d >>= after s.Arrow) (name_no_sign s.CloseRound x n us j)

round_not_bare : (o : Token) (us : List Token) → IsSign s.OpenRound o → r.behind_bare (o ∷ us) ≡ None
round_not_bare o us i = ap (λ kind. (if is_name kind then Some us else None) >>= after s.Arrow) i

one_there : (x : List ℕ) (o n q t : Token) (us : List Token) → IsSign s.OpenRound o → IsName x n → IsSign s.CloseRound q → IsSign s.Arrow t → r.behind_one (o ∷ n ∷ q ∷ t ∷ us) ≡ Some us
one_there x o n q t us i j m v =
    ap (λ d. d >>= λ z. (r.behind_a_name z >>= λ y. (after s.CloseRound y >>= after s.Arrow))) (after_yes s.OpenRound o (n ∷ q ∷ t ∷ us) i)
    ∙ ap (λ d. d >>= λ y. (after s.CloseRound y >>= after s.Arrow)) (name_behind x n (q ∷ t ∷ us) j)
    ∙ ap (λ d. d >>= after s.Arrow) (after_yes s.CloseRound q (t ∷ us) m)
    ∙ after_yes s.Arrow t us v

-- where the statements of a block are read as they are spelled
module _ (statements_complete : (d : Token) (ts rest : List Token) (body : List Stmt) → IsSign s.CloseBrace d → Statements no_jumps ts (d ∷ rest) body → statements_first nowhere ts ≡ Some (body, d ∷ rest)) where
  block_read : (d : Token) (us : List Token) (statements : List Stmt) → IsSign s.CloseBrace d → Statements no_jumps us (d ∷ []) statements → block_body us ≡ Some (body.Block statements, [])
  block_read d us statements j h =
      ap (λ z. z >>= λ y. (after s.CloseBrace y.1 >>= λ q. Some (body.Block y.0, q))) (statements_complete d us [] statements j h)
      ∙ ap (λ z. z >>= λ q. Some (body.Block statements, q)) (after_yes s.CloseBrace d [] j)

  body_read : (ts : List Token) (a : Body) → LambdaBody ts [] a → r.lambda_body ts ≡ Some a
  body_read ts a (g.result p _ _ d h) = value_read p ts d h
  body_read ts a (g.change p _ _ d h) = changes_read p ts d h
  body_read ts a (g.block o d us _ statements i h j) =
      ap (λ z. elim z [ Some q ↦ r.whole_block q | None ↦ r.change_or_value (o ∷ us) ]) (after_yes s.OpenBrace o us i)
      ∙ ap (λ z. z >>= λ y. if_all y.0 y.1) (block_read d us statements j h)

  lambda_read : (p : Place) (n : Option Ident) (ts : List Token) (a : Body) → LambdaBody ts [] a → r.lambda p n ts ≡ Some (node p (ek.Lambda n a))
  lambda_read p n ts a h = ap (λ z. z >>= λ y. Some (node p (ek.Lambda n y))) (body_read ts a h)

  -- what is spelled is read
  pub spelled_complete : (ts : List Token) (a : Expr) → Spelled ts a → r.whole_spelled ts ≡ Some a
  spelled_complete ts a (g.value _ _ v) =
      ap (λ d. elim d [ Some q ↦ r.of_none ts q | None ↦ r.named_or_value ts ]) (no_none ts a v)
      ∙ ap (λ d. elim d [ Some q ↦ r.of_bare ts q | None ↦ r.one_or_value ts ]) (no_bare ts a v)
      ∙ ap (λ d. elim d [ Some q ↦ r.of_one ts q | None ↦ whole_value ts ]) (no_one ts a v)
      ∙ value_complete ts a v
  spelled_complete ts a (g.of_none o q t us d i j m h) =
      ap (λ z. elim z [ Some v ↦ r.of_none (o ∷ q ∷ t ∷ us) v | None ↦ r.named_or_value (o ∷ q ∷ t ∷ us) ]) (none_there o q t us i j m)
      ∙ lambda_read o.place None us d h
  spelled_complete ts a (g.of_name x n t us d i j h) =
      ap (λ z. elim z [ Some v ↦ r.of_none (n ∷ t ∷ us) v | None ↦ r.named_or_value (n ∷ t ∷ us) ]) (name_not_none x n (t ∷ us) i)
      ∙ ap (λ z. elim z [ Some v ↦ r.of_bare (n ∷ t ∷ us) v | None ↦ r.one_or_value (n ∷ t ∷ us) ]) (bare_there x n t us i j)
      ∙ ap (λ z. z >>= λ y. r.lambda n.place (Some y.0) us) (name_yes x n (t ∷ us) i)
      ∙ lambda_read n.place (Some (ident n x)) us d h
  spelled_complete ts a (g.of_one x o n q t us d i j m v h) =
      ap (λ z. elim z [ Some y ↦ r.of_none (o ∷ n ∷ q ∷ t ∷ us) y | None ↦ r.named_or_value (o ∷ n ∷ q ∷ t ∷ us) ]) (round_not_none x o n (q ∷ t ∷ us) i j)
      ∙ ap (λ z. elim z [ Some y ↦ r.of_bare (o ∷ n ∷ q ∷ t ∷ us) y | None ↦ r.one_or_value (o ∷ n ∷ q ∷ t ∷ us) ]) (round_not_bare o (n ∷ q ∷ t ∷ us) i)
      ∙ ap (λ z. elim z [ Some y ↦ r.of_one (o ∷ n ∷ q ∷ t ∷ us) y | None ↦ whole_value (o ∷ n ∷ q ∷ t ∷ us) ]) (one_there x o n q t us i j m v)
      ∙ ap (λ z. z >>= λ l. (name_first l >>= λ y. r.lambda o.place (Some y.0) us)) (after_yes s.OpenRound o (n ∷ q ∷ t ∷ us) i)
      ∙ ap (λ z. z >>= λ y. r.lambda o.place (Some y.0) us) (name_yes x n (q ∷ t ∷ us) j)
      ∙ lambda_read o.place (Some (ident n x)) us d h
