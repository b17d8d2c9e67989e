-- What is spelled as a statement is read.
use Rattle.std.proofs.Common.{◌≡◌, ℕ, zero, suc, ◌+◌, ◌-◌, ◌<◌, ◌≤◌, List, [], ◌∷◌, ◌++◌, length, refl, sym, ap, ◌∙◌, subst, arith, append_assoc}
use Rattle.std.specs.Prelude.{Bool, true, false, ◌||◌, nat_lt, neg_ℤ, if◌then◌else◌, codes, Option, Some, None}
use Rattle.std.proofs.lemmas.Bool.{le-ltb}
use Rattle.text_core.specs.declared.place.Place.{Place}
use Rattle.cs_ast.specs.declared.expression.Expr.{Expr}
use Rattle.cs_ast.specs.declared.expression.ExprKind.TheVariants as ek
use Rattle.cs_ast.specs.declared.expression.Label.{Label}
use Rattle.cs_ast.specs.declared.expression.LabelKind.TheVariants as lk
use Rattle.cs_ast.specs.declared.expression.Section.{Section}
use Rattle.cs_ast.specs.declared.expression.Stmt.{Stmt}
use Rattle.cs_ast.specs.declared.expression.StmtKind.{StmtKind}
use Rattle.cs_ast.specs.declared.expression.StmtKind.TheVariants as st
use Rattle.cs_token.specs.declared.token.Token.{Token}
use Rattle.cs_token.specs.declared.token.TokenKind.{TokenKind}
use Rattle.cs_token.specs.declared.token.TokenKind.TheVariants as k
use Rattle.cs_token.specs.declared.token.Sign.{Sign}
use Rattle.cs_token.specs.declared.token.Sign.TheVariants as s
use Rattle.cs_token.specs.declared.token.Word.{Word}
use Rattle.cs_token.specs.declared.token.Word.TheVariants as w
use Rattle.cs_grammar.specs.Tokens.{IsSign, IsWord, IsName, ident}
use Rattle.cs_grammar.specs.Expressions.{node, Spells}
use Rattle.cs_grammar.specs.Statements.{Jumps, stmt, section, defaults, Simple, Start, Condition, Step, Statement, Statements, Sections, Constant, Labelled, Labels, Leaves}
use Rattle.cs_grammar.specs.Statements as g
use Rattle.cs_parse.specs.Numbers.{sign_number, word_number}
use Rattle.cs_parse.specs.declared.statement.frame.Beginning.{Beginning}
use Rattle.cs_parse.specs.declared.statement.frame.Beginning.TheVariants as b
use Rattle.cs_parse.specs.declared.statement.frame.Frame.{Frame}
use Rattle.cs_parse.specs.declared.statement.frame.Frame.TheVariants as fr
use Rattle.cs_parse.specs.declared.statement.frame.Jumps.{Jumps as Allowed}
use Rattle.cs_parse.specs.declared.statement.frame.Next.{Next}
use Rattle.cs_parse.specs.declared.statement.frame.Next.TheVariants as nx
use Rattle.cs_parse.specs.declared.statement.frame.OpenBlock.{OpenBlock}
use Rattle.cs_parse.specs.declared.statement.frame.OpenSection.{OpenSection}
use Rattle.cs_parse.specs.declared.statement.frame.OpenSwitch.{OpenSwitch}
use Rattle.cs_parse.specs.Reading.{Read, ◌>>=◌, after, has_sign, is_sign, is_word, name_first}
use Rattle.cs_parse.specs.ExpressionReading.{expr_first}
use Rattle.cs_parse.specs.TreeViews.{is_invoke, leaves}
use Rattle.cs_parse.specs.SimpleReading.{after_word, simple_first, start_first, condition_first, step_first}
use Rattle.cs_parse.specs.StatementReading as r
use Rattle.cs_parse.specs.StatementReading.{Onward, begin, begun, beginning, begins, by_sign, by_word, is_something, is_simple, in_round, resume, has_label, labels_in, labels_first, constant_word, statement_first, rest_first, statements_in, statements_first}
use Rattle.cs_parse.proofs.TokenLemmas.{after_yes, after_not, name_yes, is_that_sign, is_that_word}
use Rattle.cs_parse.proofs.ShrinkLemmas.{labelled_less}
use Rattle.cs_parse.proofs.TreeLemmas.{invoke_is, leaves_complete}
use Rattle.cs_parse.proofs.FrameSound.{after_word_yes}
use Rattle.cs_parse.proofs.StatementLaws.{statement_law, done_law, inside_law, block_law, switch_law, section_law, statement_shorter}
use Rattle.cs_parse.proofs.SimpleComplete.{Head, simple_head, simple_complete, semicolon_stops, close_stops, expression_read, condition_complete, step_complete, start_complete}
use Rattle.cs_parse.proofs.StatementStarts.{if_begins, while_begins, for_begins, for_each_begins, switch_begins, await_begins, break_begins, continue_begins, return_begins, semicolon_begins, brace_begins, starts, begins_no_else, begins_no_label, Ends, close_ends, labels_labelling, labels_read}

-- where jumps may stand, as the reader has it
abbrev pub given : Jumps → Allowed
given j = record { breaks = j.breaks; continues = j.continues }

-- how a statement begins
begin_by : (j : Allowed) (t : Token) (ts : List Token) (kind : TokenKind) (by : Beginning) → t.kind ≡ kind → beginning kind ≡ by → is_simple by ≡ false → begin j (t ∷ ts) ≡ begun j by t.place ts
begin_by j t ts kind by e q h =
    ap (λ y. if is_simple y then r.begun_simple (t ∷ ts) else begun j y t.place ts) (ap beginning e ∙ q)
    ∙ ap (λ d. if d then r.begun_simple (t ∷ ts) else begun j by t.place ts) h

made : (j : Allowed) (ts rest : List Token) (a : Stmt) → begin j ts ≡ Some (nx.Done a, rest) → statement_first j ts ≡ Some (a, rest)
made j ts rest a e = statement_law j ts ∙ ap (λ o. o >>= λ x. rest_first x.0 x.1) e ∙ done_law a rest

entered : (j i : Allowed) (f : Frame) (ts us rest : List Token) (inner : Stmt) → begin j ts ≡ Some (nx.Inside f i, us) → statement_first i us ≡ Some (inner, rest) →
    statement_first j ts ≡ (resume f inner rest >>= λ x. rest_first x.0 x.1)
entered j i f ts us rest inner e h =
    statement_law j ts ∙ ap (λ o. o >>= λ x. rest_first x.0 x.1) e ∙ inside_law f i us
    ∙ ap (λ o. o >>= λ x. (resume f x.0 x.1 >>= λ y. rest_first y.0 y.1)) h

ended_read : (p : Place) (kind : StmtKind) (c : Token) (rest : List Token) → IsSign s.Semicolon c → r.ended p kind (c ∷ rest) ≡ Some (nx.Done (stmt p kind), rest)
ended_read p kind c rest e = ap (λ o. o >>= λ q. r.done p kind q) (after_yes s.Semicolon c rest e)

round_read : (p : Place) (o c : Token) (ts rest : List Token) (x : Expr) → IsSign s.OpenRound o → Spells 0 p ts (c ∷ rest) x → IsSign s.CloseRound c → in_round (o ∷ ts) ≡ Some (x, rest)
round_read p o c ts rest x e1 sp e2 =
    ap (λ d. d >>= λ q. (expr_first 0 q >>= λ y. (after s.CloseRound y.1 >>= λ v. Some (y.0, v)))) (after_yes s.OpenRound o ts e1)
    ∙ ap (λ d. d >>= λ y. (after s.CloseRound y.1 >>= λ v. Some (y.0, v))) (expression_read p ts (c ∷ rest) x (close_stops c rest e2).quiet sp)
    ∙ ap (λ d. d >>= λ v. Some (x, v)) (after_yes s.CloseRound c rest e2)

-- statements are read where `else` may follow them, or does not
pub record StatementDone (j : Jumps) (f : Bool) (ts rest : List Token) (a : Stmt) : Type 0 where
  pub by : (f ≡ false → after_word w.Else rest ≡ None) → statement_first (given j) ts ≡ Some (a, rest)

-- behind what follows
abbrev onto : Onward → Read Stmt
onto o = o >>= λ x. rest_first x.0 x.1

-- each form of reading a list goes on so
record Lists (j : Allowed) (read : List Stmt → List Token → Read Stmt) : Type 0 where
  on : (found : List Stmt) (ts : List Token) → begins ts ≡ true → read found ts ≡ (statement_first j ts >>= λ x. read (found ++ x.0 ∷ []) x.1)

record ListDone (j : Jumps) (ts rest : List Token) (body : List Stmt) : Type 0 where
  by : (read : List Stmt → List Token → Read Stmt) (found : List Stmt) → Ends rest → Lists (given j) read → read found ts ≡ read (found ++ body) rest

record SectionsDone (j : Jumps) (room : ℕ) (ts rest : List Token) (sections : List Section) : Type 0 where
  by : (p : Place) (value : Expr) (before : List Section) (c : Token) (us : List Token) → rest ≡ c ∷ us → IsSign s.CloseBrace c →
      rest_first (nx.Switch (record { place = p; value = value; jumps = given j; room = room; sections = before })) ts ≡ Some (stmt p (st.Switch value (before ++ sections)), us)

simple_done : (j : Jumps) (f : Bool) (p : Place) (c : Token) (ts rest : List Token) (kind : StmtKind) → Simple p ts (c ∷ rest) kind → IsSign s.Semicolon c → StatementDone j f ts rest (stmt p kind)
simple_done j f p c ts rest kind x e = record {
  by = λ h.
      let y = simple_head p ts (c ∷ rest) kind x in
      made (given j) ts rest (stmt p kind) (
      subst (λ l. begin (given j) l ≡ r.begun_simple l) (sym y.whole) (ap (λ z. if is_simple z then r.begun_simple (y.t ∷ y.us) else begun (given j) z y.t.place y.us) y.simple)
      ∙ ap (λ o. o >>= λ z. (after s.Semicolon z.1 >>= λ q. Some (nx.Done z.0, q))) (simple_complete p ts (c ∷ rest) kind (semicolon_stops c rest e) x)
      ∙ ap (λ o. o >>= λ q. Some (nx.Done (stmt p kind), q)) (after_yes s.Semicolon c rest e));
}

no_more : {A : Type 0} (xs : List A) → xs ++ [] ≡ xs
no_more [] = refl
no_more (x ∷ xs) = ap (λ l. x ∷ l) (no_more xs)

block_lists : (p : Place) (j : Allowed) → Lists j (λ found ts. rest_first (nx.Block (record { place = p; jumps = j; found = found })) ts)
block_lists p j = record {
  on = λ found ts h.
      let o : OpenBlock = record { place = p; jumps = j; found = found } in
      block_law o ts
      ∙ ap (λ d. onto (if d then Some (nx.Inside (fr.Block o) o.jumps, ts) else (after s.CloseBrace ts >>= λ q. r.done o.place (st.Block o.found) q))) h
      ∙ inside_law (fr.Block o) j ts;
}

section_lists : (before : OpenSwitch) (labels : List Label) → Lists before.jumps (λ found ts. rest_first (nx.Section (record { before = before; labels = labels; found = found })) ts)
section_lists before labels = record {
  on = λ found ts h.
      let o : OpenSection = record { before = before; labels = labels; found = found } in
      section_law o ts
      ∙ ap (λ d. onto (if d then Some (nx.Inside (fr.Section o) o.before.jumps, ts) else if leaves o.found then Some (nx.Switch (r.switch_with o), ts) else None)) h
      ∙ inside_law (fr.Section o) before.jumps ts;
}

block_done : (j : Jumps) (f : Bool) (o c : Token) (ts rest : List Token) (body : List Stmt) → IsSign s.OpenBrace o → ListDone j ts (c ∷ rest) body → IsSign s.CloseBrace c →
    StatementDone j f (o ∷ ts) rest (stmt o.place (st.Block body))
block_done j f o c ts rest body e1 x e2 = record {
  by = λ h.
      let all : OpenBlock = record { place = o.place; jumps = given j; found = body } in
      let ends = close_ends c rest e2 in
      statement_law (given j) (o ∷ ts)
      ∙ ap (λ d. d >>= λ y. rest_first y.0 y.1) (begin_by (given j) o ts (k.Sign s.OpenBrace) b.Block e1 brace_begins refl)
      ∙ x.by (λ found us. rest_first (nx.Block (record { place = o.place; jumps = given j; found = found })) us) [] ends (block_lists o.place (given j))
      ∙ block_law all (c ∷ rest)
      ∙ ap (λ d. onto (if d then Some (nx.Inside (fr.Block all) all.jumps, c ∷ rest) else (after s.CloseBrace (c ∷ rest) >>= λ q. r.done all.place (st.Block all.found) q))) ends.stop
      ∙ ap (λ d. onto (d >>= λ q. r.done all.place (st.Block all.found) q)) (after_yes s.CloseBrace c rest e2)
      ∙ done_law (stmt o.place (st.Block body)) rest;
}

if_begun : (j : Allowed) (p : Place) (t o c : Token) (ts us : List Token) (x : Expr) → IsWord w.If t → IsSign s.OpenRound o → Spells 0 p ts (c ∷ us) x → IsSign s.CloseRound c →
    begin j (t ∷ o ∷ ts) ≡ Some (nx.Inside (fr.Yes t.place j x) j, us)
if_begun j p t o c ts us x e1 e2 sp e3 =
    begin_by j t (o ∷ ts) (k.Word w.If) b.If e1 if_begins refl
    ∙ ap (λ d. d >>= λ y. Some (nx.Inside (fr.Yes t.place j y.0) j, y.1)) (round_read p o c ts us x e2 sp e3)

alone_done : (j : Jumps) (p : Place) (t o c : Token) (ts us rest : List Token) (x : Expr) (one : Stmt) → IsWord w.If t → IsSign s.OpenRound o → Spells 0 p ts (c ∷ us) x → IsSign s.CloseRound c →
    StatementDone j false us rest one → StatementDone j false (t ∷ o ∷ ts) rest (stmt t.place (st.If x one None))
alone_done j p t o c ts us rest x one e1 e2 sp e3 sub = record {
  by = λ h.
      entered (given j) (given j) (fr.Yes t.place (given j) x) (t ∷ o ∷ ts) us rest one (if_begun (given j) p t o c ts us x e1 e2 sp e3) (sub.by h)
      ∙ ap (λ d. onto (elim d [ Some q ↦ Some (nx.Inside (fr.No t.place x one) (given j), q) | None ↦ r.done t.place (st.If x one None) rest ])) (h refl)
      ∙ done_law (stmt t.place (st.If x one None)) rest;
}

else_done : (j : Jumps) (f : Bool) (p : Place) (t o c d : Token) (ts us vs rest : List Token) (x : Expr) (one other : Stmt) → IsWord w.If t → IsSign s.OpenRound o → Spells 0 p ts (c ∷ us) x → IsSign s.CloseRound c →
    StatementDone j true us (d ∷ vs) one → IsWord w.Else d → StatementDone j f vs rest other → StatementDone j f (t ∷ o ∷ ts) rest (stmt t.place (st.If x one (Some other)))
else_done j f p t o c d ts us vs rest x one other e1 e2 sp e3 sub1 e4 sub2 = record {
  by = λ h.
      entered (given j) (given j) (fr.Yes t.place (given j) x) (t ∷ o ∷ ts) us (d ∷ vs) one (if_begun (given j) p t o c ts us x e1 e2 sp e3) (sub1.by (λ e. absurd (cc)))
      ∙ ap (λ z. onto (elim z [ Some q ↦ Some (nx.Inside (fr.No t.place x one) (given j), q) | None ↦ r.done t.place (st.If x one None) (d ∷ vs) ])) (after_word_yes w.Else d vs e4)
      ∙ inside_law (fr.No t.place x one) (given j) vs
      ∙ ap (λ z. z >>= λ y. (resume (fr.No t.place x one) y.0 y.1 >>= λ q. rest_first q.0 q.1)) (sub2.by h)
      ∙ done_law (stmt t.place (st.If x one (Some other))) rest;
}

while_done : (j : Jumps) (f : Bool) (p : Place) (t o c : Token) (ts us rest : List Token) (x : Expr) (body : Stmt) → IsWord w.While t → IsSign s.OpenRound o → Spells 0 p ts (c ∷ us) x → IsSign s.CloseRound c →
    StatementDone g.in_loop f us rest body → StatementDone j f (t ∷ o ∷ ts) rest (stmt t.place (st.While x body))
while_done j f p t o c ts us rest x body e1 e2 sp e3 sub = record {
  by = λ h.
      entered (given j) r.in_loop (fr.While t.place x) (t ∷ o ∷ ts) us rest body (
      begin_by (given j) t (o ∷ ts) (k.Word w.While) b.While e1 while_begins refl
      ∙ ap (λ d. d >>= λ y. Some (nx.Inside (fr.While t.place y.0) r.in_loop, y.1)) (round_read p o c ts us x e2 sp e3)) (sub.by h)
      ∙ done_law (stmt t.place (st.While x body)) rest;
}

start_part : (o m : Token) (ts us : List Token) (start : Option Stmt) → IsSign s.OpenRound o → Start ts (m ∷ us) start → IsSign s.Semicolon m → r.for_start (o ∷ ts) ≡ Some (start, us)
start_part o m ts us start e1 x e2 =
    ap (λ d. d >>= λ q. (start_first q >>= λ x. (after s.Semicolon x.1 >>= λ v. Some (x.0, v)))) (after_yes s.OpenRound o ts e1)
    ∙ ap (λ d. d >>= λ x. (after s.Semicolon x.1 >>= λ v. Some (x.0, v))) (start_complete ts us m start e2 x)
    ∙ ap (λ d. d >>= λ v. Some (start, v)) (after_yes s.Semicolon m us e2)

condition_part : (n : Token) (ts us : List Token) (condition : Option Expr) → Condition ts (n ∷ us) condition → IsSign s.Semicolon n → r.for_condition ts ≡ Some (condition, us)
condition_part n ts us condition x e =
    ap (λ d. d >>= λ x. (after s.Semicolon x.1 >>= λ v. Some (x.0, v))) (condition_complete ts us n condition e x)
    ∙ ap (λ d. d >>= λ v. Some (condition, v)) (after_yes s.Semicolon n us e)

step_part : (c : Token) (ts us : List Token) (step : Option Expr) → Step ts (c ∷ us) step → IsSign s.CloseRound c → r.for_step ts ≡ Some (step, us)
step_part c ts us step x e =
    ap (λ d. d >>= λ x. (after s.CloseRound x.1 >>= λ v. Some (x.0, v))) (step_complete ts us c step e x)
    ∙ ap (λ d. d >>= λ v. Some (step, v)) (after_yes s.CloseRound c us e)

for_begun : (j : Allowed) (t o m n c : Token) (ts us vs xs : List Token) (start : Option Stmt) (condition step : Option Expr) → IsWord w.For t → IsSign s.OpenRound o → Start ts (m ∷ us) start → IsSign s.Semicolon m →
    Condition us (n ∷ vs) condition → IsSign s.Semicolon n → Step vs (c ∷ xs) step → IsSign s.CloseRound c → begin j (t ∷ o ∷ ts) ≡ Some (nx.Inside (fr.For t.place start condition step) r.in_loop, xs)
for_begun j t o m n c ts us vs xs start condition step e1 e2 z1 e3 z2 e4 z3 e5 =
    begin_by j t (o ∷ ts) (k.Word w.For) b.For e1 for_begins refl
    ∙ ap (λ d. d >>= λ x. (r.for_condition x.1 >>= λ y. (r.for_step y.1 >>= λ z. Some (nx.Inside (fr.For t.place x.0 y.0 z.0) r.in_loop, z.1)))) (start_part o m ts us start e2 z1 e3)
    ∙ ap (λ d. d >>= λ y. (r.for_step y.1 >>= λ z. Some (nx.Inside (fr.For t.place start y.0 z.0) r.in_loop, z.1))) (condition_part n us vs condition z2 e4)
    ∙ ap (λ d. d >>= λ z. Some (nx.Inside (fr.For t.place start condition z.0) r.in_loop, z.1)) (step_part c vs xs step z3 e5)

for_done : (j : Jumps) (f : Bool) (t o m n c : Token) (ts us vs xs rest : List Token) (start : Option Stmt) (condition step : Option Expr) (body : Stmt) → IsWord w.For t → IsSign s.OpenRound o →
    Start ts (m ∷ us) start → IsSign s.Semicolon m → Condition us (n ∷ vs) condition → IsSign s.Semicolon n → Step vs (c ∷ xs) step → IsSign s.CloseRound c →
    StatementDone g.in_loop f xs rest body → StatementDone j f (t ∷ o ∷ ts) rest (stmt t.place (st.For start condition step body))
for_done j f t o m n c ts us vs xs rest start condition step body e1 e2 z1 e3 z2 e4 z3 e5 sub = record {
  by = λ h.
      entered (given j) r.in_loop (fr.For t.place start condition step) (t ∷ o ∷ ts) xs rest body (for_begun (given j) t o m n c ts us vs xs start condition step e1 e2 z1 e3 z2 e4 z3 e5) (sub.by h)
      ∙ done_law (stmt t.place (st.For start condition step body)) rest;
}

for_each_begun : (j : Allowed) (x : List ℕ) (p : Place) (t o v n i c : Token) (ts us : List Token) (d : Expr) → IsWord w.Foreach t → IsSign s.OpenRound o → IsWord w.Var v → IsName x n → IsWord w.In i →
    Spells 0 p ts (c ∷ us) d → IsSign s.CloseRound c → begin j (t ∷ o ∷ v ∷ n ∷ i ∷ ts) ≡ Some (nx.Inside (fr.ForEach t.place (ident n x) d) r.in_loop, us)
for_each_begun j x p t o v n i c ts us d e1 e2 e3 e4 e5 sp e6 =
    begin_by j t (o ∷ v ∷ n ∷ i ∷ ts) (k.Word w.Foreach) b.ForEach e1 for_each_begins refl
    ∙ ap (λ z. z >>= λ q. (after_word w.Var q >>= λ y. (name_first y >>= λ m. (after_word w.In m.1 >>= λ a. (expr_first 0 a >>= λ z. (after s.CloseRound z.1 >>= λ b. Some (nx.Inside (fr.ForEach t.place m.0 z.0) r.in_loop, b)))))))
    (after_yes s.OpenRound o (v ∷ n ∷ i ∷ ts) e2)
    ∙ ap (λ z. z >>= λ y. (name_first y >>= λ m. (after_word w.In m.1 >>= λ a. (expr_first 0 a >>= λ z. (after s.CloseRound z.1 >>= λ b. Some (nx.Inside (fr.ForEach t.place m.0 z.0) r.in_loop, b))))))
    (after_word_yes w.Var v (n ∷ i ∷ ts) e3)
    ∙ ap (λ z. z >>= λ m. (after_word w.In m.1 >>= λ a. (expr_first 0 a >>= λ z. (after s.CloseRound z.1 >>= λ b. Some (nx.Inside (fr.ForEach t.place m.0 z.0) r.in_loop, b))))) (name_yes x n (i ∷ ts) e4)
    ∙ ap (λ z. z >>= λ a. (expr_first 0 a >>= λ z. (after s.CloseRound z.1 >>= λ b. Some (nx.Inside (fr.ForEach t.place (ident n x) z.0) r.in_loop, b)))) (after_word_yes w.In i ts e5)
    ∙ ap (λ z. z >>= λ z. (after s.CloseRound z.1 >>= λ b. Some (nx.Inside (fr.ForEach t.place (ident n x) z.0) r.in_loop, b))) (expression_read p ts (c ∷ us) d (close_stops c us e6).quiet sp)
    ∙ ap (λ z. z >>= λ b. Some (nx.Inside (fr.ForEach t.place (ident n x) d) r.in_loop, b)) (after_yes s.CloseRound c us e6)

for_each_done : (j : Jumps) (f : Bool) (x : List ℕ) (p : Place) (t o v n i c : Token) (ts us rest : List Token) (d : Expr) (body : Stmt) → IsWord w.Foreach t → IsSign s.OpenRound o → IsWord w.Var v → IsName x n → IsWord w.In i →
    Spells 0 p ts (c ∷ us) d → IsSign s.CloseRound c → StatementDone g.in_loop f us rest body → StatementDone j f (t ∷ o ∷ v ∷ n ∷ i ∷ ts) rest (stmt t.place (st.ForEach (ident n x) d body))
for_each_done j f x p t o v n i c ts us rest d body e1 e2 e3 e4 e5 sp e6 sub = record {
  by = λ h.
      entered (given j) r.in_loop (fr.ForEach t.place (ident n x) d) (t ∷ o ∷ v ∷ n ∷ i ∷ ts) us rest body (for_each_begun (given j) x p t o v n i c ts us d e1 e2 e3 e4 e5 sp e6) (sub.by h)
      ∙ done_law (stmt t.place (st.ForEach (ident n x) d body)) rest;
}

switch_done : (j : Jumps) (f : Bool) (p : Place) (t o c m d : Token) (ts us rest : List Token) (x : Expr) (sections : List Section) → IsWord w.Switch t → IsSign s.OpenRound o → Spells 0 p ts (c ∷ m ∷ us) x → IsSign s.CloseRound c →
    IsSign s.OpenBrace m → SectionsDone (g.in_switch j) 1 us (d ∷ rest) sections → IsSign s.CloseBrace d → StatementDone j f (t ∷ o ∷ ts) rest (stmt t.place (st.Switch x sections))
switch_done j f p t o c m d ts us rest x sections e1 e2 sp e3 e4 sub e5 = record {
  by = λ h.
      let open_at : Expr → OpenSwitch = λ v. record { place = t.place; value = v; jumps = r.in_switch (given j); room = 1; sections = [] } in
      statement_law (given j) (t ∷ o ∷ ts)
      ∙ ap (λ z. z >>= λ y. rest_first y.0 y.1) (
      begin_by (given j) t (o ∷ ts) (k.Word w.Switch) b.Switch e1 switch_begins refl
      ∙ ap (λ z. z >>= λ y. (after s.OpenBrace y.1 >>= λ q. Some (nx.Switch (open_at y.0), q))) (round_read p o c ts (m ∷ us) x e2 sp e3)
      ∙ ap (λ z. z >>= λ q. Some (nx.Switch (open_at x), q)) (after_yes s.OpenBrace m us e4))
      ∙ sub.by t.place x [] d rest refl e5;
}

await_done : (j : Jumps) (f : Bool) (p q v : Place) (t n c : Token) (ts rest : List Token) (x : Expr) (bs : List Expr) → IsWord w.Await t →
    Spells 0 p ts (c ∷ rest) (node q (ek.Call (node v (ek.Member x (ident n (codes "InvokeAsync")))) bs)) → IsSign s.Semicolon c →
    StatementDone j f (t ∷ ts) rest (stmt t.place (st.Await (node q (ek.Call (node v (ek.Member x (ident n (codes "InvokeAsync")))) bs))))
await_done j f p q v t n c ts rest x bs e1 sp e2 = record {
  by = λ h.
      let d = node q (ek.Call (node v (ek.Member x (ident n (codes "InvokeAsync")))) bs) in
      made (given j) (t ∷ ts) rest (stmt t.place (st.Await d)) (
      begin_by (given j) t ts (k.Word w.Await) b.Await e1 await_begins refl
      ∙ ap (λ z. z >>= λ y. if is_invoke y.0 then r.ended t.place (st.Await y.0) y.1 else None) (expression_read p ts (c ∷ rest) d (semicolon_stops c rest e2).quiet sp)
      ∙ ap (λ z. if z then r.ended t.place (st.Await d) (c ∷ rest) else None) (invoke_is q v x n bs)
      ∙ ended_read t.place (st.Await d) c rest e2);
}

break_done : (j : Jumps) (f : Bool) (t c : Token) (rest : List Token) → j.breaks ≡ true → IsWord w.Break t → IsSign s.Semicolon c → StatementDone j f (t ∷ c ∷ rest) rest (stmt t.place st.Break)
break_done j f t c rest i e1 e2 = record {
  by = λ h. made (given j) (t ∷ c ∷ rest) rest (stmt t.place st.Break) (
      begin_by (given j) t (c ∷ rest) (k.Word w.Break) b.Break e1 break_begins refl
      ∙ ap (λ d. if d then r.ended t.place st.Break (c ∷ rest) else None) i
      ∙ ended_read t.place st.Break c rest e2);
}

continue_done : (j : Jumps) (f : Bool) (t c : Token) (rest : List Token) → j.continues ≡ true → IsWord w.Continue t → IsSign s.Semicolon c → StatementDone j f (t ∷ c ∷ rest) rest (stmt t.place st.Continue)
continue_done j f t c rest i e1 e2 = record {
  by = λ h. made (given j) (t ∷ c ∷ rest) rest (stmt t.place st.Continue) (
      begin_by (given j) t (c ∷ rest) (k.Word w.Continue) b.Continue e1 continue_begins refl
      ∙ ap (λ d. if d then r.ended t.place st.Continue (c ∷ rest) else None) i
      ∙ ended_read t.place st.Continue c rest e2);
}

return_done : (j : Jumps) (f : Bool) (t c : Token) (ts rest : List Token) (value : Option Expr) → IsWord w.Return t → Condition ts (c ∷ rest) value → IsSign s.Semicolon c →
    StatementDone j f (t ∷ ts) rest (stmt t.place (st.Return value))
return_done j f t c ts rest value e1 x e2 = record {
  by = λ h. made (given j) (t ∷ ts) rest (stmt t.place (st.Return value)) (
      begin_by (given j) t ts (k.Word w.Return) b.Return e1 return_begins refl
      ∙ ap (λ o. o >>= λ y. r.ended t.place (st.Return y.0) y.1) (condition_complete ts rest c value e2 x)
      ∙ ended_read t.place (st.Return value) c rest e2);
}

-- no `else` stands before other statements, nor before the end of their list
others_no_else : (j : Jumps) (ts rest : List Token) (body : List Stmt) → Ends rest → Statements j ts rest body → after_word w.Else ts ≡ None
others_no_else j ts rest body h (g.no_statement _ _) = h.no_else
others_no_else j ts rest body h (g.more_statements _ _ us _ first others x y) = begins_no_else ts (starts j false ts us first x)

more_done : (j : Jumps) (ts us rest : List Token) (first : Stmt) (others : List Stmt) → begins ts ≡ true → (Ends rest → after_word w.Else us ≡ None) → StatementDone j false ts us first → ListDone j us rest others → ListDone j ts rest (first ∷ others)
more_done j ts us rest first others e h sub1 sub2 = record {
  by = λ read found ends lists.
      lists.on found ts e
      ∙ ap (λ o. o >>= λ x. read (found ++ x.0 ∷ []) x.1) (sub1.by (λ i. h ends))
      ∙ sub2.by read (found ++ first ∷ []) ends lists
      ∙ ap (λ l. read l rest) (append_assoc found (first ∷ []) others);
}

no_section_done : (j : Jumps) (room : ℕ) (rest : List Token) → SectionsDone j room rest rest []
no_section_done j room rest = record {
  by = λ p value before c us whole e.
      let o : OpenSwitch = record { place = p; value = value; jumps = given j; room = room; sections = before } in
      ap (λ l. rest_first (nx.Switch o) l) whole
      ∙ switch_law o (c ∷ us)
      ∙ ap (λ d. onto (if d then r.labels_on o (c ∷ us) else (after s.CloseBrace (c ∷ us) >>= λ q. r.done p (st.Switch value before) q)))
      (ap (λ kind. is_word w.Case kind || is_word w.Default kind) e)
      ∙ ap (λ d. onto (d >>= λ q. r.done p (st.Switch value before) q)) (after_yes s.CloseBrace c us e)
      ∙ done_law (stmt p (st.Switch value before)) us
      ∙ ap (λ l. Some (stmt p (st.Switch value l), us)) (sym (no_more before));
}

-- before a section, and before the end of a `switch`, a list of statements ends
sections_end : (j : Jumps) (room : ℕ) (ts rest : List Token) (sections : List Section) (c : Token) (us : List Token) → rest ≡ c ∷ us → IsSign s.CloseBrace c → Sections j room ts rest sections → Ends ts
sections_end j room ts rest sections c us whole e (g.no_section _ _ _) = subst (λ l. Ends l) (sym whole) (close_ends c us e)
sections_end j room ts rest sections c us whole e (g.more_sections _ _ _ vs xs _ labels body others x h y z more) = (labels_labelling ts vs labels x).ends

body_begins : (j : Jumps) (ts rest : List Token) (body : List Stmt) → Leaves body → Statements j ts rest body → begins ts ≡ true
body_begins j ts rest body h (g.no_statement _ _) = elim h [ ]
body_begins j ts rest body h (g.more_statements _ _ us _ first others x y) = starts j false ts us first x

more_sections_done : (j : Jumps) (room : ℕ) (ts us vs rest : List Token) (labels : List Label) (body : List Stmt) (others : List Section) → Labels ts us labels → defaults labels ≤ room → has_label us ≡ false → ListDone j us vs body → Leaves body →
    ((c : Token) (xs : List Token) → rest ≡ c ∷ xs → IsSign s.CloseBrace c → Ends vs) → SectionsDone j (room - defaults labels) vs rest others → SectionsDone j room ts rest (section labels body ∷ others)
more_sections_done j room ts us vs rest labels body others x h no_label sub1 leave end sub2 = record {
  by = λ p value before c xs whole e.
      let o : OpenSwitch = record { place = p; value = value; jumps = given j; room = room; sections = before } in
      let next : OpenSwitch = record o { room = room - defaults labels } in
      let full : OpenSection = record { before = next; labels = labels; found = body } in
      let ends = end c xs whole e in
      switch_law o ts
      ∙ ap (λ d. onto (if d then r.labels_on o ts else (after s.CloseBrace ts >>= λ q. r.done p (st.Switch value before) q))) (labels_labelling ts us labels x).label
      ∙ ap (λ d. onto (d >>= λ y. if nat_lt room (defaults y.0) then None else Some (nx.Section (r.section_of o y.0), y.1))) (labels_read ts us labels no_label x)
      ∙ ap (λ d. onto (if d then None else Some (nx.Section (r.section_of o labels), us))) (le-ltb _ _ h)
      ∙ sub1.by (λ found zs. rest_first (nx.Section (record { before = next; labels = labels; found = found })) zs) [] ends (section_lists next labels)
      ∙ section_law full vs
      ∙ ap (λ d. onto (if d then Some (nx.Inside (fr.Section full) full.before.jumps, vs) else if leaves body then Some (nx.Switch (r.switch_with full), vs) else None)) ends.stop
      ∙ ap (λ d. onto (if d then Some (nx.Switch (r.switch_with full), vs) else None)) (leaves_complete body leave)
      ∙ sub2.by p value (before ++ section labels body ∷ []) c xs whole e
      ∙ ap (λ l. Some (stmt p (st.Switch value l), xs)) (append_assoc before (section labels body ∷ []) others);
}

mutual
  complete : (j : Jumps) (f : Bool) (ts rest : List Token) (a : Stmt) → Statement j f ts rest a → StatementDone j f ts rest a
  complete j f ts rest a (g.simple _ _ p c _ _ kind x e) = simple_done j f p c ts rest kind x e
  complete j f ts rest a (g.empty _ _ c _ e) = record {
    by = λ h. made (given j) (c ∷ rest) rest (stmt c.place st.Empty) (begin_by (given j) c rest (k.Sign s.Semicolon) b.Empty e semicolon_begins refl);
  }
  complete j f ts rest a (g.block _ _ o c us _ body e1 x e2) = block_done j f o c us rest body e1 (list_complete j us (c ∷ rest) body x) e2
  complete j f ts rest a (g.if_alone _ p t o c us vs _ x one e1 e2 sp e3 y) = alone_done j p t o c us vs rest x one e1 e2 sp e3 (complete j false vs rest one y)
  complete j f ts rest a (g.if_else _ _ p t o c d us vs xs _ x one other e1 e2 sp e3 y e4 z) =
      else_done j f p t o c d us vs xs rest x one other e1 e2 sp e3 (complete j true vs (d ∷ xs) one y) e4 (complete j f xs rest other z)
  complete j f ts rest a (g.while_ _ _ p t o c us vs _ x body e1 e2 sp e3 y) = while_done j f p t o c us vs rest x body e1 e2 sp e3 (complete g.in_loop f vs rest body y)
  complete j f ts rest a (g.for_ _ _ t o m n c us vs xs ys _ start condition step body e1 e2 z1 e3 z2 e4 z3 e5 y) =
      for_done j f t o m n c us vs xs ys rest start condition step body e1 e2 z1 e3 z2 e4 z3 e5 (complete g.in_loop f ys rest body y)
  complete j f ts rest a (g.foreach_ _ _ x p t o v n i c us vs _ d body e1 e2 e3 e4 e5 sp e6 y) =
      for_each_done j f x p t o v n i c us vs rest d body e1 e2 e3 e4 e5 sp e6 (complete g.in_loop f vs rest body y)
  complete j f ts rest a (g.switch_ _ _ p t o c m d us vs _ x sections e1 e2 sp e3 e4 y e5) =
      switch_done j f p t o c m d us vs rest x sections e1 e2 sp e3 e4 (sections_complete (g.in_switch j) 1 vs (d ∷ rest) sections y) e5
  complete j f ts rest a (g.await_ _ _ p q v t n c us _ x bs e1 sp e2) = await_done j f p q v t n c us rest x bs e1 sp e2
  complete j f ts rest a (g.break_ _ _ t c _ h e1 e2) = break_done j f t c rest h e1 e2
  complete j f ts rest a (g.continue_ _ _ t c _ h e1 e2) = continue_done j f t c rest h e1 e2
  complete j f ts rest a (g.return_ _ _ t c us _ value e1 x e2) = return_done j f t c us rest value e1 x e2

  list_complete : (j : Jumps) (ts rest : List Token) (body : List Stmt) → Statements j ts rest body → ListDone j ts rest body
  list_complete j ts rest body (g.no_statement _ _) = record { by = λ read found ends lists. ap (λ l. read l rest) (sym (no_more found)) }
  list_complete j ts rest body (g.more_statements _ _ us _ first others x y) =
      more_done j ts us rest first others (starts j false ts us first x) (λ h. others_no_else j us rest others h y) (complete j false ts us first x) (list_complete j us rest others y)

  sections_complete : (j : Jumps) (room : ℕ) (ts rest : List Token) (sections : List Section) → Sections j room ts rest sections → SectionsDone j room ts rest sections
  sections_complete j room ts rest sections (g.no_section _ _ _) = no_section_done j room rest
  sections_complete j room ts rest sections (g.more_sections _ _ _ us vs _ labels body others x h y z more) =
      more_sections_done j room ts us vs rest labels body others x h (begins_no_label us (body_begins j us vs body z y)) (list_complete j us vs body y) z
      (λ c xs whole e. sections_end j (room - defaults labels) vs rest others c xs whole e more) (sections_complete j (room - defaults labels) vs rest others more)

-- what is spelled, and behind which no `else` stands where it could be taken, is read
pub statement_complete : (j : Jumps) (f : Bool) (ts rest : List Token) (a : Stmt) → (f ≡ false → after_word w.Else rest ≡ None) → Statement j f ts rest a → statement_first (given j) ts ≡ Some (a, rest)
statement_complete j f ts rest a h x = (complete j f ts rest a x).by h

in_complete : (n : ℕ) (j : Jumps) (ts rest : List Token) (body : List Stmt) → Ends rest → length ts < n → Statements j ts rest body → statements_in n (given j) ts ≡ Some (body, rest)
unfolding statements_in
in_complete zero j ts rest body h len x = absurd (omega arith)
in_complete (suc n) j ts rest body h len (g.no_statement _ _) =
    ap (λ d. if d then (statement_first (given j) rest >>= λ x. (statements_in n (given j) x.1 >>= λ y. Some (x.0 ∷ y.0, y.1))) else Some ([], rest)) h.stop
in_complete (suc n) j ts rest body h len (g.more_statements _ _ us _ first others x y) =
    let e = statement_complete j false ts us first (λ i. others_no_else j us rest others h y) x in
    let less = statement_shorter (given j) ts (first, us) e in
    ap (λ d. if d then (statement_first (given j) ts >>= λ x. (statements_in n (given j) x.1 >>= λ y. Some (x.0 ∷ y.0, y.1))) else Some ([], ts)) (starts j false ts us first x)
    ∙ ap (λ o. o >>= λ x. (statements_in n (given j) x.1 >>= λ y. Some (x.0 ∷ y.0, y.1))) e
    ∙ ap (λ o. o >>= λ y. Some (first ∷ y.0, y.1)) (in_complete n j us rest others h (omega arith) y)

-- statements that end there are read
pub statements_complete : (j : Jumps) (ts rest : List Token) (body : List Stmt) → Ends rest → Statements j ts rest body → statements_first (given j) ts ≡ Some (body, rest)
unfolding statements_first
statements_complete j ts rest body h x = in_complete (length ts + 1) j ts rest body h (omega arith) x

-- and take none of the tokens behind them
pub statements_shorter : (j : Jumps) (ts rest : List Token) (body : List Stmt) → Ends rest → Statements j ts rest body → length rest ≤ length ts
statements_shorter j ts rest body h (g.no_statement _ _) = omega arith
statements_shorter j ts rest body h (g.more_statements _ _ us _ first others x y) =
    let less = statement_shorter (given j) ts (first, us) (statement_complete j false ts us first (λ i. others_no_else j us rest others h y) x) in
    let more = statements_shorter j us rest others h y in
    omega (arith, less, more)
