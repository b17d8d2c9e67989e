-- What is read as a statement is spelled.
use Rattle.std.proofs.Common.{◌≡◌, ℕ, zero, suc, ◌+◌, List, [], ◌∷◌, length, refl, sym, ap, ◌∙◌, subst, inl, inr}
use Rattle.std.specs.Prelude.{Bool, true, false, if◌then◌else◌, codes, Option, Some, None, ◌⊎◌}
use Rattle.text_core.specs.declared.place.Place.{Place}
use Rattle.cs_ast.specs.declared.expression.Expr.{Expr}
use Rattle.cs_ast.specs.declared.expression.ExprKind.TheVariants as ek
use Rattle.cs_ast.specs.declared.expression.Stmt.{Stmt}
use Rattle.cs_ast.specs.declared.expression.StmtKind.{StmtKind}
use Rattle.cs_ast.specs.declared.expression.StmtKind.TheVariants as st
use Rattle.cs_ast.specs.declared.identifier.Ident.{Ident}
use Rattle.cs_token.specs.declared.token.Token.{Token}
use Rattle.cs_token.specs.declared.token.Sign.TheVariants as s
use Rattle.cs_token.specs.declared.token.Word.TheVariants as w
use Rattle.cs_grammar.specs.Tokens.{IsSign, IsWord, IsName, ident}
use Rattle.cs_grammar.specs.Expressions.{node, Spells}
use Rattle.cs_grammar.specs.Statements.{stmt, Statement, Statements, Start, Condition, Step}
use Rattle.cs_grammar.specs.Statements as g
use Rattle.cs_parse.specs.declared.statement.frame.Beginning.{Beginning}
use Rattle.cs_parse.specs.declared.statement.frame.Beginning.TheVariants as b
use Rattle.cs_parse.specs.declared.statement.frame.Frame.TheVariants as fr
use Rattle.cs_parse.specs.declared.statement.frame.Jumps.{Jumps as Allowed}
use Rattle.cs_parse.specs.declared.statement.frame.Next.{Next}
use Rattle.cs_parse.specs.declared.statement.frame.Next.TheVariants as nx
use Rattle.cs_parse.specs.declared.statement.frame.OpenBlock.{OpenBlock}
use Rattle.cs_parse.specs.declared.statement.frame.OpenSwitch.{OpenSwitch}
use Rattle.cs_parse.specs.Reading.{Read, ◌>>=◌, after, name_first}
use Rattle.cs_parse.specs.ExpressionReading.{expr_first}
use Rattle.cs_parse.specs.TreeViews.{is_invoke}
use Rattle.cs_parse.specs.SimpleReading.{after_word, simple_first, start_first, condition_first, step_first}
use Rattle.cs_parse.specs.StatementReading as r
use Rattle.cs_parse.specs.StatementReading.{Onward, begin, begun, beginning, begins, in_round, resume, within, steps, statement_first, statements_in, statements_first}
use Rattle.cs_parse.proofs.TokenLemmas.{bind_ok, moved, after_ok, name_ok}
use Rattle.cs_parse.proofs.ShrinkLemmas.{after_word_ok, passed}
use Rattle.cs_parse.proofs.SimpleSound.{expression_ok, simple_sound, condition_sound, step_sound, start_sound}
use Rattle.cs_parse.proofs.TreeLemmas.{invoke_form}
use Rattle.cs_parse.proofs.FrameSound.{grammar, Stands, Blocks, Switches, Alone, Otherwise, Made, Within, Completes, done_sound, resume_sound, block_sound, section_sound, switch_sound, round_ok, after_word_yes, begun_word, begun_semicolon, begun_brace}

module _ (a : Stmt) (rest : List Token) where
  -- what is known of what follows
  known : {next : Next} {us : List Token} {x : Next × List Token} → ◌≡◌ {A = Onward} (Some (next, us)) (Some x) → Completes x.0 x.1 a rest → Completes next us a rest
  known {next} {us} e h = moved (λ z. Completes z.0 z.1 a rest → Completes next us a rest) e (λ h. h) h

  -- a statement that was made ends there
  stands : (j : Allowed) (ts us : List Token) (made : Stmt) → Made made us a rest → Stands j ts made us → Stands j ts a rest
  stands j ts us made m h = subst (λ z. Stands j ts z rest) m.same (subst (λ l. Stands j ts made l) m.end h)

  ended_sound : (j : Allowed) (ts us : List Token) (p : Place) (kind : StmtKind) (x : Next × List Token) → r.ended p kind us ≡ Some x → Completes x.0 x.1 a rest →
      ((c : Token) (vs : List Token) → us ≡ c ∷ vs → IsSign s.Semicolon c → Stands j ts (stmt p kind) vs) → Stands j ts a rest
  ended_sound j ts us p kind x e h make =
      let q = bind_ok (after s.Semicolon us) _ _ e in
      let c = after_ok s.Semicolon us q.0 q.1 in
      stands j ts q.0 (stmt p kind) (done_sound a rest (stmt p kind) q.0 x q.2 h) (make c.0 q.0 c.1 c.2)

  simple_stands : (j : Allowed) (ts : List Token) (x : Next × List Token) → r.begun_simple ts ≡ Some x → Completes x.0 x.1 a rest → Stands j ts a rest
  simple_stands j ts x e h =
      let d = bind_ok (simple_first ts) _ _ e in
      let q = bind_ok (after s.Semicolon d.0.1) _ _ d.2 in
      let c = after_ok s.Semicolon d.0.1 q.0 q.1 in
      let y = simple_sound ts d.0.0 d.0.1 d.1 in
      stands j ts q.0 d.0.0 (done_sound a rest d.0.0 q.0 x q.2 h)
      (subst (λ z. Stands j ts z q.0) (sym y.same) (record { by = λ f stay. g.simple (grammar j) f y.p c.0 ts q.0 y.kind (subst (λ l. g.Simple y.p ts l y.kind) c.1 y.is) c.2 }))

  if_stands : (j : Allowed) (t : Token) (ts : List Token) (x : Next × List Token) → IsWord w.If t → r.begun_if j t.place ts ≡ Some x → Completes x.0 x.1 a rest → Stands j (t ∷ ts) a rest
  if_stands j t ts x i e h =
      let d = bind_ok (in_round ts) _ _ e in
      let y = round_ok ts d.0.0 d.0.1 d.1 in
      let z : Within (fr.Yes t.place j d.0.0) j d.0.1 a rest = known d.2 h in
      elim z.behind [
        | inl alone ↦ subst (λ q. Stands j (t ∷ ts) q rest) (sym alone.same) (subst (λ l. Stands j (t ∷ l) (stmt t.place (st.If d.0.0 z.inner None)) rest) (sym y.whole)
            (record {
              by = λ f stay. only_alone f stay (subst (λ l. after_word w.Else l ≡ None) alone.end alone.stop)
                  (g.if_alone (grammar j) y.p t y.o y.c y.us d.0.1 rest d.0.0 z.inner i y.open_ y.spells y.close
                  (subst (λ l. Statement (grammar j) false d.0.1 l z.inner) alone.end (z.is.by false (λ e m. absurd (cc)))));
            }))
        | inr other ↦ subst (λ q. Stands j (t ∷ ts) q rest) (sym other.same) (subst (λ l. Stands j (t ∷ l) (stmt t.place (st.If d.0.0 z.inner (Some other.second))) rest) (sym y.whole)
            (record {
              by = λ f stay. g.if_else (grammar j) f y.p t y.o y.c other.d y.us d.0.1 other.us rest d.0.0 z.inner other.second i y.open_ y.spells y.close
                  (subst (λ l. Statement (grammar j) true d.0.1 l z.inner) other.whole
                  (z.is.by true (λ e m. let taken : Some other.us ≡ None = sym (after_word_yes w.Else other.d other.us other.word) ∙ ap (after_word w.Else) (sym other.whole) ∙ m in absurd (cc))))
                  other.word (other.is.by f stay);
            }))
      ]
    where
      only_alone : (f : Bool) {ts : List Token} {one : Stmt} → (f ≡ true → after_word w.Else rest ≡ None → ⊥) → after_word w.Else rest ≡ None → Statement (grammar j) false ts rest one → Statement (grammar j) f ts rest one
      only_alone true stay m h = absurd (stay refl m)
      only_alone false stay m h = h

  while_stands : (j : Allowed) (t : Token) (ts : List Token) (x : Next × List Token) → IsWord w.While t → r.begun_while t.place ts ≡ Some x → Completes x.0 x.1 a rest → Stands j (t ∷ ts) a rest
  while_stands j t ts x i e h =
      let d = bind_ok (in_round ts) _ _ e in
      let y = round_ok ts d.0.0 d.0.1 d.1 in
      let z : Within (fr.While t.place d.0.0) r.in_loop d.0.1 a rest = known d.2 h in
      stands j (t ∷ ts) z.us (stmt t.place (st.While d.0.0 z.inner)) z.behind (subst (λ l. Stands j (t ∷ l) (stmt t.place (st.While d.0.0 z.inner)) z.us) (sym y.whole)
      (record { by = λ f stay. g.while_ (grammar j) f y.p t y.o y.c y.us d.0.1 z.us d.0.0 z.inner i y.open_ y.spells y.close (z.is.by f stay) }))

  for_stands : (j : Allowed) (t : Token) (ts : List Token) (x : Next × List Token) → IsWord w.For t → r.begun_for t.place ts ≡ Some x → Completes x.0 x.1 a rest → Stands j (t ∷ ts) a rest
  for_stands j t ts x i e h =
      let p1 = bind_ok (r.for_start ts) _ _ e in
      let q = bind_ok (after s.OpenRound ts) _ _ p1.1 in
      let o = after_ok s.OpenRound ts q.0 q.1 in
      let b1 = bind_ok (start_first q.0) _ _ q.2 in
      let q2 = bind_ok (after s.Semicolon b1.0.1) _ _ b1.2 in
      let m = after_ok s.Semicolon b1.0.1 q2.0 q2.1 in
      let start : Start q.0 (m.0 ∷ p1.0.1) p1.0.0 = moved (λ z. Start q.0 (m.0 ∷ z.1) z.0) q2.2 (subst (λ l. Start q.0 l b1.0.0) m.1 (start_sound q.0 b1.0.0 b1.0.1 b1.1)) in
      let p2 = bind_ok (r.for_condition p1.0.1) _ _ p1.2 in
      let b2 = bind_ok (condition_first p1.0.1) _ _ p2.1 in
      let q3 = bind_ok (after s.Semicolon b2.0.1) _ _ b2.2 in
      let n = after_ok s.Semicolon b2.0.1 q3.0 q3.1 in
      let condition : Condition p1.0.1 (n.0 ∷ p2.0.1) p2.0.0 =
      moved (λ z. Condition p1.0.1 (n.0 ∷ z.1) z.0) q3.2 (subst (λ l. Condition p1.0.1 l b2.0.0) n.1 (condition_sound p1.0.1 b2.0.0 b2.0.1 b2.1)) in
      let p3 = bind_ok (r.for_step p2.0.1) _ _ p2.2 in
      let b3 = bind_ok (step_first p2.0.1) _ _ p3.1 in
      let q4 = bind_ok (after s.CloseRound b3.0.1) _ _ b3.2 in
      let c = after_ok s.CloseRound b3.0.1 q4.0 q4.1 in
      let step : Step p2.0.1 (c.0 ∷ p3.0.1) p3.0.0 = moved (λ z. Step p2.0.1 (c.0 ∷ z.1) z.0) q4.2 (subst (λ l. Step p2.0.1 l b3.0.0) c.1 (step_sound p2.0.1 b3.0.0 b3.0.1 b3.1)) in
      let z : Within (fr.For t.place p1.0.0 p2.0.0 p3.0.0) r.in_loop p3.0.1 a rest = known p3.2 h in
      stands j (t ∷ ts) z.us (stmt t.place (st.For p1.0.0 p2.0.0 p3.0.0 z.inner)) z.behind (subst (λ l. Stands j (t ∷ l) (stmt t.place (st.For p1.0.0 p2.0.0 p3.0.0 z.inner)) z.us) (sym o.1)
      (record {
        by = λ f stay. g.for_ (grammar j) f t o.0 m.0 n.0 c.0 q.0 p1.0.1 p2.0.1 p3.0.1 z.us p1.0.0 p2.0.0 p3.0.0 z.inner i o.2 start m.2 condition n.2 step c.2 (z.is.by f stay);
      }))

  for_each_stands : (j : Allowed) (t : Token) (ts : List Token) (x : Next × List Token) → IsWord w.Foreach t → r.begun_for_each t.place ts ≡ Some x → Completes x.0 x.1 a rest → Stands j (t ∷ ts) a rest
  for_each_stands j t ts x i e h =
      let q = bind_ok (after s.OpenRound ts) _ _ e in
      let o = after_ok s.OpenRound ts q.0 q.1 in
      let q2 = bind_ok (after_word w.Var q.0) _ _ q.2 in
      let v = after_word_ok w.Var q.0 q2.0 q2.1 in
      let b1 = bind_ok (name_first q2.0) _ _ q2.2 in
      let n = name_ok q2.0 b1.0.1 b1.0.0 b1.1 in
      let q3 = bind_ok (after_word w.In b1.0.1) _ _ b1.2 in
      let k = after_word_ok w.In b1.0.1 q3.0 q3.1 in
      let b2 = bind_ok (expr_first 0 q3.0) _ _ q3.2 in
      let y = expression_ok q3.0 b2.0.0 b2.0.1 b2.1 in
      let q4 = bind_ok (after s.CloseRound b2.0.1) _ _ b2.2 in
      let c = after_ok s.CloseRound b2.0.1 q4.0 q4.1 in
      let z : Within (fr.ForEach t.place b1.0.0 b2.0.0) r.in_loop q4.0 a rest = known q4.2 h in
      let whole = o.1 ∙ ap (λ l. o.0 ∷ l) (v.1 ∙ ap (λ l. v.0 ∷ l) (n.2 ∙ ap (λ l. n.0 ∷ l) k.1)) in
      stands j (t ∷ ts) z.us (stmt t.place (st.ForEach b1.0.0 b2.0.0 z.inner)) z.behind (subst (λ l. Stands j (t ∷ l) (stmt t.place (st.ForEach b1.0.0 b2.0.0 z.inner)) z.us) (sym whole)
      (subst (λ i. Stands j (t ∷ o.0 ∷ v.0 ∷ n.0 ∷ k.0 ∷ q3.0) (stmt t.place (st.ForEach i b2.0.0 z.inner)) z.us) (sym n.4) (record {
        by = λ f stay. g.foreach_ (grammar j) f n.1 y.p t o.0 v.0 n.0 k.0 c.0 q3.0 q4.0 z.us b2.0.0 z.inner i o.2 v.2 n.3 k.2 (subst (λ l. Spells 0 y.p q3.0 l b2.0.0) c.1 y.spells) c.2
            (z.is.by f stay);
      })))

  switch_stands : (j : Allowed) (t : Token) (ts : List Token) (x : Next × List Token) → IsWord w.Switch t → r.begun_switch j t.place ts ≡ Some x → Completes x.0 x.1 a rest → Stands j (t ∷ ts) a rest
  switch_stands j t ts x i e h =
      let d = bind_ok (in_round ts) _ _ e in
      let y = round_ok ts d.0.0 d.0.1 d.1 in
      let q = bind_ok (after s.OpenBrace d.0.1) _ _ d.2 in
      let o = after_ok s.OpenBrace d.0.1 q.0 q.1 in
      let z : Switches (record { place = t.place; value = d.0.0; jumps = r.in_switch j; room = 1; sections = [] }) q.0 a rest = known q.2 h in
      subst (λ q. Stands j (t ∷ ts) q rest) (sym z.same) (subst (λ l. Stands j (t ∷ l) (stmt t.place (st.Switch d.0.0 z.others)) rest) (sym y.whole)
      (record {
        by = λ f stay. g.switch_ (grammar j) f y.p t y.o y.c o.0 z.c y.us q.0 rest d.0.0 z.others i y.open_ (subst (λ l. Spells 0 y.p y.us (y.c ∷ l) d.0.0) o.1 y.spells) y.close o.2 z.is z.close;
      }))

  await_stands : (j : Allowed) (t : Token) (ts : List Token) (x : Next × List Token) → IsWord w.Await t → r.begun_await t.place ts ≡ Some x → Completes x.0 x.1 a rest → Stands j (t ∷ ts) a rest
  await_stands j t ts x i e h =
      let d = bind_ok (expr_first 0 ts) _ _ e in
      let y = expression_ok ts d.0.0 d.0.1 d.1 in
      let q = passed (is_invoke d.0.0) (r.ended t.place (st.Await d.0.0) d.0.1) x d.2 in
      let form = invoke_form d.0.0 q.0 in
      ended_sound j (t ∷ ts) d.0.1 t.place (st.Await d.0.0) x q.1 h (λ c vs whole semicolon.
      subst (λ z. Stands j (t ∷ ts) (stmt t.place (st.Await z)) vs) (sym form.whole)
      (record {
        by = λ f stay. g.await_ (grammar j) f y.p d.0.0.place form.r t form.n c ts vs form.owner form.bs i
            (subst (λ z. Spells 0 y.p ts (c ∷ vs) z) form.whole (subst (λ l. Spells 0 y.p ts l d.0.0) whole y.spells)) semicolon;
      }))

  return_stands : (j : Allowed) (t : Token) (ts : List Token) (x : Next × List Token) → IsWord w.Return t → r.begun_return t.place ts ≡ Some x → Completes x.0 x.1 a rest → Stands j (t ∷ ts) a rest
  return_stands j t ts x i e h =
      let d = bind_ok (condition_first ts) _ _ e in
      let y = condition_sound ts d.0.0 d.0.1 d.1 in
      ended_sound j (t ∷ ts) d.0.1 t.place (st.Return d.0.0) x d.2 h (λ c vs whole semicolon.
      record { by = λ f stay. g.return_ (grammar j) f t c ts vs d.0.0 i (subst (λ l. Condition ts l d.0.0) whole y) semicolon })

  break_stands : (j : Allowed) (t : Token) (ts : List Token) (x : Next × List Token) → IsWord w.Break t → (if j.breaks then r.ended t.place st.Break ts else None) ≡ Some x → Completes x.0 x.1 a rest → Stands j (t ∷ ts) a rest
  break_stands j t ts x i e h =
      let q = passed j.breaks (r.ended t.place st.Break ts) x e in
      ended_sound j (t ∷ ts) ts t.place st.Break x q.1 h (λ c vs whole semicolon.
      subst (λ l. Stands j (t ∷ l) (stmt t.place st.Break) vs) (sym whole) (record { by = λ f stay. g.break_ (grammar j) f t c vs q.0 i semicolon }))

  continue_stands : (j : Allowed) (t : Token) (ts : List Token) (x : Next × List Token) → IsWord w.Continue t → (if j.continues then r.ended t.place st.Continue ts else None) ≡ Some x → Completes x.0 x.1 a rest →
      Stands j (t ∷ ts) a rest
  continue_stands j t ts x i e h =
      let q = passed j.continues (r.ended t.place st.Continue ts) x e in
      ended_sound j (t ∷ ts) ts t.place st.Continue x q.1 h (λ c vs whole semicolon.
      subst (λ l. Stands j (t ∷ l) (stmt t.place st.Continue) vs) (sym whole) (record { by = λ f stay. g.continue_ (grammar j) f t c vs q.0 i semicolon }))

  block_stands : (j : Allowed) (t : Token) (ts : List Token) (x : Next × List Token) → IsSign s.OpenBrace t →
      ◌≡◌ {A = Onward} (Some (nx.Block (record { place = t.place; jumps = j; found = [] }), ts)) (Some x) → Completes x.0 x.1 a rest → Stands j (t ∷ ts) a rest
  block_stands j t ts x i e h =
      let z : Blocks (record { place = t.place; jumps = j; found = [] }) ts a rest = known e h in
      subst (λ q. Stands j (t ∷ ts) q rest) (sym z.same) (record { by = λ f stay. g.block (grammar j) f t z.c ts rest z.others i z.is z.close })

  begun_stands : (j : Allowed) (by : Beginning) (t : Token) (ts : List Token) (x : Next × List Token) → beginning t.kind ≡ by → begun j by t.place ts ≡ Some x → Completes x.0 x.1 a rest → Stands j (t ∷ ts) a rest
  begun_stands j b.Empty t ts x i e h =
      stands j (t ∷ ts) ts (stmt t.place st.Empty) (done_sound a rest (stmt t.place st.Empty) ts x e h) (record { by = λ f stay. g.empty (grammar j) f t ts (begun_semicolon t i) })
  begun_stands j b.Block t ts x i e h = block_stands j t ts x (begun_brace t i) e h
  begun_stands j b.If t ts x i e h = if_stands j t ts x (begun_word t b.If refl i) e h
  begun_stands j b.While t ts x i e h = while_stands j t ts x (begun_word t b.While refl i) e h
  begun_stands j b.For t ts x i e h = for_stands j t ts x (begun_word t b.For refl i) e h
  begun_stands j b.ForEach t ts x i e h = for_each_stands j t ts x (begun_word t b.ForEach refl i) e h
  begun_stands j b.Switch t ts x i e h = switch_stands j t ts x (begun_word t b.Switch refl i) e h
  begun_stands j b.Await t ts x i e h = await_stands j t ts x (begun_word t b.Await refl i) e h
  begun_stands j b.Break t ts x i e h = break_stands j t ts x (begun_word t b.Break refl i) e h
  begun_stands j b.Continue t ts x i e h = continue_stands j t ts x (begun_word t b.Continue refl i) e h
  begun_stands j b.Return t ts x i e h = return_stands j t ts x (begun_word t b.Return refl i) e h
  begun_stands j b.Simple t ts x i e h = absurd (cc)
  begun_stands j b.Nothing t ts x i e h = absurd (cc)

  begin_stands : (j : Allowed) (ts : List Token) (x : Next × List Token) → begin j ts ≡ Some x → Completes x.0 x.1 a rest → Stands j ts a rest
  begin_stands j [] x e h = absurd (cc)
  begin_stands j (t ∷ ts) x e h = split (r.is_simple (beginning t.kind)) e
    where
      split : (d : Bool) → (if d then r.begun_simple (t ∷ ts) else begun j (beginning t.kind) t.place ts) ≡ Some x → Stands j (t ∷ ts) a rest
      split true e = simple_stands j (t ∷ ts) x e h
      split false e = begun_stands j (beginning t.kind) t ts x refl e h

record Sound (n : ℕ) : Type 0 where
  statement : (j : Allowed) (ts : List Token) (a : Stmt) (rest : List Token) → (within n ts).statement j ≡ Some (a, rest) → Stands j ts a rest
  rest : (next : Next) (ts : List Token) (a : Stmt) (rest : List Token) → (within n ts).rest next ≡ Some (a, rest) → Completes next ts a rest

rest_sound : (n : ℕ) → Sound n → (next : Next) (ts : List Token) (a : Stmt) (rest : List Token) → r.rest (within n) next ts ≡ Some (a, rest) → Completes next ts a rest
rest_sound n h (nx.Done made) ts a rest e = moved (λ z. Made made ts z.0 z.1) e (record { same = refl; end = refl })
rest_sound n h (nx.Inside f j) ts a rest e =
    let d = bind_ok ((within n ts).statement j) _ _ e in
    let y = bind_ok (resume f d.0.0 d.0.1) _ _ d.2 in
    record { inner = d.0.0; us = d.0.1; is = h.statement j ts d.0.0 d.0.1 d.1; behind = resume_sound a rest f d.0.0 d.0.1 y.0 y.1 (h.rest y.0.0 y.0.1 a rest y.2) }
rest_sound n h (nx.Block o) ts a rest e = let y = bind_ok (r.block o ts) _ _ e in block_sound a rest o ts y.0 y.1 (h.rest y.0.0 y.0.1 a rest y.2)
rest_sound n h (nx.Switch o) ts a rest e = let y = bind_ok (r.switch o ts) _ _ e in switch_sound a rest o ts y.0 y.1 (h.rest y.0.0 y.0.1 a rest y.2)
rest_sound n h (nx.Section o) ts a rest e = let y = bind_ok (r.section_on o ts) _ _ e in section_sound a rest o ts y.0 y.1 (h.rest y.0.0 y.0.1 a rest y.2)

sound : (n : ℕ) → Sound n
unfolding within
sound zero = record { statement = λ j ts a rest e. absurd (cc); rest = λ next ts a rest e. absurd (cc) }
sound (suc n) =
    let h = sound n in
    record {
      statement = λ j ts a rest e. let y = bind_ok (begin j ts) _ _ e in begin_stands a rest j ts y.0 y.1 (h.rest y.0.0 y.0.1 a rest y.2);
      rest = λ next ts a rest e. rest_sound n h next ts a rest e;
    }

-- what is read is a statement behind which `else` may follow where none is left to take
pub statement_sound : (j : Allowed) (ts : List Token) (a : Stmt) (rest : List Token) → statement_first j ts ≡ Some (a, rest) → Stands j ts a rest
unfolding statement_first
statement_sound j ts a rest e = (sound (steps ts)).statement j ts a rest e

statements_sound_in : (n : ℕ) (j : Allowed) (ts : List Token) (body : List Stmt) (rest : List Token) → statements_in n j ts ≡ Some (body, rest) → Statements (grammar j) ts rest body
unfolding statements_in
statements_sound_in zero j ts body rest e = absurd (cc)
statements_sound_in (suc n) j ts body rest e = split (begins ts) (λ us x i. statements_sound_in n j us x.0 x.1 i) e
  where
    split : (d : Bool) → ((us : List Token) (x : List Stmt × List Token) → statements_in n j us ≡ Some x → Statements (grammar j) us x.1 x.0) →
        ◌≡◌ {A = Read (List Stmt)} (if d then (statement_first j ts >>= λ x. (statements_in n j x.1 >>= λ y. Some (x.0 ∷ y.0, y.1))) else Some ([], ts)) (Some (body, rest)) → Statements (grammar j) ts rest body
    split true h e =
        let d = bind_ok (statement_first j ts) _ _ e in
        let y = bind_ok (statements_in n j d.0.1) _ _ d.2 in
        moved (λ z. Statements (grammar j) ts z.1 z.0) y.2
        (g.more_statements (grammar j) ts d.0.1 y.0.1 d.0.0 y.0.0 ((statement_sound j ts d.0.0 d.0.1 d.1).by false (λ e m. absurd (cc))) (h d.0.1 y.0 y.1))
    split false h e = moved (λ z. Statements (grammar j) ts z.1 z.0) e (g.no_statement (grammar j) ts)

-- what is read are statements
pub statements_sound : (j : Allowed) (ts : List Token) (body : List Stmt) (rest : List Token) → statements_first j ts ≡ Some (body, rest) → Statements (grammar j) ts rest body
unfolding statements_first
statements_sound j ts body rest e = statements_sound_in (length ts + 1) j ts body rest e
