-- What begins as a statement leads to one.
use Rattle.std.proofs.Common.{◌≡◌, ◌⊎◌, ℕ, ◌+◌, List, [], ◌∷◌, ◌++◌, refl, sym, ap, ◌∙◌, subst, inl, inr}
use Rattle.std.specs.Prelude.{Bool, true, false, not, ◌&&◌, if◌then◌else◌, Option, Some, None}
use Rattle.text_core.specs.declared.place.Place.{Place}
use Rattle.cs_ast.specs.declared.expression.Expr.{Expr}
use Rattle.cs_ast.specs.declared.expression.Stmt.{Stmt}
use Rattle.cs_ast.specs.declared.expression.StmtKind.{StmtKind}
use Rattle.cs_ast.specs.declared.expression.StmtKind.TheVariants as st
use Rattle.cs_ast.specs.declared.identifier.Ident.{Ident}
use Rattle.cs_token.specs.declared.token.Token.{Token}
use Rattle.cs_token.specs.declared.token.TokenKind.TheVariants as t
use Rattle.cs_token.specs.declared.token.Sign.TheVariants as s
use Rattle.cs_token.specs.declared.token.Word.TheVariants as w
use Rattle.cs_grammar.specs.Expressions.{SpelledExpression}
use Rattle.cs_grammar.specs.Statements.{stmt}
use Rattle.razor_token.specs.declared.piece.Piece.{Piece}
use Rattle.razor_token.specs.declared.piece.PieceKind.TheVariants as k
use Rattle.razor_ast.specs.declared.node.TNode.{TNode}
use Rattle.razor_ast.specs.declared.node.TNode.TheVariants as nd
use Rattle.razor_ast.specs.Brackets.{Round}
use Rattle.razor_ast.specs.Nesting.{open_at}
use Rattle.razor_ast.specs.Nodes.{Code}
use Rattle.razor_ast.specs.Nodes as g
use Rattle.razor_ast.specs.Pieces.{IsSign, IsWord}
use Rattle.razor_reader.specs.declared.frame.Jumps.{Jumps}
use Rattle.razor_reader.specs.declared.frame.Frame.TheVariants as fr
use Rattle.razor_reader.specs.declared.frame.Next.{Next}
use Rattle.razor_reader.specs.declared.frame.Next.TheVariants as nx
use Rattle.razor_reader.specs.declared.mark.Mark.{Mark}
use Rattle.razor_reader.specs.declared.mark.Mark.TheVariants as mark
use Rattle.razor_reader.specs.Marks.{mark_of}
use Rattle.razor_reader.specs.Reading.{Numbered, ◌>>=◌, has, after}
use Rattle.razor_reader.specs.TokenReading.{round, code_to}
use Rattle.razor_reader.specs.CodeReading.{plain, simple}
use Rattle.razor_reader.specs.HeadReading.{for_head, for_each_head}
use Rattle.razor_reader.specs.StatementReading as r
use Rattle.razor_reader.proofs.ReadLemmas.{bind_ok, moved, where_false, where_not, both_true, not_true}
use Rattle.razor_reader.proofs.MarkKinds.{of_open_brace, of_semicolon, of_if, of_while, of_for, of_foreach, of_switch, of_break, of_continue}
use Rattle.razor_reader.proofs.MarkLemmas.{taken, piece_of_mark, else_marked}
use Rattle.razor_reader.proofs.TokenSound.{round_sound}
use Rattle.razor_reader.proofs.CodeSound.{plain_sound}
use Rattle.razor_reader.proofs.ForSound.{for_sound}
use Rattle.razor_reader.proofs.HeadSound.{each_sound}
use Rattle.razor_reader.proofs.SimpleSound.{simple_sound}
use Rattle.razor_reader.proofs.StageTypes.{given, Free, MadeCode, Stage}

-- an expression in round brackets
record Condition (ps rest : List Piece) (a : Expr) : Type 0 where
  ts : List Token
  whole : Round ps ts rest
  spelled : SpelledExpression ts a

condition_sound : (ps rest : List Piece) (a : Expr) → r.condition_first ps ≡ Some (a, rest) → Condition ps rest a
condition_sound ps rest a e =
    let x = bind_ok (round ps) _ _ e in
    let y = bind_ok (plain x.0.0) _ _ x.2 in
    moved {A = Expr × List Piece} (λ z. Condition ps z.1 z.0) y.2
    (record { ts = x.0.0; whole = round_sound ps x.0.0 x.0.1 x.1; spelled = plain_sound x.0.0 y.0 y.1 })

-- what follows, with the next number and the pieces
abbrev To : Type 0
To = Next × ℕ × List Piece

module _ (all : List Piece) (braced : Bool) (p : Place) (j : Jumps) (n : ℕ) (u : Piece) (us : List Piece) where
  abbrev Goal : List Piece → ℕ → TNode → Type 0
  Goal = MadeCode all braced p j n (u ∷ us)

  abbrev Leads : To → Type 0
  Leads z = Stage all Goal z.0 z.1 z.2

  no_else : (f : Bool) (rest : List Piece) → Free f rest → has mark.Else rest ≡ false → f ≡ false
  no_else f rest (inl e) i = e
  no_else f rest (inr e) i = let z : true ≡ false = sym e ∙ i in absurd (cc)

  else_there : (rest : List Piece) (d : Piece) (vs : List Piece) → rest ≡ d ∷ vs → IsWord w.Else d → has mark.Else rest ≡ true
  else_there rest d vs same word = ap (has mark.Else) same ∙ else_marked d word

  if_sound : (x : To) → IsWord w.If u → r.begun_if braced p j n us ≡ Some x → Leads x
  if_sound x i e =
      let y = bind_ok (r.condition_first us) _ _ e in
      let c = condition_sound us y.0.1 y.0.0 y.1 in
      moved {A = To} Leads y.2 (λ rest k a made. (
        (λ none f free. subst (λ (d : Bool). Code (open_at all) (not braced) p (given j) d n (u ∷ us) rest k (nd.If p y.0.0 a None)) (sym (no_else f rest free none))
            (g.if_alone (not braced) p (given j) n k u us y.0.1 rest c.ts y.0.0 a i c.whole c.spelled (made false (inl refl)))),
        (λ d vs ws l b same word otherwise f free.
            g.if_else (not braced) p (given j) f n k l u d us y.0.1 vs ws c.ts y.0.0 a b i c.whole c.spelled
            (subst (λ (q : List Piece). g.Within (open_at all) (not braced) (given j) true n y.0.1 q k a) same (made true (inr (else_there rest d vs same word))))
            word (otherwise f free)),
      ))

  while_sound : (x : To) → IsWord w.While u → r.begun_while braced p n us ≡ Some x → Leads x
  while_sound x i e =
      let y = bind_ok (r.condition_first us) _ _ e in
      let c = condition_sound us y.0.1 y.0.0 y.1 in
      moved {A = To} Leads y.2 (λ rest k a made f free.
      g.while_ (not braced) p (given j) f n k u us y.0.1 rest c.ts y.0.0 a i c.whole c.spelled (made f free))

  for_stage : (x : To) → IsWord w.For u → r.begun_for braced p n us ≡ Some x → Leads x
  for_stage x i e =
      let y = bind_ok (round us) _ _ e in
      let h = bind_ok (for_head y.0.0) _ _ y.2 in
      moved {A = To} Leads h.2 (λ rest k a made f free.
      g.for_ (not braced) p (given j) f n k u us y.0.1 rest y.0.0 h.0.0 h.0.1 h.0.2 a i (round_sound us y.0.0 y.0.1 y.1) (for_sound y.0.0 h.0.0 h.0.1 h.0.2 h.1) (made f free))

  each_stage : (x : To) → IsWord w.Foreach u → r.begun_for_each braced p n us ≡ Some x → Leads x
  each_stage x i e =
      let y = bind_ok (round us) _ _ e in
      let h = bind_ok (for_each_head y.0.0) _ _ y.2 in
      let q = each_sound y.0.0 h.0.0 h.0.1 h.1 in
      moved {A = To} Leads h.2 (λ rest k a made f free.
      subst (λ (name : Ident). Code (open_at all) (not braced) p (given j) f n (u ∷ us) rest k (nd.ForEach n p name h.0.1 a)) (sym q.same)
      (g.foreach_ (not braced) p (given j) f n k q.x u q.n us y.0.1 rest y.0.0 h.0.1 a i (round_sound us y.0.0 y.0.1 y.1) q.head (made f free)))

  switch_stage : (x : To) → IsWord w.Switch u → r.begun_switch p j n us ≡ Some x → Leads x
  switch_stage x i e =
      let y = bind_ok (r.condition_first us) _ _ e in
      let z = bind_ok (after mark.OpenBrace y.0.1) _ _ y.2 in
      let c = condition_sound us y.0.1 y.0.0 y.1 in
      let o = taken mark.OpenBrace (k.Code (t.Sign s.OpenBrace)) y.0.1 z.0 of_open_brace z.1 in
      moved {A = To} Leads z.2 (λ d rest l more sections close f free.
      g.switch_ (not braced) p (given j) f n l u o.p d us z.0 rest c.ts y.0.0 more i (subst (λ (q : List Piece). Round us c.ts q) o.whole c.whole) c.spelled o.is sections close)

  block_stage : (x : To) → IsSign s.OpenBrace u → ◌≡◌ {A = Option To} (Some (r.begun_block p j, n, us)) (Some x) → Leads x
  block_stage x i e = moved {A = To} Leads e (λ c rest l more lines close f free. g.block (not braced) p (given j) f n l u c us rest more i lines close)

  jumped : (kind : StmtKind) (allowed : Bool) (x : To) → r.jump (not braced && allowed) u.place kind n us ≡ Some x →
      ((c : Piece) (rest : List Piece) → allowed ≡ true → IsSign s.Semicolon c → us ≡ c ∷ rest → (f : Bool) → Code (open_at all) true p (given j) f n (u ∷ us) rest n (nd.Statement (stmt u.place kind))) → Leads x
  jumped kind allowed x e h =
      let y = where_not (not braced && allowed) _ x e in
      let b = both_true (not braced) allowed y.0 in
      let z = bind_ok (after mark.Semicolon us) _ _ y.1 in
      let c = taken mark.Semicolon (k.Code (t.Sign s.Semicolon)) us z.0 of_semicolon z.1 in
      moved {A = To} Leads z.2 (λ f free.
      subst (λ (d : Bool). Code (open_at all) d p (given j) f n (u ∷ us) z.0 n (nd.Statement (stmt u.place kind))) (sym b.0) (h c.p z.0 b.1 c.is c.whole f))

  break_stage : (x : To) → IsWord w.Break u → r.jump (not braced && j.breaks) u.place st.Break n us ≡ Some x → Leads x
  break_stage x i e = jumped st.Break j.breaks x e (λ c rest b semi same f.
      subst (λ (l : List Piece). Code (open_at all) true p (given j) f n (u ∷ l) rest n (nd.Statement (stmt u.place st.Break))) (sym same)
      (g.break_ p (given j) f n u c rest b i semi))

  continue_stage : (x : To) → IsWord w.Continue u → r.jump (not braced && j.continues) u.place st.Continue n us ≡ Some x → Leads x
  continue_stage x i e = jumped st.Continue j.continues x e (λ c rest b semi same f.
      subst (λ (l : List Piece). Code (open_at all) true p (given j) f n (u ∷ l) rest n (nd.Statement (stmt u.place st.Continue))) (sym same)
      (g.continue_ p (given j) f n u c rest b i semi))

  simple_stage : (x : To) → r.simple_statement braced n (u ∷ us) ≡ Some x → Leads x
  simple_stage x e =
      let b = where_false braced _ x e in
      let y = bind_ok (code_to mark.Semicolon (u ∷ us)) _ _ b.1 in
      let z = bind_ok (simple y.0.0) _ _ y.2 in
      moved {A = To} Leads z.2 (λ f free.
      subst (λ (d : Bool). Code (open_at all) d p (given j) f n (u ∷ us) y.0.1 n (nd.Statement z.0)) (sym (ap not b.0))
      (g.simple p (given j) f n (u ∷ us) y.0.1 z.0 (simple_sound (u ∷ us) y.0.0 y.0.1 z.0 y.1 z.1)))

  by_mark : (found : Mark) (x : To) → mark_of u.kind ≡ found → r.statement_by found braced p j n u us ≡ Some x → Leads x
  by_mark mark.OpenBrace x i e = block_stage x (piece_of_mark mark.OpenBrace _ u.kind of_open_brace i) e
  by_mark mark.If x i e = if_sound x (piece_of_mark mark.If _ u.kind of_if i) e
  by_mark mark.While x i e = while_sound x (piece_of_mark mark.While _ u.kind of_while i) e
  by_mark mark.For x i e = for_stage x (piece_of_mark mark.For _ u.kind of_for i) e
  by_mark mark.Foreach x i e = each_stage x (piece_of_mark mark.Foreach _ u.kind of_foreach i) e
  by_mark mark.Switch x i e = switch_stage x (piece_of_mark mark.Switch _ u.kind of_switch i) e
  by_mark mark.Break x i e = break_stage x (piece_of_mark mark.Break _ u.kind of_break i) e
  by_mark mark.Continue x i e = continue_stage x (piece_of_mark mark.Continue _ u.kind of_continue i) e
  by_mark _ x i e = simple_stage x e

pub statement_sound : (all : List Piece) (braced : Bool) (p : Place) (j : Jumps) (n : ℕ) (ps : List Piece) (x : Next × ℕ × List Piece) →
    r.statement braced p j n ps ≡ Some x → Stage all (MadeCode all braced p j n ps) x.0 x.1 x.2
statement_sound all braced p j n [] x e = absurd (cc)
statement_sound all braced p j n (u ∷ us) x e = by_mark all braced p j n u us (mark_of u.kind) x refl e
