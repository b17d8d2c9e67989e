-- Statements without statements in them are spelled again.
use Rattle.std.proofs.Common.{◌≡◌, Bool, true, false, List, [], ◌∷◌, ◌++◌, refl, sym, ap, ◌∙◌, subst, option_map}
use Rattle.std.specs.declared.option.Option.{Option}
use Rattle.std.specs.Prelude.{codes}
use Rattle.text_core.specs.declared.place.Place.{Place}
use Rattle.cs_ast.specs.declared.expression.Expr.{Expr}
use Rattle.cs_ast.specs.declared.expression.ExprKind.TheVariants as ek
use Rattle.cs_ast.specs.declared.expression.Stmt.{Stmt}
use Rattle.cs_ast.specs.declared.expression.StmtKind.{StmtKind, StmtKind-F, out-StmtKind}
use Rattle.cs_ast.specs.declared.expression.StmtKind.TheVariants as st
use Rattle.cs_token.specs.declared.token.Token.{Token}
use Rattle.cs_token.specs.declared.token.TokenKind.TheVariants as k
use Rattle.cs_token.specs.declared.token.Sign.TheVariants as s
use Rattle.cs_token.specs.declared.token.Word.TheVariants as w
use Rattle.cs_grammar.specs.Expressions.{Spells, node}
use Rattle.cs_grammar.specs.Statements.{Statement, no_jumps, stmt}
use Rattle.cs_grammar.specs.Statements as g
use Rattle.cs_grammar.specs.Tokens.{IsSign, ident}
use Rattle.cs_print.specs.Alike.{Alike, AlikeStatements}
use Rattle.cs_print.specs.Alike as al
use Rattle.cs_print.specs.Printed.{Kinds, Printed, ended, optional, whole, printed, statement_kinds}
use Rattle.cs_print.specs.Printed as p
use Rattle.cs_print.proofs.PrintedLaws as law
use Rattle.cs_print.proofs.LayLemmas.{Are}
use Rattle.cs_print.proofs.LayLemmas as l
use Rattle.cs_print.proofs.ReadLemmas as rd
use Rattle.cs_print.proofs.ReadLemmas.{first, later}
use Rattle.cs_print.proofs.ExpressionForms.{all}
use Rattle.cs_print.proofs.ExpressionsAgain.{expression}
use Rattle.cs_print.proofs.LookLemmas.{invoke_alike}
use Rattle.cs_print.proofs.SimpleAgain as sa
use Rattle.razor_token.specs.declared.piece.Piece.{Piece}
use Rattle.razor_ast.specs.Pieces.{codes_of}
use Rattle.razor_ast.specs.Statements.{IsSimple, Simple}
use Rattle.razor_ast.specs.Statements as gs
use Rattle.razor_print.specs.Parts.{Parts, tokens}
use Rattle.printed_pieces.specs.Meant.{Mean}
use Rattle.printed_pieces.specs.Written.{IsWritten, OneStatement}
use Rattle.printed_pieces.specs.Written as wr
use Rattle.printed_pieces.proofs.WrittenCode.{proper}
use Rattle.printing_nodes.proofs.LineLaws.{ends}
use Rattle.printing_nodes.proofs.SemicolonLaws.{Free, simple-free, condition-free, expression-free, word-free, free-front}

-- tokens, of which the last is this semicolon, spell a statement like this one
record Reads (a : Stmt) (c : Token) (ts : List Token) : Type 0 where
  other : Stmt
  spelled : Statement no_jumps true ts [] other
  simple : IsSimple other.kind
  alike : AlikeStatements a other
  free : Free ts (c ∷ [])

-- a statement that is printed so that it is read again
record Form (a : Stmt) : Type 0 where
  ks : Kinds
  is : statement_kinds a ≡ ended ks
  reads : (c : Token) (ts : List Token) → IsSign s.Semicolon c → Are ks ts (c ∷ []) → Reads a c ts

simple-kind : (q : Place) (ts rest : List Token) (kind : StmtKind) → g.Simple q ts rest kind → IsSimple kind
simple-kind _ _ _ _ (g.local x q n ts us rest a value declares is starts) = gs.local a (ident n x) value
simple-kind _ _ _ _ (g.act q ts rest a h) = gs.act a

simple-form : (q : Place) (c : Token) (ts : List Token) (kind : StmtKind) → g.Simple q ts (c ∷ []) kind → rd.AreProper ts → Form (stmt q kind)
simple-form q c ts kind h known =
    let x = sa.simple q ts (c ∷ []) kind h known in
    record {
      ks = x.ks;
      is = law.statement_law (stmt q kind) ∙ x.is;
      reads = λ d us ends_it are.
          let y = x.again.reads us (d ∷ []) are in
          record {
            other = stmt y.place y.other;
            spelled = g.simple no_jumps true y.place d us [] y.other y.spelled ends_it;
            simple = simple-kind y.place us (d ∷ []) y.other y.spelled;
            alike = al.statement q y.place kind y.other y.alike;
            free = simple-free y.place us (d ∷ []) y.other y.spelled;
          };
    }

empty-read : (q : Place) (c : Token) (ts : List Token) → IsSign s.Semicolon c → Are [] ts (c ∷ []) → Reads (stmt q st.Empty) c ts
empty-read q c _ is (l.nil _) = record {
  other = stmt c.place st.Empty;
  spelled = g.empty no_jumps true c [] is;
  simple = gs.empty;
  alike = al.statement q c.place st.Empty st.Empty (al.same_form st.Empty);
  free = refl;
}

empty-form : (q : Place) → Form (stmt q st.Empty)
empty-form q = record { ks = []; is = law.statement_law (stmt q st.Empty) ∙ law.stmt_empty; reads = λ c ts is are. empty-read q c ts is are }

await-kinds : (a : Printed) → p.await_of a ≡ k.Word w.Await ∷ ended (whole a)
unfolding p.await_of
await-kinds a = refl

await-form : (q i r : Place) (n c : Token) (owner : Expr) (bs : List Expr) (ts : List Token) (place : Place) → Spells 0 place ts (c ∷ []) (node i (ek.Call (node r (ek.Member owner (ident n (codes "InvokeAsync")))) bs)) → rd.AreProper ts
    → Form (stmt q (st.Await (node i (ek.Call (node r (ek.Member owner (ident n (codes "InvokeAsync")))) bs))))
await-form q i r n c owner bs ts place h known =
    let a : Expr = node i (ek.Call (node r (ek.Member owner (ident n (codes "InvokeAsync")))) bs) in
    let value = all a (expression 0 place ts (c ∷ []) a h known).again in
    record {
      ks = k.Word w.Await ∷ whole (printed a);
      is = law.statement_law (stmt q (st.Await a)) ∙ law.stmt_await a ∙ await-kinds (printed a);
      reads = λ d us ends_it are. first (k.Word w.Await) (whole (printed a)) us (d ∷ []) (λ xs. Reads (stmt q (st.Await a)) d xs) are (λ t vs is more.
          let x = value.reads vs (d ∷ []) more in
          let y = invoke_alike a x.tree i r owner n bs refl x.alike in
          record {
            other = stmt t.place (st.Await (node x.tree.place (ek.Call (node y.r (ek.Member y.owner (ident y.n (codes "InvokeAsync")))) y.bs)));
            spelled = g.await_ no_jumps true x.place x.tree.place y.r t y.n d vs [] y.owner y.bs is (subst (λ b. Spells 0 x.place vs (d ∷ []) b) y.whole x.spelled) ends_it;
            simple = gs.await_ _;
            alike = al.statement q t.place _ _ (al.await_ a _ (subst (λ b. Alike a b) y.whole x.alike));
            free = word-free (k.Word w.Await) t vs (d ∷ []) is refl (expression-free 0 x.place vs (d ∷ []) x.tree x.spelled);
          });
    }

return-kinds : (a : Option Printed) → p.return_of a ≡ k.Word w.Return ∷ ended (optional a)
unfolding p.return_of
return-kinds a = refl

return-form : (q : Place) (c : Token) (ts : List Token) (value : Option Expr) → g.Condition ts (c ∷ []) value → rd.AreProper ts → Form (stmt q (st.Return value))
return-form q c ts value h known =
    let found = sa.condition ts (c ∷ []) value h known in
    record {
      ks = k.Word w.Return ∷ optional (option_map printed value);
      is = law.statement_law (stmt q (st.Return value)) ∙ law.stmt_return value ∙ return-kinds (option_map printed value);
      reads = λ d us ends_it are. first (k.Word w.Return) (optional (option_map printed value)) us (d ∷ []) (λ xs. Reads (stmt q (st.Return value)) d xs) are (λ t vs is more.
          let x = found.again.reads vs (d ∷ []) more in
          record {
            other = stmt t.place (st.Return x.other);
            spelled = g.return_ no_jumps true t d vs [] x.other is x.spelled ends_it;
            simple = gs.return_ x.other;
            alike = al.statement q t.place _ _ (al.return_ value x.other x.alike);
            free = word-free (k.Word w.Return) t vs (d ∷ []) is refl (condition-free vs (d ∷ []) x.other x.spelled);
          });
    }

-- no jump is simple
abbrev jumps : StmtKind → Bool
jumps kind = elim (out-StmtKind kind) [ StmtKind-F.Break ↦ true | StmtKind-F.Continue ↦ true | _ ↦ false ]

simple-stays : (kind : StmtKind) → IsSimple kind → jumps kind ≡ false
simple-stays _ (gs.local a name value) = ap (λ x. elim x [ StmtKind-F.Break ↦ true | StmtKind-F.Continue ↦ true | _ ↦ false ]) (st.outs-Local a name value)
simple-stays _ gs.empty = ap (λ x. elim x [ StmtKind-F.Break ↦ true | StmtKind-F.Continue ↦ true | _ ↦ false ]) st.outs-Empty
simple-stays _ (gs.act a) = ap (λ x. elim x [ StmtKind-F.Break ↦ true | StmtKind-F.Continue ↦ true | _ ↦ false ]) (st.outs-Expr a)
simple-stays _ (gs.await_ a) = ap (λ x. elim x [ StmtKind-F.Break ↦ true | StmtKind-F.Continue ↦ true | _ ↦ false ]) (st.outs-Await a)
simple-stays _ (gs.return_ value) = ap (λ x. elim x [ StmtKind-F.Break ↦ true | StmtKind-F.Continue ↦ true | _ ↦ false ]) (st.outs-Return value)

break-jumps : jumps st.Break ≡ true
break-jumps = ap (λ x. elim x [ StmtKind-F.Break ↦ true | StmtKind-F.Continue ↦ true | _ ↦ false ]) st.outs-Break

continue-jumps : jumps st.Continue ≡ true
continue-jumps = ap (λ x. elim x [ StmtKind-F.Break ↦ true | StmtKind-F.Continue ↦ true | _ ↦ false ]) st.outs-Continue

form-of : (ts : List Token) (a : Stmt) → OneStatement ts a → rd.AreProper ts → IsSimple a.kind → Form a
form-of _ _ (wr.simple q c ts kind h is) known is_simple = simple-form q c ts kind h known
form-of _ _ (wr.empty c is) known is_simple = empty-form c.place
form-of _ _ (wr.await_ place i r t n c ts owner bs is h ends_it) known is_simple = await-form t.place i r n c owner bs ts place h (later t ts known)
form-of _ _ (wr.break_ t c is ends_it) known is_simple = let e : false ≡ true = sym (simple-stays st.Break is_simple) ∙ break-jumps in absurd (cc)
form-of _ _ (wr.continue_ t c is ends_it) known is_simple = let e : false ≡ true = sym (simple-stays st.Continue is_simple) ∙ continue-jumps in absurd (cc)
form-of _ _ (wr.return_ t c ts value is h ends_it) known is_simple = return-form t.place c ts value h (later t ts known)

-- such a statement, and what is behind it
pub record OneAgain (a : Stmt) (later : Parts) (us : List Piece) : Type 0 where
  pub ts : List Token
  pub c : Token
  pub rest : List Piece
  pub other : Stmt
  pub split : codes_of (ts ++ c ∷ []) ++ rest ≡ us
  pub spelled : Simple us rest other
  pub alike : AlikeStatements a other
  pub mean : Mean later rest

pub one_again : (a : Stmt) (later : Parts) (us : List Piece) → IsWritten OneStatement a → IsSimple a.kind → Mean (tokens (statement_kinds a) ++ later) us → OneAgain a later us
one_again a later us h is_simple mean =
    let form = form-of h.tokens a h.tree (proper h.tokens h.proper) is_simple in
    let e = ends form.ks later us (subst (λ z. Mean (tokens z ++ later) us) form.is mean) in
    let x = form.reads e.c (e.ts ++ e.c ∷ []) e.is e.are in
    record {
      ts = e.ts;
      c = e.c;
      rest = e.rest;
      other = x.other;
      split = e.split;
      spelled = subst (λ z. Simple z e.rest x.other) e.split (gs.simple e.ts e.c e.rest x.other (free-front e.ts e.c x.free) e.is x.spelled x.simple);
      alike = x.alike;
      mean = e.mean;
    }
