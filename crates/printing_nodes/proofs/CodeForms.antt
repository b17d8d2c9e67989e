-- Each form of code with markup is spelled again, where its parts are.
use Rattle.std.proofs.Common.{◌≡◌, ℕ, ◌+◌, Bool, true, false, List, [], ◌∷◌, ◌++◌, map, Some, None, refl, sym, ap, ◌∙◌, subst, append_assoc, append-nil}
use Rattle.std.specs.List.{flat_map}
use Rattle.text_core.specs.declared.place.Place.{Place}
use Rattle.cs_ast.specs.declared.expression.StmtKind.TheVariants as st
use Rattle.cs_grammar.specs.Statements.{Jumps, in_loop, in_switch, stmt}
use Rattle.cs_grammar.specs.Tokens.{ident}
use Rattle.cs_token.specs.declared.token.Sign.TheVariants as s
use Rattle.cs_token.specs.declared.token.TokenKind.TheVariants as t
use Rattle.cs_token.specs.declared.token.Word.TheVariants as w
use Rattle.cs_print.specs.Alike as alike
use Rattle.cs_print.specs.Printed.{whole, printed}
use Rattle.cs_print.proofs.PrintedLaws as code_law
use Rattle.razor_token.specs.declared.piece.Piece.{Piece}
use Rattle.razor_token.specs.declared.piece.PieceKind.TheVariants as k
use Rattle.razor_ast.specs.declared.node.TNode.{TNode}
use Rattle.razor_ast.specs.declared.node.TNode.TheVariants as nd
use Rattle.razor_ast.specs.declared.node.TSection.{TSection}
use Rattle.razor_ast.specs.Brackets.{Round}
use Rattle.razor_ast.specs.Nodes.{tag_node, Inside, Tag, Item, Content, Code, Within, Otherwise, Line, Lines, Sections}
use Rattle.razor_ast.specs.Nodes as gn
use Rattle.razor_ast.specs.Statements.{Simple, break_at, continue_at}
use Rattle.razor_print.specs.Nodes.{Printed, lines, node, section_parts, for_head, foreach_head}
use Rattle.razor_print.specs.Parts.{Parts, tokens, in_block, close_brace}
use Rattle.razor_print.specs.Parts as parts
use Rattle.razor_print.proofs.NodeLaws as law
use Rattle.printed_pieces.specs.Meant.{Mean}
use Rattle.printed_pieces.specs.Written.{IsWritten}
use Rattle.printed_pieces.proofs.NodeParts.{if-parts, while-parts, for-parts, foreach-parts, switch-parts}
use Rattle.printing_again.proofs.MeantLaws.{first-piece, first-token}
use Rattle.printing_nodes.specs.AlikeNodes as al
use Rattle.printing_nodes.specs.Answers.{LinesAgain}
use Rattle.printing_nodes.proofs.CodeLaws.{headed-mean, code-mean, braced}
use Rattle.printing_nodes.proofs.HeadsAgain.{test_again, for_again, foreach_again}
use Rattle.printing_nodes.proofs.LineLaws.{begun}
use Rattle.printing_nodes.proofs.OneAgain.{one_again}
use Rattle.printing_nodes.proofs.Results.{CodeAgain, WithinAgain, OtherwiseAgain, SectionsAgain}
use Rattle.std.specs.declared.option.Option.{Option}
use Rattle.cs_ast.specs.declared.expression.Expr.{Expr}
use Rattle.cs_ast.specs.declared.expression.Stmt.{Stmt}
use Rattle.cs_grammar.specs.Expressions.{SpelledExpression}
use Rattle.cs_grammar.specs.Statements.{Start, Condition, Step}
use Rattle.cs_print.specs.Alike.{named}
use Rattle.razor_token.specs.declared.piece.PieceKind.{PieceKind}
use Rattle.razor_ast.specs.Pieces.{IsSign, IsWord}
use Rattle.razor_ast.specs.Statements.{IsSimple}
use Rattle.printed_pieces.specs.Written.{OneStatement}

module _ (around : Piece → List ℕ) where
  -- bodies, other branches, lines and sections are spelled again, wherever they stand
  abbrev pub ReadsBody : Bool → Jumps → Bool → ℕ → ℕ → TNode → Type 0
  ReadsBody b j f n m a = (later : Parts) (us : List Piece) → Mean ((node a).code ++ later) us → WithinAgain around b j f n m a later us

  abbrev pub ReadsOther : Bool → Jumps → Bool → ℕ → ℕ → TNode → Type 0
  ReadsOther b j f n m a = (later : Parts) (us : List Piece) → Mean ((node a).code ++ later) us → OtherwiseAgain around b j f n m a later us

  abbrev pub ReadsLines : Jumps → ℕ → ℕ → List TNode → Type 0
  ReadsLines j n m items = (later : Parts) (us : List Piece) → Mean (lines (map node items) ++ later) us → LinesAgain around j n m items later us

  abbrev pub ReadsSections : Jumps → ℕ → ℕ → ℕ → List TSection → Type 0
  ReadsSections j room n m all = (later : Parts) (us : List Piece) → Mean (flat_map (λ z. z) (map section_parts all) ++ later) us → SectionsAgain around j room n m all later us

  pub simple-form : (j : Jumps) (f : Bool) (n : ℕ) (kind : Option PieceKind) (a : Stmt) → IsWritten OneStatement a → IsSimple a.kind → (later : Parts) (us : List Piece) → Mean ((node (nd.Statement a)).code ++ later) us → CodeAgain around true j f n n kind (nd.Statement a) later us
  simple-form j f n kind a written is_simple later us mean =
      let x = one_again a later us written is_simple (subst (λ (z : Printed). Mean (z.code ++ later) us) (law.node_statement a) mean) in
      let y = begun x.ts x.c x.rest us x.split in
      record {
        p = y.p;
        behind = y.others;
        split = y.split;
        begins = λ e. absurd (cc);
        rest = x.rest;
        other = λ z. nd.Statement x.other;
        spelled = λ z. gn.simple z j f n (y.p ∷ y.others) x.rest x.other (subst (λ i. Simple i x.rest x.other) (sym y.split) x.spelled);
        alike = λ z. al.a_statement a x.other x.alike;
        mean = x.mean;
      }

  pub break-form : (j : Jumps) (f : Bool) (n : ℕ) (kind : Option PieceKind) (i : Piece) → j.breaks ≡ true → (later : Parts) (us : List Piece) → Mean ((node (break_at i.place)).code ++ later) us → CodeAgain around true j f n n kind (break_at i.place) later us
  break-form j f n kind i may later us mean =
      let kinds = ap (λ (z : Printed). z.code) (law.node_statement (stmt i.place st.Break)) ∙ ap tokens (code_law.statement_law (stmt i.place st.Break) ∙ code_law.stmt_break) in
      let x = first-token (t.Word w.Break) _ us (subst (λ z. Mean (z ++ later) us) kinds mean) in
      let y = first-token (t.Sign s.Semicolon) later x.rest x.mean in
      record {
        p = x.p;
        behind = y.p ∷ y.rest;
        split = ap (λ z. x.p ∷ z) y.split ∙ x.split;
        begins = λ e. absurd (cc);
        rest = y.rest;
        other = λ z. break_at x.p.place;
        spelled = λ z. gn.break_ z j f n x.p y.p y.rest may x.is y.is;
        alike = λ z. al.a_statement _ _ (alike.statement i.place x.p.place st.Break st.Break (alike.same_form st.Break));
        mean = y.mean;
      }

  pub continue-form : (j : Jumps) (f : Bool) (n : ℕ) (kind : Option PieceKind) (i : Piece) → j.continues ≡ true → (later : Parts) (us : List Piece) → Mean ((node (continue_at i.place)).code ++ later) us → CodeAgain around true j f n n kind (continue_at i.place) later us
  continue-form j f n kind i may later us mean =
      let kinds = ap (λ (z : Printed). z.code) (law.node_statement (stmt i.place st.Continue)) ∙ ap tokens (code_law.statement_law (stmt i.place st.Continue) ∙ code_law.stmt_continue) in
      let x = first-token (t.Word w.Continue) _ us (subst (λ z. Mean (z ++ later) us) kinds mean) in
      let y = first-token (t.Sign s.Semicolon) later x.rest x.mean in
      record {
        p = x.p;
        behind = y.p ∷ y.rest;
        split = ap (λ z. x.p ∷ z) y.split ∙ x.split;
        begins = λ e. absurd (cc);
        rest = y.rest;
        other = λ z. continue_at x.p.place;
        spelled = λ z. gn.continue_ z j f n x.p y.p y.rest may x.is y.is;
        alike = λ z. al.a_statement _ _ (alike.statement i.place x.p.place st.Continue st.Continue (alike.same_form st.Continue));
        mean = y.mean;
      }

  pub block-form : (b : Bool) (q : Place) (j : Jumps) (f : Bool) (n m : ℕ) (o : Piece) (items : List TNode) → IsSign s.OpenBrace o → ReadsLines j n m items → (later : Parts) (us : List Piece) → Mean ((node (nd.Block q items)).code ++ later) us → CodeAgain around b j f n m (Some o.kind) (nd.Block q items) later us
  block-form b q j f n m o items is reads later us mean =
      let x = braced (lines (map node items)) later us (code-mean (nd.Block q items) _ _ _ _ later us (law.node_block q items) refl mean) in
      let y = reads (close_brace ∷ later) x.inner x.mean in
      let d = first-piece (k.Code (t.Sign s.CloseBrace)) (125 ∷ []) later y.rest y.mean in
      record {
        p = x.o;
        behind = x.inner;
        split = x.split;
        begins = λ e. ap (λ z. Some z) (x.opens ∙ sym is);
        rest = d.rest;
        other = λ z. nd.Block z y.others;
        spelled = λ z. gn.Code.block b z j f n m x.o d.p x.inner d.rest y.others x.opens (subst (λ i. Lines around j n x.inner i m y.others) (sym d.split) y.spelled) d.is;
        alike = λ z. al.block q z items y.others y.alike;
        mean = d.mean;
      }

  pub if-form : (b : Bool) (q : Place) (j : Jumps) (n m : ℕ) (i : Piece) (a : Expr) (holds : TNode) → IsWord w.If i → IsWritten SpelledExpression a → ReadsBody b j false n m holds → (later : Parts) (vs : List Piece) → Mean ((node (nd.If q a holds None)).code ++ later) vs → CodeAgain around b j false n m (Some i.kind) (nd.If q a holds None) later vs
  if-form b q j n m i a holds is test reads later vs mean =
      let x = headed-mean w.If (whole (printed a)) ((node holds).code ++ []) later vs (code-mean (nd.If q a holds None) _ _ _ _ later vs (law.node_if q a holds None) (if-parts a (node holds) None) mean) in
      let y = test_again a (((node holds).code ++ []) ++ later) x.rest test x.mean in
      let z = reads later y.rest (subst (λ i. Mean (i ++ later) y.rest) (append-nil (node holds).code) y.mean) in
      record {
        p = x.p;
        behind = x.rest;
        split = x.split;
        begins = λ e. ap (λ z. Some z) (x.is ∙ sym is);
        rest = z.rest;
        other = λ i. nd.If i y.other z.other None;
        spelled = λ i. gn.if_alone b i j n m x.p x.rest y.rest z.rest y.ts y.other z.other x.is y.round y.spelled z.spelled;
        alike = λ i. al.if_alone q i a y.other holds z.other y.alike z.alike;
        mean = z.mean;
      }

  pub else-form : (b : Bool) (q : Place) (j : Jumps) (f : Bool) (n i m : ℕ) (w_if : Piece) (a : Expr) (holds fails : TNode) → IsWord w.If w_if → IsWritten SpelledExpression a → ReadsBody b j true n i holds → ReadsOther b j f i m fails → (later : Parts) (xs : List Piece) → Mean ((node (nd.If q a holds (Some fails))).code ++ later) xs → CodeAgain around b j f n m (Some w_if.kind) (nd.If q a holds (Some fails)) later xs
  else-form b q j f n i m w_if a holds fails is test one two later xs mean =
      let behind = (node holds).code ++ parts.token (t.Word w.Else) ∷ (node fails).code in
      let x = headed-mean w.If (whole (printed a)) behind later xs (code-mean (nd.If q a holds (Some fails)) _ _ _ _ later xs (law.node_if q a holds (Some fails)) (if-parts a (node holds) (Some (node fails))) mean) in
      let y = test_again a (behind ++ later) x.rest test x.mean in
      let z = one (parts.token (t.Word w.Else) ∷ ((node fails).code ++ later)) y.rest
      (subst (λ i. Mean i y.rest) (append_assoc (node holds).code (parts.token (t.Word w.Else) ∷ (node fails).code) later) y.mean) in
      let e = first-token (t.Word w.Else) ((node fails).code ++ later) z.rest z.mean in
      let u = two later e.rest e.mean in
      record {
        p = x.p;
        behind = x.rest;
        split = x.split;
        begins = λ e. ap (λ z. Some z) (x.is ∙ sym is);
        rest = u.rest;
        other = λ c. nd.If c y.other z.other (Some u.other);
        spelled = λ c. gn.if_else b c j f n i m x.p e.p x.rest y.rest e.rest u.rest y.ts y.other z.other u.other x.is y.round y.spelled
            (subst (λ v. Within around b j true n y.rest v i z.other) (sym e.split) z.spelled) e.is u.spelled;
        alike = λ c. al.if_else q c a y.other holds z.other fails u.other y.alike z.alike u.alike;
        mean = u.mean;
      }

  pub while-form : (b : Bool) (q : Place) (j : Jumps) (f : Bool) (n m : ℕ) (i : Piece) (a : Expr) (body : TNode) → IsWord w.While i → IsWritten SpelledExpression a → ReadsBody b in_loop f (n + 1) m body → (later : Parts) (vs : List Piece) → Mean ((node (nd.While n q a body)).code ++ later) vs → CodeAgain around b j f n m (Some i.kind) (nd.While n q a body) later vs
  while-form b q j f n m i a body is test reads later vs mean =
      let x = headed-mean w.While (whole (printed a)) (node body).code later vs (code-mean (nd.While n q a body) _ _ _ _ later vs (law.node_while n q a body) (while-parts a (node body)) mean) in
      let y = test_again a ((node body).code ++ later) x.rest test x.mean in
      let z = reads later y.rest y.mean in
      record {
        p = x.p;
        behind = x.rest;
        split = x.split;
        begins = λ e. ap (λ z. Some z) (x.is ∙ sym is);
        rest = z.rest;
        other = λ i. nd.While n i y.other z.other;
        spelled = λ i. gn.while_ b i j f n m x.p x.rest y.rest z.rest y.ts y.other z.other x.is y.round y.spelled z.spelled;
        alike = λ i. al.while_ n q i a y.other body z.other y.alike z.alike;
        mean = z.mean;
      }

  pub for-form : (b : Bool) (q : Place) (j : Jumps) (f : Bool) (n m : ℕ) (i : Piece) (start : Option Stmt) (test next : Option Expr) (body : TNode) → IsWord w.For i → IsWritten (λ ts x. Start ts [] x) start → IsWritten (λ ts x. Condition ts [] x) test → IsWritten (λ ts x. Step ts [] x) next → ReadsBody b in_loop f (n + 1) m body → (later : Parts) (vs : List Piece) → Mean ((node (nd.For n q start test next body)).code ++ later) vs → CodeAgain around b j f n m (Some i.kind) (nd.For n q start test next body) later vs
  for-form b q j f n m i start test next body is one two three reads later vs mean =
      let x = headed-mean w.For (for_head start test next) (node body).code later vs (code-mean (nd.For n q start test next body) _ _ _ _ later vs (law.node_for n q start test next body) (for-parts start test next (node body)) mean) in
      let y = for_again start test next ((node body).code ++ later) x.rest one two three x.mean in
      let z = reads later y.rest y.mean in
      record {
        p = x.p;
        behind = x.rest;
        split = x.split;
        begins = λ e. ap (λ z. Some z) (x.is ∙ sym is);
        rest = z.rest;
        other = λ i. nd.For n i y.start_other y.test_other y.next_other z.other;
        spelled = λ i. gn.for_ b i j f n m x.p x.rest y.rest z.rest y.ts y.start_other y.test_other y.next_other z.other x.is y.round y.spelled z.spelled;
        alike = λ i. al.for_ n q i start y.start_other test y.test_other next y.next_other body z.other y.start_alike y.test_alike y.next_alike z.alike;
        mean = z.mean;
      }

  pub foreach-form : (b : Bool) (q : Place) (j : Jumps) (f : Bool) (n m : ℕ) (name : List ℕ) (i : Piece) (place : Place) (a : Expr) (body : TNode) → IsWord w.Foreach i → IsWritten SpelledExpression a → ReadsBody b in_loop f (n + 1) m body → (later : Parts) (vs : List Piece) → Mean ((node (nd.ForEach n q (named place name) a body)).code ++ later) vs → CodeAgain around b j f n m (Some i.kind) (nd.ForEach n q (named place name) a body) later vs
  foreach-form b q j f n m name i place a body is test reads later vs mean =
      let x = headed-mean w.Foreach (foreach_head name a) (node body).code later vs (code-mean (nd.ForEach n q (named place name) a body) _ _ _ _ later vs (law.node_foreach n q (named place name) a body) (foreach-parts name a (node body)) mean) in
      let y = foreach_again name a ((node body).code ++ later) x.rest test x.mean in
      let z = reads later y.rest y.mean in
      record {
        p = x.p;
        behind = x.rest;
        split = x.split;
        begins = λ e. ap (λ z. Some z) (x.is ∙ sym is);
        rest = z.rest;
        other = λ i. nd.ForEach n i (ident y.name name) y.other z.other;
        spelled = λ i. gn.foreach_ b i j f n m name x.p y.name x.rest y.rest z.rest y.ts y.other z.other x.is y.round y.spelled z.spelled;
        alike = λ i. al.foreach_ n q i place y.name.place name a y.other body z.other y.alike z.alike;
        mean = z.mean;
      }

  pub switch-form : (b : Bool) (q : Place) (j : Jumps) (f : Bool) (n m : ℕ) (i : Piece) (a : Expr) (sections : List TSection) → IsWord w.Switch i → IsWritten SpelledExpression a → ReadsSections (in_switch j) 1 n m sections → (later : Parts) (vs : List Piece) → Mean ((node (nd.Switch q a sections)).code ++ later) vs → CodeAgain around b j f n m (Some i.kind) (nd.Switch q a sections) later vs
  switch-form b q j f n m i a sections is test reads later vs mean =
      let x = headed-mean w.Switch (whole (printed a)) (in_block (flat_map (λ z. z) (map section_parts sections))) later vs (code-mean (nd.Switch q a sections) _ _ _ _ later vs (law.node_switch q a sections) (switch-parts a (map section_parts sections)) mean) in
      let y = test_again a (in_block (flat_map (λ z. z) (map section_parts sections)) ++ later) x.rest test x.mean in
      let e = braced (flat_map (λ z. z) (map section_parts sections)) later y.rest y.mean in
      let z = reads (close_brace ∷ later) e.inner e.mean in
      let d = first-piece (k.Code (t.Sign s.CloseBrace)) (125 ∷ []) later z.rest z.mean in
      record {
        p = x.p;
        behind = x.rest;
        split = x.split;
        begins = λ e. ap (λ z. Some z) (x.is ∙ sym is);
        rest = d.rest;
        other = λ i. nd.Switch i y.other z.others;
        spelled = λ i. gn.switch_ b i j f n m x.p e.o d.p x.rest e.inner d.rest y.ts y.other z.others x.is (subst (λ v. Round x.rest y.ts v) (sym e.split) y.round) y.spelled e.opens
            (subst (λ v. Sections around (in_switch j) 1 n e.inner v m z.others) (sym d.split) z.spelled) d.is;
        alike = λ i. al.switch_ q i a y.other sections z.others y.alike z.alike;
        mean = d.mean;
      }
