-- Each form of statement that is printed is spelled again, where its parts are.
use Rattle.std.proofs.Common.{◌≡◌, ℕ, List, [], ◌∷◌, ◌++◌, map, true, false, refl, sym, ap, ◌∙◌, subst, append_assoc}
use Rattle.std.specs.Prelude.{Bool, Option, Some, None, option_map, codes}
use Rattle.std.proofs.lemmas.List.{append-nil}
use Rattle.text_core.specs.declared.place.Place.{Place}
use Rattle.cs_ast.specs.declared.expression.Expr.{Expr}
use Rattle.cs_ast.specs.declared.expression.ExprKind.TheVariants as ek
use Rattle.cs_ast.specs.declared.expression.Section.{Section}
use Rattle.cs_ast.specs.declared.expression.Stmt.{Stmt}
use Rattle.cs_ast.specs.declared.expression.StmtKind.{StmtKind}
use Rattle.cs_ast.specs.declared.expression.StmtKind.TheVariants as st
use Rattle.cs_token.specs.declared.token.Token.{Token}
use Rattle.cs_token.specs.declared.token.TokenKind.TheVariants as k
use Rattle.cs_token.specs.declared.token.Sign.TheVariants as s
use Rattle.cs_token.specs.declared.token.Word.{Word}
use Rattle.cs_token.specs.declared.token.Word.TheVariants as w
use Rattle.cs_grammar.specs.Expressions.{node, Spells}
use Rattle.cs_grammar.specs.Statements.{stmt, section, Jumps, in_loop, in_switch, Statement, Statements, Sections, Simple, Leaves, defaults}
use Rattle.cs_grammar.specs.Statements as g
use Rattle.cs_grammar.specs.Tokens.{IsSign, IsWord, IsName, ident}
use Rattle.cs_print.specs.Alike.{Alike, AlikeForms, AlikeStatements, AlikeAllStatements, AlikeAllSections}
use Rattle.cs_print.specs.Alike as al
use Rattle.cs_print.specs.Printed.{Kinds, Printed, whole, in_round, in_braces, optional, ended, started, otherwise, joined, printed, statement_kinds, statement_kind_kinds, section_kinds}
use Rattle.cs_print.specs.Printed as p
use Rattle.cs_print.proofs.PrintedLaws as law
use Rattle.cs_print.proofs.CodeKinds.{IsCode, IsLexeme}
use Rattle.cs_print.proofs.CodeKinds as c
use Rattle.cs_print.proofs.LayLemmas.{Are}
use Rattle.cs_print.proofs.ReadLemmas as rd
use Rattle.cs_print.proofs.ReadLemmas.{Prints, prints_as, first, single, parted, middle, signed, worded, named, up_to}
use Rattle.cs_print.proofs.ExpressionForms.{Reads, ExprAgain, all, bracketed_code}
use Rattle.cs_print.proofs.SimpleAgain.{ReadsSimple, ReadsStart, ReadsCondition, ReadsStep, nothing_read}
use Rattle.cs_print.proofs.LookLemmas.{invoke_alike}

-- a statement like this one is spelled, where jumps may stand so, and what may follow is so
pub record ReadsStatement (j : Jumps) (f : Bool) (a : Stmt) (ts rest : List Token) : Type 0 where
  pub tree : Stmt
  pub spelled : Statement j f ts rest tree
  pub alike : AlikeStatements a tree

abbrev pub StatementAgain : Jumps → Bool → Stmt → Type 0
StatementAgain j f a = Prints (ReadsStatement j f a) (statement_kinds a)

-- by its form
made : (j : Jumps) (f : Bool) (q : Place) (kind : StmtKind) (ks : Kinds) → statement_kind_kinds kind ≡ ks → Prints (ReadsStatement j f (stmt q kind)) ks → StatementAgain j f (stmt q kind)
made j f q kind ks e h = prints_as (ReadsStatement j f (stmt q kind)) ks _ (sym (law.statement_law (stmt q kind) ∙ e)) h

pub record ReadsStatements (j : Jumps) (body : List Stmt) (ts rest : List Token) : Type 0 where
  pub trees : List Stmt
  pub spelled : Statements j ts rest trees
  pub alike : AlikeAllStatements body trees

abbrev pub body_kinds : List Stmt → Kinds
body_kinds body = joined (map statement_kinds body)

abbrev pub StatementsAgain : Jumps → List Stmt → Type 0
StatementsAgain j body = Prints (ReadsStatements j body) (body_kinds body)

pub no_statements : (j : Jumps) → StatementsAgain j []
no_statements j = nothing_read (ReadsStatements j []) (λ rest. record { trees = []; spelled = g.no_statement j rest; alike = al.no_statement })

pub more_statements : (j : Jumps) (a : Stmt) (others : List Stmt) → StatementAgain j false a → StatementsAgain j others → StatementsAgain j (a ∷ others)
more_statements j a others h more = record {
  code = c.join (statement_kinds a) _ h.code more.code;
  reads = λ ts rest are.
      let x = parted (statement_kinds a) (body_kinds others) ts rest are in
      let y = h.reads ts x.us x.front in
      let z = more.reads x.us rest x.behind in
      record { trees = y.tree ∷ z.trees; spelled = g.more_statements j ts x.us rest y.tree z.trees y.spelled z.spelled; alike = al.one_statement a y.tree others z.trees y.alike z.alike };
}

-- simple ones, with their semicolon
pub simple_again : (j : Jumps) (f : Bool) (q : Place) (kind : StmtKind) (ks : Kinds) → statement_kind_kinds kind ≡ ended ks → Prints (ReadsSimple kind) ks → StatementAgain j f (stmt q kind)
simple_again j f q kind ks is h = made j f q kind (ended ks) is (record {
  code = up_to ks s.Semicolon [] refl h.code c.none;
  reads = λ ts rest are.
      let e = rd.ended ks (k.Sign s.Semicolon) ts rest are in
      let y = h.reads ts (e.t ∷ rest) e.front in
      record { tree = stmt y.place y.other; spelled = g.simple j f y.place e.t ts rest y.other y.spelled e.is; alike = al.statement q y.place kind y.other y.alike };
})

pub empty_again : (j : Jumps) (f : Bool) (q : Place) → StatementAgain j f (stmt q st.Empty)
empty_again j f q = made j f q st.Empty _ law.stmt_empty (record {
  code = signed s.Semicolon [] refl c.none;
  reads = λ ts rest are. single (k.Sign s.Semicolon) ts rest (λ xs. ReadsStatement j f (stmt q st.Empty) xs rest) are (λ t is.
      record { tree = stmt t.place st.Empty; spelled = g.empty j f t rest is; alike = al.statement q t.place st.Empty st.Empty (al.same_form st.Empty) });
})

pub block_again : (j : Jumps) (f : Bool) (q : Place) (body : List Stmt) → StatementsAgain j body → StatementAgain j f (stmt q (st.Block body))
block_again j f q body h = made j f q (st.Block body) _ (law.stmt_block body) (record {
  code = c.braces (body_kinds body) [] h.code c.none;
  reads = λ ts rest are. first (k.Sign s.OpenBrace) _ ts rest (λ xs. ReadsStatement j f (stmt q (st.Block body)) xs rest) are (λ o us opens more.
      let e = rd.ended (body_kinds body) (k.Sign s.CloseBrace) us rest more in
      let y = h.reads us (e.t ∷ rest) e.front in
      record {
        tree = stmt o.place (st.Block y.trees);
        spelled = g.block j f o e.t us rest y.trees opens y.spelled e.is;
        alike = al.statement q o.place _ _ (al.block body y.trees y.alike);
      });
})

-- a word, an expression in brackets, and what stands behind

head_code : (word : Word) (x ks : Kinds) → IsCode x → IsCode ks → IsCode (k.Word word ∷ (in_round x ++ ks))
head_code word x ks code more = worded word _ (c.join (in_round x) ks (bracketed_code x code) more)

record Head (word : Word) (x ks : Kinds) (ts rest : List Token) : Type 0 where
  t : Token
  o : Token
  d : Token
  us : List Token
  vs : List Token
  whole_is : ts ≡ t ∷ o ∷ us
  word_is : IsWord word t
  opens : IsSign s.OpenRound o
  inner : Are x us (d ∷ vs)
  closes : IsSign s.CloseRound d
  behind : Are ks vs rest

head : (word : Word) (x ks : Kinds) (ts rest : List Token) → Are (k.Word word ∷ (in_round x ++ ks)) ts rest → Head word x ks ts rest
head word x ks ts rest are = first (k.Word word) _ ts rest (λ xs. Head word x ks xs rest) are (λ t us is more.
    first (k.Sign s.OpenRound) _ us rest (λ xs. Head word x ks (t ∷ xs) rest) more (λ o vs opens last.
    let m = middle x (k.Sign s.CloseRound) ks vs rest (subst (λ y. Are y vs rest) (append_assoc x (k.Sign s.CloseRound ∷ []) ks) last) in
    record { t = t; o = o; d = m.t; us = vs; vs = m.us; whole_is = refl; word_is = is; opens = opens; inner = m.front; closes = m.is; behind = m.behind }))

if_form : (x holds : Kinds) (fails : Option Kinds) (a : Printed) → x ≡ whole a → p.if_else a holds fails ≡ k.Word w.If ∷ (in_round x ++ (holds ++ otherwise fails))
unfolding p.if_else
if_form x holds fails a e = ap (λ y. k.Word w.If ∷ (in_round y ++ (holds ++ otherwise fails))) (sym e)

pub if_alone_again : (j : Jumps) (q : Place) (a : Expr) (holds : Stmt) → ExprAgain a → StatementAgain j false holds → StatementAgain j false (stmt q (st.If a holds None))
if_alone_again j q a holds h i =
    let test = all a h in
    made j false q (st.If a holds None) (k.Word w.If ∷ (in_round (whole (printed a)) ++ statement_kinds holds))
    (law.stmt_if a holds None ∙ if_form _ _ None (printed a) refl ∙ ap (λ y. k.Word w.If ∷ (in_round (whole (printed a)) ++ y)) (append-nil (statement_kinds holds))) (record {
      code = head_code w.If _ _ test.code i.code;
      reads = λ ts rest are.
          let m = head w.If (whole (printed a)) (statement_kinds holds) ts rest are in
          let x = test.reads m.us (m.d ∷ m.vs) m.inner in
          let y = i.reads m.vs rest m.behind in
          subst (λ xs. ReadsStatement j false (stmt q (st.If a holds None)) xs rest) (sym m.whole_is) (record {
            tree = stmt m.t.place (st.If x.tree y.tree None);
            spelled = g.if_alone j x.place m.t m.o m.d m.us m.vs rest x.tree y.tree m.word_is m.opens x.spelled m.closes y.spelled;
            alike = al.statement q m.t.place _ _ (al.if_else a x.tree holds y.tree None None x.alike y.alike al.no_branch);
          });
    })

pub if_else_again : (j : Jumps) (f : Bool) (q : Place) (a : Expr) (holds fails : Stmt) → ExprAgain a → StatementAgain j true holds → StatementAgain j f fails → StatementAgain j f (stmt q (st.If a holds (Some fails)))
if_else_again j f q a holds fails h i o =
    let test = all a h in
    made j f q (st.If a holds (Some fails)) (k.Word w.If ∷ (in_round (whole (printed a)) ++ (statement_kinds holds ++ k.Word w.Else ∷ statement_kinds fails)))
    (law.stmt_if a holds (Some fails) ∙ if_form _ _ (Some (statement_kinds fails)) (printed a) refl) (record {
      code = head_code w.If _ _ test.code (c.join (statement_kinds holds) _ i.code (worded w.Else _ o.code));
      reads = λ ts rest are.
          let m = head w.If (whole (printed a)) _ ts rest are in
          let n = middle (statement_kinds holds) (k.Word w.Else) (statement_kinds fails) m.vs rest m.behind in
          let x = test.reads m.us (m.d ∷ m.vs) m.inner in
          let y = i.reads m.vs (n.t ∷ n.us) n.front in
          let z = o.reads n.us rest n.behind in
          subst (λ xs. ReadsStatement j f (stmt q (st.If a holds (Some fails))) xs rest) (sym m.whole_is) (record {
            tree = stmt m.t.place (st.If x.tree y.tree (Some z.tree));
            spelled = g.if_else j f x.place m.t m.o m.d n.t m.us m.vs n.us rest x.tree y.tree z.tree m.word_is m.opens x.spelled m.closes y.spelled n.is z.spelled;
            alike = al.statement q m.t.place _ _ (al.if_else a x.tree holds y.tree (Some fails) (Some z.tree) x.alike y.alike (al.branch fails z.tree z.alike));
          });
    })

while_form : (a : Printed) (ks : Kinds) → p.while_loop a ks ≡ k.Word w.While ∷ (in_round (whole a) ++ ks)
unfolding p.while_loop
while_form a ks = refl

pub while_again : (j : Jumps) (f : Bool) (q : Place) (a : Expr) (body : Stmt) → ExprAgain a → StatementAgain in_loop f body → StatementAgain j f (stmt q (st.While a body))
while_again j f q a body h i =
    let test = all a h in
    made j f q (st.While a body) _ (law.stmt_while a body ∙ while_form (printed a) (statement_kinds body)) (record {
      code = head_code w.While _ _ test.code i.code;
      reads = λ ts rest are.
          let m = head w.While (whole (printed a)) (statement_kinds body) ts rest are in
          let x = test.reads m.us (m.d ∷ m.vs) m.inner in
          let y = i.reads m.vs rest m.behind in
          subst (λ xs. ReadsStatement j f (stmt q (st.While a body)) xs rest) (sym m.whole_is) (record {
            tree = stmt m.t.place (st.While x.tree y.tree);
            spelled = g.while_ j f x.place m.t m.o m.d m.us m.vs rest x.tree y.tree m.word_is m.opens x.spelled m.closes y.spelled;
            alike = al.statement q m.t.place _ _ (al.while_ a x.tree body y.tree x.alike y.alike);
          });
    })

for_inner : Option Stmt → Option Expr → Option Expr → Kinds
for_inner start test step = started (option_map statement_kinds start) ++ (ended (optional (option_map printed test)) ++ optional (option_map printed step))

for_form : (start : Option Stmt) (test step : Option Expr) (ks : Kinds)
    → p.for_loop (option_map statement_kinds start) (option_map printed test) (option_map printed step) ks ≡ k.Word w.For ∷ (in_round (for_inner start test step) ++ ks)
unfolding p.for_loop for_inner
for_form start test step ks = refl

for_code : (start : Option Stmt) (test step : Option Expr) → IsCode (started (option_map statement_kinds start)) → IsCode (optional (option_map printed test)) → IsCode (optional (option_map printed step)) → IsCode (for_inner start test step)
unfolding for_inner
for_code start test step one two three = c.join _ _ one (c.join _ _ (up_to _ s.Semicolon [] refl two c.none) three)

record ForParts (start : Option Stmt) (test step : Option Expr) (ts rest : List Token) : Type 0 where
  us : List Token
  vs : List Token
  n : Token
  one : Are (started (option_map statement_kinds start)) ts us
  two : Are (optional (option_map printed test)) us (n ∷ vs)
  ends : IsSign s.Semicolon n
  three : Are (optional (option_map printed step)) vs rest

for_parts : (start : Option Stmt) (test step : Option Expr) (ts rest : List Token) → Are (for_inner start test step) ts rest → ForParts start test step ts rest
unfolding for_inner
for_parts start test step ts rest are =
    let x = parted (started (option_map statement_kinds start)) (ended (optional (option_map printed test)) ++ optional (option_map printed step)) ts rest are in
    let y = middle (optional (option_map printed test)) (k.Sign s.Semicolon) (optional (option_map printed step)) x.us rest
    (subst (λ z. Are z x.us rest) (append_assoc (optional (option_map printed test)) (k.Sign s.Semicolon ∷ []) (optional (option_map printed step))) x.behind) in
    record { us = x.us; vs = y.us; n = y.t; one = x.front; two = y.front; ends = y.is; three = y.behind }

pub for_again : (j : Jumps) (f : Bool) (q : Place) (start : Option Stmt) (test step : Option Expr) (body : Stmt)
    → Prints (ReadsStart start) (started (option_map statement_kinds start)) → Prints (ReadsCondition test) (optional (option_map printed test)) → Prints (ReadsStep step) (optional (option_map printed step))
    → StatementAgain in_loop f body → StatementAgain j f (stmt q (st.For start test step body))
for_again j f q start test step body one two three i =
    made j f q (st.For start test step body) _ (law.stmt_for start test step body ∙ for_form start test step (statement_kinds body)) (record {
      code = head_code w.For _ _ (for_code start test step one.code two.code three.code) i.code;
      reads = λ ts rest are.
          let m = head w.For (for_inner start test step) (statement_kinds body) ts rest are in
          let ps = for_parts start test step m.us (m.d ∷ m.vs) m.inner in
          let x = one.reads m.us ps.us ps.one in
          let y = two.reads ps.us (ps.n ∷ ps.vs) ps.two in
          let z = three.reads ps.vs (m.d ∷ m.vs) ps.three in
          let b = i.reads m.vs rest m.behind in
          subst (λ xs. ReadsStatement j f (stmt q (st.For start test step body)) xs rest) (sym m.whole_is) (record {
            tree = stmt m.t.place (st.For x.other y.other z.other b.tree);
            spelled = g.for_ j f m.t m.o x.m ps.n m.d m.us ps.us ps.vs m.vs rest x.other y.other z.other b.tree m.word_is m.opens x.spelled x.ends y.spelled ps.ends z.spelled m.closes b.spelled;
            alike = al.statement q m.t.place _ _ (al.for_ start x.other test y.other step z.other body b.tree x.alike y.alike z.alike b.alike);
          });
    })

foreach_inner : List ℕ → Expr → Kinds
foreach_inner n a = k.Word w.Var ∷ k.Name n ∷ k.Word w.In ∷ whole (printed a)

foreach_form : (n : List ℕ) (a : Expr) (ks : Kinds) → p.foreach_loop n (printed a) ks ≡ k.Word w.Foreach ∷ (in_round (foreach_inner n a) ++ ks)
unfolding p.foreach_loop foreach_inner
foreach_form n a ks = refl

record EachParts (n : List ℕ) (a : Expr) (ts rest : List Token) : Type 0 where
  v : Token
  m : Token
  i : Token
  us : List Token
  whole_is : ts ≡ v ∷ m ∷ i ∷ us
  var_is : IsWord w.Var v
  name_is : IsName n m
  in_is : IsWord w.In i
  inner : Reads 0 a us rest

each_parts : (n : List ℕ) (a : Expr) (ts rest : List Token) → ExprAgain a → Are (foreach_inner n a) ts rest → EachParts n a ts rest
unfolding foreach_inner
each_parts n a ts rest h are =
    let test = all a h in
    first (k.Word w.Var) _ ts rest (λ xs. EachParts n a xs rest) are (λ v us is more.
    first (k.Name n) _ us rest (λ xs. EachParts n a (v ∷ xs) rest) more (λ m vs has others.
    first (k.Word w.In) _ vs rest (λ xs. EachParts n a (v ∷ m ∷ xs) rest) others (λ i xs stands last.
    record { v = v; m = m; i = i; us = xs; whole_is = refl; var_is = is; name_is = has; in_is = stands; inner = test.reads xs rest last })))

foreach_code : (n : List ℕ) (a : Expr) → IsLexeme (k.Name n) → ExprAgain a → IsCode (foreach_inner n a)
unfolding foreach_inner
foreach_code n a is h = worded w.Var _ (named n _ is (worded w.In _ (all a h).code))

pub foreach_again : (j : Jumps) (f : Bool) (q r : Place) (n : List ℕ) (a : Expr) (body : Stmt) → IsLexeme (k.Name n) → ExprAgain a → StatementAgain in_loop f body
    → StatementAgain j f (stmt q (st.ForEach (al.named r n) a body))
foreach_again j f q r n a body is h i =
    made j f q (st.ForEach (al.named r n) a body) _ (law.stmt_foreach (al.named r n) a body ∙ foreach_form n a (statement_kinds body)) (record {
      code = head_code w.Foreach _ _ (foreach_code n a is h) i.code;
      reads = λ ts rest are.
          let m = head w.Foreach (foreach_inner n a) (statement_kinds body) ts rest are in
          let ps = each_parts n a m.us (m.d ∷ m.vs) h m.inner in
          let b = i.reads m.vs rest m.behind in
          subst (λ xs. ReadsStatement j f (stmt q (st.ForEach (al.named r n) a body)) xs rest) (sym (m.whole_is ∙ ap (λ xs. m.t ∷ m.o ∷ xs) ps.whole_is)) (record {
            tree = stmt m.t.place (st.ForEach (ident ps.m n) ps.inner.tree b.tree);
            spelled = g.foreach_ j f n ps.inner.place m.t m.o ps.v ps.m ps.i m.d ps.us m.vs rest ps.inner.tree b.tree m.word_is m.opens ps.var_is ps.name_is ps.in_is ps.inner.spelled m.closes b.spelled;
            alike = al.statement q m.t.place _ _ (al.foreach_ n r ps.m.place a ps.inner.tree body b.tree ps.inner.alike b.alike);
          });
    })

-- sections

pub record ReadsSections (j : Jumps) (room : ℕ) (sections : List Section) (ts rest : List Token) : Type 0 where
  pub trees : List Section
  pub spelled : Sections j room ts rest trees
  pub alike : AlikeAllSections sections trees

abbrev pub sections_kinds : List Section → Kinds
sections_kinds sections = joined (map section_kinds sections)

abbrev pub SectionsAgain : Jumps → ℕ → List Section → Type 0
SectionsAgain j room sections = Prints (ReadsSections j room sections) (sections_kinds sections)

pub no_sections : (j : Jumps) (room : ℕ) → SectionsAgain j room []
no_sections j room = nothing_read (ReadsSections j room []) (λ rest. record { trees = []; spelled = g.no_section j room rest; alike = al.no_section })

switch_form : (a : Printed) (sections : List Kinds) → p.switch_of a sections ≡ k.Word w.Switch ∷ (in_round (whole a) ++ in_braces (joined sections))
unfolding p.switch_of
switch_form a sections = refl

pub switch_again : (j : Jumps) (f : Bool) (q : Place) (a : Expr) (sections : List Section) → ExprAgain a → SectionsAgain (in_switch j) 1 sections → StatementAgain j f (stmt q (st.Switch a sections))
switch_again j f q a sections h i =
    let test = all a h in
    made j f q (st.Switch a sections) _ (law.stmt_switch a sections ∙ switch_form (printed a) (map section_kinds sections)) (record {
      code = head_code w.Switch _ _ test.code (c.braces (sections_kinds sections) [] i.code c.none);
      reads = λ ts rest are.
          let m = head w.Switch (whole (printed a)) (in_braces (sections_kinds sections)) ts rest are in
          subst (λ xs. ReadsStatement j f (stmt q (st.Switch a sections)) xs rest) (sym m.whole_is)
          (first (k.Sign s.OpenBrace) _ m.vs rest (λ xs. Are (whole (printed a)) m.us (m.d ∷ xs) → ReadsStatement j f (stmt q (st.Switch a sections)) (m.t ∷ m.o ∷ m.us) rest) m.behind (λ b us opens more inner.
          let e = rd.ended (sections_kinds sections) (k.Sign s.CloseBrace) us rest more in
          let x = test.reads m.us (m.d ∷ b ∷ us) inner in
          let y = i.reads us (e.t ∷ rest) e.front in
          record {
            tree = stmt m.t.place (st.Switch x.tree y.trees);
            spelled = g.switch_ j f x.place m.t m.o m.d b e.t m.us us rest x.tree y.trees m.word_is m.opens x.spelled m.closes opens y.spelled e.is;
            alike = al.statement q m.t.place _ _ (al.switch_ a x.tree sections y.trees x.alike y.alike);
          }) m.inner);
    })

-- a call that is awaited

await_form : (a : Printed) → p.await_of a ≡ k.Word w.Await ∷ ended (whole a)
unfolding p.await_of
await_form a = refl

pub await_again : (j : Jumps) (f : Bool) (q n r : Place) (owner : Expr) (name : Token) (bs : List Expr) → ExprAgain (node n (ek.Call (node r (ek.Member owner (ident name (codes "InvokeAsync")))) bs))
    → StatementAgain j f (stmt q (st.Await (node n (ek.Call (node r (ek.Member owner (ident name (codes "InvokeAsync")))) bs))))
await_again j f q n r owner name bs h =
    let a : Expr = node n (ek.Call (node r (ek.Member owner (ident name (codes "InvokeAsync")))) bs) in
    let value = all a h in
    made j f q (st.Await a) _ (law.stmt_await a ∙ await_form (printed a)) (record {
      code = worded w.Await _ (up_to _ s.Semicolon [] refl value.code c.none);
      reads = λ ts rest are. first (k.Word w.Await) _ ts rest (λ xs. ReadsStatement j f (stmt q (st.Await a)) xs rest) are (λ t us is more.
          let e = rd.ended (whole (printed a)) (k.Sign s.Semicolon) us rest more in
          let x = value.reads us (e.t ∷ rest) e.front in
          let y = invoke_alike a x.tree n r owner name bs refl x.alike in
          record {
            tree = stmt t.place (st.Await (node x.tree.place (ek.Call (node y.r (ek.Member y.owner (ident y.n (codes "InvokeAsync")))) y.bs)));
            spelled = g.await_ j f x.place x.tree.place y.r t y.n e.t us rest y.owner y.bs is (subst (λ b. Spells 0 x.place us (e.t ∷ rest) b) y.whole x.spelled) e.is;
            alike = al.statement q t.place _ _ (al.await_ a _ (subst (λ b. Alike a b) y.whole x.alike));
          });
    })

-- jumps

pub break_again : (j : Jumps) (f : Bool) (q : Place) → j.breaks ≡ true → StatementAgain j f (stmt q st.Break)
break_again j f q may = made j f q st.Break _ law.stmt_break (record {
  code = worded w.Break _ (signed s.Semicolon [] refl c.none);
  reads = λ ts rest are. first (k.Word w.Break) _ ts rest (λ xs. ReadsStatement j f (stmt q st.Break) xs rest) are (λ t us is more.
      single (k.Sign s.Semicolon) us rest (λ xs. ReadsStatement j f (stmt q st.Break) (t ∷ xs) rest) more (λ d ends.
      record { tree = stmt t.place st.Break; spelled = g.break_ j f t d rest may is ends; alike = al.statement q t.place _ _ (al.same_form st.Break) }));
})

pub continue_again : (j : Jumps) (f : Bool) (q : Place) → j.continues ≡ true → StatementAgain j f (stmt q st.Continue)
continue_again j f q may = made j f q st.Continue _ law.stmt_continue (record {
  code = worded w.Continue _ (signed s.Semicolon [] refl c.none);
  reads = λ ts rest are. first (k.Word w.Continue) _ ts rest (λ xs. ReadsStatement j f (stmt q st.Continue) xs rest) are (λ t us is more.
      single (k.Sign s.Semicolon) us rest (λ xs. ReadsStatement j f (stmt q st.Continue) (t ∷ xs) rest) more (λ d ends.
      record { tree = stmt t.place st.Continue; spelled = g.continue_ j f t d rest may is ends; alike = al.statement q t.place _ _ (al.same_form st.Continue) }));
})

return_form : (a : Option Printed) → p.return_of a ≡ k.Word w.Return ∷ ended (optional a)
unfolding p.return_of
return_form a = refl

pub return_again : (j : Jumps) (f : Bool) (q : Place) (value : Option Expr) → Prints (ReadsCondition value) (optional (option_map printed value)) → StatementAgain j f (stmt q (st.Return value))
return_again j f q value h = made j f q (st.Return value) _ (law.stmt_return value ∙ return_form (option_map printed value)) (record {
  code = worded w.Return _ (up_to _ s.Semicolon [] refl h.code c.none);
  reads = λ ts rest are. first (k.Word w.Return) _ ts rest (λ xs. ReadsStatement j f (stmt q (st.Return value)) xs rest) are (λ t us is more.
      let e = rd.ended (optional (option_map printed value)) (k.Sign s.Semicolon) us rest more in
      let x = h.reads us (e.t ∷ rest) e.front in
      record {
        tree = stmt t.place (st.Return x.other);
        spelled = g.return_ j f t e.t us rest x.other is x.spelled e.is;
        alike = al.statement q t.place _ _ (al.return_ value x.other x.alike);
      });
})
