-- What completes the frames of statements is spelled.
use Rattle.std.proofs.Common.{◌≡◌, ℕ, zero, suc, ◌+◌, ◌-◌, ◌≤◌, List, [], ◌∷◌, ◌++◌, length, refl, sym, ap, ◌∙◌, subst, arith, append_assoc, inl, inr}
use Rattle.std.specs.Prelude.{Bool, true, false, ◌||◌, nat_lt, pos, neg_ℤ, if◌then◌else◌, codes, Option, Some, None, ◌⊎◌}
use Rattle.std.proofs.lemmas.Bool.{ltb-false}
use Rattle.text_core.specs.declared.place.Place.{Place}
use Rattle.cs_ast.specs.declared.expression.Expr.{Expr}
use Rattle.cs_ast.specs.declared.expression.ExprKind.TheVariants as ek
use Rattle.cs_ast.specs.declared.expression.Label.{Label}
use Rattle.cs_ast.specs.declared.expression.LabelKind.{LabelKind}
use Rattle.cs_ast.specs.declared.expression.LabelKind.TheVariants as lk
use Rattle.cs_ast.specs.declared.expression.Section.{Section}
use Rattle.cs_ast.specs.declared.expression.Stmt.{Stmt}
use Rattle.cs_ast.specs.declared.expression.StmtKind.{StmtKind}
use Rattle.cs_ast.specs.declared.expression.StmtKind.TheVariants as st
use Rattle.cs_ast.specs.declared.identifier.Ident.{Ident}
use Rattle.cs_token.specs.declared.token.Token.{Token}
use Rattle.cs_token.specs.declared.token.TokenKind.{TokenKind}
use Rattle.cs_token.specs.declared.token.TokenKind.TheVariants as k
use Rattle.cs_token.specs.declared.token.Sign.{Sign}
use Rattle.cs_token.specs.declared.token.Sign.TheVariants as s
use Rattle.cs_token.specs.declared.token.Word.{Word}
use Rattle.cs_token.specs.declared.token.Word.TheVariants as w
use Rattle.cs_grammar.specs.Tokens.{IsSign, IsWord, IsName, ident}
use Rattle.cs_grammar.specs.Expressions.{node, Spells}
use Rattle.cs_grammar.specs.Statements.{Jumps, stmt, section, defaults, Statement, Statements, Sections, Start, Condition, Step, Constant, Labelled, Labels, Leaves}
use Rattle.cs_grammar.specs.Statements as g
use Rattle.cs_parse.specs.declared.statement.frame.Beginning.{Beginning}
use Rattle.cs_parse.specs.declared.statement.frame.Beginning.TheVariants as b
use Rattle.cs_parse.specs.declared.statement.frame.Frame.{Frame}
use Rattle.cs_parse.specs.declared.statement.frame.Frame.TheVariants as fr
use Rattle.cs_parse.specs.declared.statement.frame.Jumps.{Jumps as Allowed}
use Rattle.cs_parse.specs.declared.statement.frame.Next.{Next}
use Rattle.cs_parse.specs.declared.statement.frame.Next.TheVariants as nx
use Rattle.cs_parse.specs.declared.statement.frame.OpenBlock.{OpenBlock}
use Rattle.cs_parse.specs.declared.statement.frame.OpenSection.{OpenSection}
use Rattle.cs_parse.specs.declared.statement.frame.OpenSwitch.{OpenSwitch}
use Rattle.cs_parse.specs.Reading.{Read, ◌>>=◌, after, name_first, is_sign, is_word}
use Rattle.cs_parse.specs.ExpressionReading.{expr_first}
use Rattle.cs_parse.specs.TreeViews.{is_invoke, leaves}
use Rattle.cs_parse.specs.SimpleReading.{after_word, simple_first, start_first, condition_first, step_first}
use Rattle.cs_parse.specs.StatementReading as r
use Rattle.cs_parse.specs.StatementReading.{Onward, begin, begun, beginning, begins, by_sign, by_word, in_round, resume, has_label, labels_in, labels_first, constant_word, within, steps, statement_first, statements_in, statements_first}
use Rattle.cs_parse.proofs.TokenLemmas.{bind_ok, moved, after_ok, name_ok, sign_is, word_is, is_that_word}
use Rattle.cs_parse.proofs.ShrinkLemmas.{after_word_ok, kept, passed, spared}
use Rattle.cs_parse.proofs.SimpleSound.{Spelled, expression_ok, Whole, simple_sound, condition_sound, step_sound, start_sound}
use Rattle.cs_parse.proofs.TreeLemmas.{invoke_form, leaves_sound}

-- where jumps may stand, as the grammar has it
abbrev pub grammar : Allowed → Jumps
grammar j = record { breaks = j.breaks; continues = j.continues }

-- a statement behind which `else` may follow where none is left to take
pub record Stands (j : Allowed) (ts : List Token) (a : Stmt) (rest : List Token) : Type 0 where
  pub by : (f : Bool) → (f ≡ true → after_word w.Else rest ≡ None → ⊥) → Statement (grammar j) f ts rest a

-- The tokens up to the rest end a block, a section or a `switch` as this statement.
pub record Blocks (o : OpenBlock) (ts : List Token) (a : Stmt) (rest : List Token) : Type 0 where
  pub others : List Stmt
  pub c : Token
  pub is : Statements (grammar o.jumps) ts (c ∷ rest) others
  pub close : IsSign s.CloseBrace c
  pub same : a ≡ stmt o.place (st.Block (o.found ++ others))

pub record Switches (o : OpenSwitch) (ts : List Token) (a : Stmt) (rest : List Token) : Type 0 where
  pub others : List Section
  pub c : Token
  pub is : Sections (grammar o.jumps) o.room ts (c ∷ rest) others
  pub close : IsSign s.CloseBrace c
  pub same : a ≡ stmt o.place (st.Switch o.value (o.sections ++ others))

pub record Listed (o : OpenSection) (ts : List Token) (a : Stmt) (rest : List Token) : Type 0 where
  pub others : List Stmt
  pub us : List Token
  pub is : Statements (grammar o.before.jumps) ts us others
  pub leaves : Leaves (o.found ++ others)
  pub behind : Switches (r.switch_with (record o { found = o.found ++ others })) us a rest

-- the second branch of an `if`, or none
pub record Otherwise (j : Allowed) (p : Place) (x : Expr) (first : Stmt) (ts : List Token) (a : Stmt) (rest : List Token) : Type 0 where
  pub d : Token
  pub us : List Token
  pub second : Stmt
  pub whole : ts ≡ d ∷ us
  pub word : IsWord w.Else d
  pub is : Stands j us second rest
  pub same : a ≡ stmt p (st.If x first (Some second))

pub record Alone (p : Place) (x : Expr) (first : Stmt) (ts : List Token) (a : Stmt) (rest : List Token) : Type 0 where
  pub stop : after_word w.Else ts ≡ None
  pub same : a ≡ stmt p (st.If x first None)
  pub end : ts ≡ rest

-- so much is left behind the statement
pub record Made (made : Stmt) (ts : List Token) (a : Stmt) (rest : List Token) : Type 0 where
  pub same : made ≡ a
  pub end : ts ≡ rest

-- the tokens behind a statement inside a frame complete the frame
abbrev pub Resumed : Frame → Stmt → List Token → Stmt → List Token → Type 0
Resumed (fr.Yes p j x) first ts a rest = Alone p x first ts a rest ⊎ Otherwise j p x first ts a rest
Resumed (fr.No p x first) second ts a rest = Made (stmt p (st.If x first (Some second))) ts a rest
Resumed (fr.While p x) body ts a rest = Made (stmt p (st.While x body)) ts a rest
Resumed (fr.For p start condition step) body ts a rest = Made (stmt p (st.For start condition step body)) ts a rest
Resumed (fr.ForEach p n x) body ts a rest = Made (stmt p (st.ForEach n x body)) ts a rest
Resumed (fr.Block o) one ts a rest = Blocks (r.block_with o one) ts a rest
Resumed (fr.Section o) one ts a rest = Listed (r.section_with o one) ts a rest

pub record Within (f : Frame) (j : Allowed) (ts : List Token) (a : Stmt) (rest : List Token) : Type 0 where
  pub inner : Stmt
  pub us : List Token
  pub is : Stands j ts inner us
  pub behind : Resumed f inner us a rest

-- the tokens complete what follows
abbrev pub Completes : Next → List Token → Stmt → List Token → Type 0
Completes (nx.Done made) ts a rest = Made made ts a rest
Completes (nx.Inside f j) ts a rest = Within f j ts a rest
Completes (nx.Block o) ts a rest = Blocks o ts a rest
Completes (nx.Switch o) ts a rest = Switches o ts a rest
Completes (nx.Section o) ts a rest = Listed o ts a rest

-- each step is one of the grammar
module _ (a : Stmt) (rest : List Token) where
  pub done_sound : (made : Stmt) (ts : List Token) (x : Next × List Token) → ◌≡◌ {A = Onward} (Some (nx.Done made, ts)) (Some x) → Completes x.0 x.1 a rest → Made made ts a rest
  done_sound made ts x e h = moved (λ z. Completes z.0 z.1 a rest → Made made ts a rest) e (λ h. h) h

  pub resume_sound : (f : Frame) (one : Stmt) (ts : List Token) (x : Next × List Token) → resume f one ts ≡ Some x → Completes x.0 x.1 a rest → Resumed f one ts a rest
  resume_sound (fr.Yes p j y) one ts x e h = split (after_word w.Else ts) refl e
    where
      split : (o : Option (List Token)) → after_word w.Else ts ≡ o → ◌≡◌ {A = Onward} (elim o [ Some q ↦ Some (nx.Inside (fr.No p y one) j, q) | None ↦ r.done p (st.If y one None) ts ]) (Some x) →
          Alone p y one ts a rest ⊎ Otherwise j p y one ts a rest
      split (Some q) m e =
          let t = after_word_ok w.Else ts q m in
          let z : Within (fr.No p y one) j q a rest = moved (λ z. Completes z.0 z.1 a rest → Within (fr.No p y one) j q a rest) e (λ h. h) h in
          inr (record {
            d = t.0;
            us = q;
            second = z.inner;
            whole = t.1;
            word = t.2;
            is = subst (λ l. Stands j q z.inner l) z.behind.end z.is;
            same = sym z.behind.same;
          })
      split None m e = let z = done_sound (stmt p (st.If y one None)) ts x e h in inl (record { stop = m; same = sym z.same; end = z.end })
  resume_sound (fr.No p y first) one ts x e h = done_sound (stmt p (st.If y first (Some one))) ts x e h
  resume_sound (fr.While p y) one ts x e h = done_sound (stmt p (st.While y one)) ts x e h
  resume_sound (fr.For p start condition step) one ts x e h = done_sound (stmt p (st.For start condition step one)) ts x e h
  resume_sound (fr.ForEach p n y) one ts x e h = done_sound (stmt p (st.ForEach n y one)) ts x e h
  resume_sound (fr.Block o) one ts x e h = moved (λ z. Completes z.0 z.1 a rest → Blocks (r.block_with o one) ts a rest) e (λ h. h) h
  resume_sound (fr.Section o) one ts x e h = moved (λ z. Completes z.0 z.1 a rest → Listed (r.section_with o one) ts a rest) e (λ h. h) h

  no_more : {A : Type 0} (xs : List A) → xs ++ [] ≡ xs
  no_more [] = refl
  no_more (x ∷ xs) = ap (λ l. x ∷ l) (no_more xs)

  -- nothing to follow
  only : (j : Allowed) (ts us : List Token) (one : Stmt) → Stands j ts one us → Statement (grammar j) false ts us one
  only j ts us one h = h.by false (λ e m. absurd (cc))

  pub block_sound : (o : OpenBlock) (ts : List Token) (x : Next × List Token) → r.block o ts ≡ Some x → Completes x.0 x.1 a rest → Blocks o ts a rest
  block_sound o ts x e h = split (begins ts) e
    where
      split : (d : Bool) → (if d then Some (nx.Inside (fr.Block o) o.jumps, ts) else (after s.CloseBrace ts >>= λ q. r.done o.place (st.Block o.found) q)) ≡ Some x → Blocks o ts a rest
      split true e =
          let z : Within (fr.Block o) o.jumps ts a rest = moved (λ z. Completes z.0 z.1 a rest → Within (fr.Block o) o.jumps ts a rest) e (λ h. h) h in
          record {
            others = z.inner ∷ z.behind.others;
            c = z.behind.c;
            is = g.more_statements (grammar o.jumps) ts z.us (z.behind.c ∷ rest) z.inner z.behind.others (only o.jumps ts z.us z.inner z.is) z.behind.is;
            close = z.behind.close;
            same = z.behind.same ∙ ap (λ l. stmt o.place (st.Block l)) (append_assoc o.found (z.inner ∷ []) z.behind.others);
          }
      split false e =
          let q = bind_ok (after s.CloseBrace ts) _ _ e in
          let c = after_ok s.CloseBrace ts q.0 q.1 in
          let z = done_sound (stmt o.place (st.Block o.found)) q.0 x q.2 h in
          record {
            others = [];
            c = c.0;
            is = subst (λ l. Statements (grammar o.jumps) ts l []) (c.1 ∙ ap (λ l. c.0 ∷ l) z.end) (g.no_statement (grammar o.jumps) ts);
            close = c.2;
            same = sym z.same ∙ ap (λ l. stmt o.place (st.Block l)) (sym (no_more o.found));
          }

  pub section_sound : (o : OpenSection) (ts : List Token) (x : Next × List Token) → r.section_on o ts ≡ Some x → Completes x.0 x.1 a rest → Listed o ts a rest
  section_sound o ts x e h = split (begins ts) (leaves o.found) refl e
    where
      split : (d f : Bool) → leaves o.found ≡ f → (if d then Some (nx.Inside (fr.Section o) o.before.jumps, ts) else if f then Some (nx.Switch (r.switch_with o), ts) else None) ≡ Some x → Listed o ts a rest
      split true f m e =
          let z : Within (fr.Section o) o.before.jumps ts a rest = moved (λ z. Completes z.0 z.1 a rest → Within (fr.Section o) o.before.jumps ts a rest) e (λ h. h) h in
          let so = append_assoc o.found (z.inner ∷ []) z.behind.others in
          record {
            others = z.inner ∷ z.behind.others;
            us = z.behind.us;
            is = g.more_statements (grammar o.before.jumps) ts z.us z.behind.us z.inner z.behind.others (only o.before.jumps ts z.us z.inner z.is) z.behind.is;
            leaves = subst (λ l. Leaves l) so z.behind.leaves;
            behind = subst (λ l. Switches (r.switch_with (record o { found = l })) z.behind.us a rest) so z.behind.behind;
          }
      split false true m e =
          let z : Switches (r.switch_with o) ts a rest = moved (λ z. Completes z.0 z.1 a rest → Switches (r.switch_with o) ts a rest) e (λ h. h) h in
          let so = sym (no_more o.found) in
          record {
            others = [];
            us = ts;
            is = g.no_statement (grammar o.before.jumps) ts;
            leaves = subst (λ l. Leaves l) so (leaves_sound o.found m);
            behind = subst (λ l. Switches (r.switch_with (record o { found = l })) ts a rest) so z;
          }
      split false false m e = absurd (cc)

-- labels
word_constant : (word : Word) (kind : LabelKind) (t : Token) (rest : List Token) → IsWord word t → constant_word word ≡ Some kind → Constant (t ∷ rest) rest (r.label t.place kind)
unfolding constant_word
word_constant w.True kind t rest i e = moved (λ z. Constant (t ∷ rest) rest (r.label t.place z)) e (g.yes t rest i)
word_constant w.False kind t rest i e = moved (λ z. Constant (t ∷ rest) rest (r.label t.place z)) e (g.no t rest i)
word_constant w.Null kind t rest i e = moved (λ z. Constant (t ∷ rest) rest (r.label t.place z)) e (g.null t rest i)
word_constant _ kind t rest i e = absurd (cc)

negative_sound : (t : Token) (ts : List Token) (l : Label) (rest : List Token) → IsSign s.Minus t → r.negative t.place ts ≡ Some (l, rest) → Constant (t ∷ ts) rest l
negative_sound t [] l rest i e = absurd (cc)
negative_sound t (u ∷ us) l rest i e = go u.kind refl e
  where
    go : (kind : TokenKind) → u.kind ≡ kind → r.negated t.place kind us ≡ Some (l, rest) → Constant (t ∷ u ∷ us) rest l
    go (k.Number (pos n)) m e = moved (λ z. Constant (t ∷ u ∷ us) z.1 z.0) e (g.minus n t u us i m)
    go _ m e = absurd (cc)

constant_of_sound : (kind : TokenKind) (t : Token) (ts : List Token) (l : Label) (rest : List Token) → t.kind ≡ kind → r.constant_of kind t.place ts ≡ Some (l, rest) → Constant (t ∷ ts) rest l
constant_of_sound (k.Number n) t ts l rest i e = moved (λ z. Constant (t ∷ ts) z.1 z.0) e (g.number n t ts i)
constant_of_sound (k.Text x) t ts l rest i e = moved (λ z. Constant (t ∷ ts) z.1 z.0) e (g.text x t ts i)
constant_of_sound (k.Word word) t ts l rest i e =
    let d = bind_ok (constant_word word) _ _ e in
    moved (λ z. Constant (t ∷ ts) z.1 z.0) d.2 (word_constant word d.0 t ts i d.1)
constant_of_sound (k.Sign sign) t ts l rest i e =
    let q = passed (is_sign s.Minus (k.Sign sign)) (r.negative t.place ts) (l, rest) e in
    negative_sound t ts l rest (i ∙ sign_is s.Minus (k.Sign sign) q.0) q.1
constant_of_sound _ t ts l rest i e = absurd (cc)

constant_sound : (ts : List Token) (l : Label) (rest : List Token) → r.constant ts ≡ Some (l, rest) → Constant ts rest l
constant_sound [] l rest e = absurd (cc)
constant_sound (t ∷ ts) l rest e = constant_of_sound t.kind t ts l rest refl e

labelled_sound : (ts : List Token) (l : Label) (rest : List Token) → r.labelled ts ≡ Some (l, rest) → Labelled ts rest l
labelled_sound [] l rest e = absurd (cc)
labelled_sound (t ∷ ts) l rest e = split (is_word w.Case t.kind) (is_word w.Default t.kind) refl refl e
  where
    split : (d f : Bool) → is_word w.Case t.kind ≡ d → is_word w.Default t.kind ≡ f →
        ◌≡◌ {A = Read Label} (if d then r.case_label ts else if f then r.default_label t.place ts else None) (Some (l, rest)) → Labelled (t ∷ ts) rest l
    split true f i j e =
        let y = bind_ok (r.constant ts) _ _ e in
        let q = bind_ok (after s.Colon y.0.1) _ _ y.2 in
        let c = after_ok s.Colon y.0.1 q.0 q.1 in
        moved (λ z. Labelled (t ∷ ts) z.1 z.0) q.2 (g.case_of t c.0 ts q.0 y.0.0 (word_is w.Case t.kind i) (subst (λ l. Constant ts l y.0.0) c.1 (constant_sound ts y.0.0 y.0.1 y.1)) c.2)
    split false true i j e =
        let q = bind_ok (after s.Colon ts) _ _ e in
        let c = after_ok s.Colon ts q.0 q.1 in
        moved (λ z. Labelled (t ∷ ts) z.1 z.0) q.2 (subst (λ l. Labelled (t ∷ l) q.0 (r.label t.place lk.Default)) (sym c.1) (g.default t c.0 q.0 (word_is w.Default t.kind j) c.2))
    split false false i j e = absurd (cc)

labels_sound : (n : ℕ) (ts : List Token) (ls : List Label) (rest : List Token) → labels_in n ts ≡ Some (ls, rest) → Labels ts rest ls
unfolding labels_in
labels_sound zero ts ls rest e = absurd (cc)
labels_sound (suc n) ts ls rest e =
    let d = bind_ok (r.labelled ts) _ _ e in
    split (has_label d.0.1) d.0 (labelled_sound ts d.0.0 d.0.1 d.1) (λ x i. labels_sound n d.0.1 x.0 x.1 i) d.2
  where
    split : (f : Bool) (y : Label × List Token) → Labelled ts y.1 y.0 → ((x : List Label × List Token) → labels_in n y.1 ≡ Some x → Labels y.1 x.1 x.0) →
        ◌≡◌ {A = Read (List Label)} (if f then (labels_in n y.1 >>= λ z. Some (y.0 ∷ z.0, z.1)) else Some (y.0 ∷ [], y.1)) (Some (ls, rest)) → Labels ts rest ls
    split true y m h e = let q = bind_ok (labels_in n y.1) _ _ e in moved (λ z. Labels ts z.1 z.0) q.2 (g.more ts y.1 q.0.1 y.0 q.0.0 m (h q.0 q.1))
    split false y m h e = moved (λ z. Labels ts z.1 z.0) e (g.one ts y.1 y.0 m)

first_labels_sound : (ts : List Token) (ls : List Label) (rest : List Token) → labels_first ts ≡ Some (ls, rest) → Labels ts rest ls
unfolding labels_first
first_labels_sound ts ls rest e = labels_sound (length ts + 1) ts ls rest e

-- what a statement begins with
abbrev pub by_a_word : Beginning → Bool
by_a_word b.If = true
by_a_word b.While = true
by_a_word b.For = true
by_a_word b.ForEach = true
by_a_word b.Switch = true
by_a_word b.Await = true
by_a_word b.Break = true
by_a_word b.Continue = true
by_a_word b.Return = true
by_a_word _ = false

abbrev pub the_word : Beginning → Word
the_word b.If = w.If
the_word b.While = w.While
the_word b.For = w.For
the_word b.ForEach = w.Foreach
the_word b.Switch = w.Switch
the_word b.Await = w.Await
the_word b.Break = w.Break
the_word b.Continue = w.Continue
the_word _ = w.Return

no_word : (sign : Sign) → by_a_word (by_sign sign) ≡ false
unfolding by_sign
no_word s.OpenRound = refl
no_word _ = refl

that_word : (word : Word) → by_a_word (by_word word) ≡ true → word ≡ the_word (by_word word)
unfolding by_word
that_word w.If e = refl
that_word w.While e = refl
that_word w.For e = refl
that_word w.Foreach e = refl
that_word w.Switch e = refl
that_word w.Await e = refl
that_word w.Break e = refl
that_word w.Continue e = refl
that_word w.Return e = refl
that_word _ e = absurd (cc)

pub begun_word : (t : Token) (by : Beginning) → by_a_word by ≡ true → beginning t.kind ≡ by → IsWord (the_word by) t
begun_word t by h e = go t.kind refl e
  where
    go : (kind : TokenKind) → t.kind ≡ kind → beginning kind ≡ by → IsWord (the_word by) t
    go (k.Word word) i e = i ∙ ap k.Word (that_word word (ap by_a_word e ∙ h) ∙ ap the_word e)
    go (k.Sign sign) i e = let z : false ≡ true = sym (no_word sign) ∙ ap by_a_word e ∙ h in absurd (cc)
    go (k.Part x) i e = let z : false ≡ true = ap by_a_word e ∙ h in absurd (cc)
    go _ i e = let z : false ≡ true = ap by_a_word e ∙ h in absurd (cc)

semicolon_sign : (sign : Sign) → by_sign sign ≡ b.Empty → sign ≡ s.Semicolon
unfolding by_sign
semicolon_sign s.Semicolon e = refl
semicolon_sign _ e = absurd (cc)

semicolon_word : (word : Word) → by_word word ≡ b.Empty → ⊥
unfolding by_word
semicolon_word w.If e = absurd (cc)
semicolon_word _ e = absurd (cc)

pub begun_semicolon : (t : Token) → beginning t.kind ≡ b.Empty → IsSign s.Semicolon t
begun_semicolon t e = go t.kind refl e
  where
    go : (kind : TokenKind) → t.kind ≡ kind → beginning kind ≡ b.Empty → IsSign s.Semicolon t
    go (k.Sign sign) i e = i ∙ ap k.Sign (semicolon_sign sign e)
    go (k.Word word) i e = absurd (semicolon_word word e)
    go (k.Part x) i e = absurd (cc)
    go _ i e = absurd (cc)

brace_sign : (sign : Sign) → by_sign sign ≡ b.Block → sign ≡ s.OpenBrace
unfolding by_sign
brace_sign s.OpenBrace e = refl
brace_sign _ e = absurd (cc)

brace_word : (word : Word) → by_word word ≡ b.Block → ⊥
unfolding by_word
brace_word w.If e = absurd (cc)
brace_word _ e = absurd (cc)

pub begun_brace : (t : Token) → beginning t.kind ≡ b.Block → IsSign s.OpenBrace t
begun_brace t e = go t.kind refl e
  where
    go : (kind : TokenKind) → t.kind ≡ kind → beginning kind ≡ b.Block → IsSign s.OpenBrace t
    go (k.Sign sign) i e = i ∙ ap k.Sign (brace_sign sign e)
    go (k.Word word) i e = absurd (brace_word word e)
    go (k.Part x) i e = absurd (cc)
    go _ i e = absurd (cc)

-- an expression in round brackets
pub record Round (ts : List Token) (x : Expr) (rest : List Token) : Type 0 where
  pub o : Token
  pub c : Token
  pub p : Place
  pub us : List Token
  pub whole : ts ≡ o ∷ us
  pub open_ : IsSign s.OpenRound o
  pub spells : Spells 0 p us (c ∷ rest) x
  pub close : IsSign s.CloseRound c

pub round_ok : (ts : List Token) (x : Expr) (rest : List Token) → in_round ts ≡ Some (x, rest) → Round ts x rest
round_ok ts x rest e =
    let q = bind_ok (after s.OpenRound ts) _ _ e in
    let o = after_ok s.OpenRound ts q.0 q.1 in
    let d = bind_ok (expr_first 0 q.0) _ _ q.2 in
    let y = expression_ok q.0 d.0.0 d.0.1 d.1 in
    let f = bind_ok (after s.CloseRound d.0.1) _ _ d.2 in
    let c = after_ok s.CloseRound d.0.1 f.0 f.1 in
    moved (λ z. Round ts z.0 z.1) f.2 (record {
      o = o.0;
      c = c.0;
      p = y.p;
      us = q.0;
      whole = o.1;
      open_ = o.2;
      spells = subst (λ l. Spells 0 y.p q.0 l d.0.0) c.1 y.spells;
      close = c.2;
    })

pub after_word_yes : (word : Word) (t : Token) (rest : List Token) → IsWord word t → after_word word (t ∷ rest) ≡ Some rest
after_word_yes word t rest e = ap (λ d. if d then Some rest else None) (ap (is_word word) e ∙ that word)
  where
    that : (word : Word) → is_word word (k.Word word) ≡ true
    that word = is_that_word word (record { kind = k.Word word; start = 0; end = 0; place = t.place }) refl

module _ (a : Stmt) (rest : List Token) where
  pub switch_sound : (o : OpenSwitch) (ts : List Token) (x : Next × List Token) → r.switch o ts ≡ Some x → Completes x.0 x.1 a rest → Switches o ts a rest
  switch_sound o ts x e h = split (has_label ts) e
    where
      split : (d : Bool) → (if d then r.labels_on o ts else (after s.CloseBrace ts >>= λ q. r.done o.place (st.Switch o.value o.sections) q)) ≡ Some x → Switches o ts a rest
      split true e =
          let y = bind_ok (labels_first ts) _ _ e in
          let q = spared (nat_lt o.room (defaults y.0.0)) (nx.Section (r.section_of o y.0.0), y.0.1) x y.2 in
          let z : Listed (r.section_of o y.0.0) y.0.1 a rest = subst (λ z. Completes z.0 z.1 a rest) (sym q.1) h in
          record {
            others = section y.0.0 z.others ∷ z.behind.others;
            c = z.behind.c;
            is = g.more_sections (grammar o.jumps) o.room ts y.0.1 z.us (z.behind.c ∷ rest) y.0.0 z.others z.behind.others
                (first_labels_sound ts y.0.0 y.0.1 y.1) (ltb-false _ _ q.0) z.is z.leaves z.behind.is;
            close = z.behind.close;
            same = z.behind.same ∙ ap (λ l. stmt o.place (st.Switch o.value l)) (append_assoc o.sections (section y.0.0 z.others ∷ []) z.behind.others);
          }
      split false e =
          let q = bind_ok (after s.CloseBrace ts) _ _ e in
          let c = after_ok s.CloseBrace ts q.0 q.1 in
          let z = done_sound a rest (stmt o.place (st.Switch o.value o.sections)) q.0 x q.2 h in
          record {
            others = [];
            c = c.0;
            is = subst (λ l. Sections (grammar o.jumps) o.room ts l []) (c.1 ∙ ap (λ l. c.0 ∷ l) z.end) (g.no_section (grammar o.jumps) o.room ts);
            close = c.2;
            same = sym z.same ∙ ap (λ l. stmt o.place (st.Switch o.value l)) (sym (no_more a rest o.sections));
          }
