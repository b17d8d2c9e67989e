-- What is read takes tokens.
use Rattle.std.proofs.Common.{◌≡◌, ℕ, zero, suc, ◌+◌, ◌*◌, ◌<◌, ◌≤◌, List, [], ◌∷◌, length, refl, sym, ap, ◌∙◌, arith}
use Rattle.std.specs.Prelude.{Bool, true, false, ◌||◌, nat_lt, pos, if◌then◌else◌, Option, Some, None}
use Rattle.text_core.specs.declared.place.Place.{Place}
use Rattle.cs_ast.specs.declared.cs_type.TypeExpr.{TypeExpr}
use Rattle.cs_ast.specs.declared.expression.Expr.{Expr}
use Rattle.cs_ast.specs.declared.expression.Label.{Label}
use Rattle.cs_ast.specs.declared.expression.Stmt.{Stmt}
use Rattle.cs_ast.specs.declared.expression.StmtKind.{StmtKind}
use Rattle.cs_ast.specs.declared.expression.StmtKind.TheVariants as st
use Rattle.cs_ast.specs.declared.identifier.Ident.{Ident}
use Rattle.cs_token.specs.declared.token.Token.{Token}
use Rattle.cs_token.specs.declared.token.TokenKind.{TokenKind}
use Rattle.cs_token.specs.declared.token.TokenKind.TheVariants as k
use Rattle.cs_token.specs.declared.token.Sign.{Sign}
use Rattle.cs_token.specs.declared.token.Sign.TheVariants as s
use Rattle.cs_token.specs.declared.token.Word.{Word}
use Rattle.cs_token.specs.declared.token.Word.TheVariants as w
use Rattle.cs_grammar.specs.Tokens.{IsSign, IsWord, IsName, ident}
use Rattle.cs_grammar.specs.Expressions.{node}
use Rattle.cs_grammar.specs.Statements.{stmt, defaults}
use Rattle.cs_parse.specs.declared.statement.frame.Beginning.{Beginning}
use Rattle.cs_parse.specs.declared.statement.frame.Beginning.TheVariants as b
use Rattle.cs_parse.specs.declared.statement.frame.Frame.{Frame}
use Rattle.cs_parse.specs.declared.statement.frame.Frame.TheVariants as fr
use Rattle.cs_parse.specs.declared.statement.frame.Jumps.{Jumps}
use Rattle.cs_parse.specs.declared.statement.frame.Next.{Next}
use Rattle.cs_parse.specs.declared.statement.frame.Next.TheVariants as nx
use Rattle.cs_parse.specs.declared.statement.frame.OpenBlock.{OpenBlock}
use Rattle.cs_parse.specs.declared.statement.frame.OpenSection.{OpenSection}
use Rattle.cs_parse.specs.declared.statement.frame.OpenSwitch.{OpenSwitch}
use Rattle.cs_parse.specs.declared.statement.simple.Change.{Change}
use Rattle.cs_parse.specs.declared.statement.simple.Change.TheVariants as c
use Rattle.cs_parse.specs.Reading.{Read, ◌>>=◌, after, name_first, has_sign, is_sign, is_word}
use Rattle.cs_parse.specs.TypeReading.{type_first}
use Rattle.cs_parse.specs.ExpressionReading.{expr_first}
use Rattle.cs_parse.specs.TreeViews.{is_call, is_invoke, leaves}
use Rattle.cs_parse.specs.SimpleReading as r
use Rattle.cs_parse.specs.SimpleReading.{after_word, simple_first, start_first, condition_first, step_first}
use Rattle.cs_parse.specs.StatementReading as r2
use Rattle.cs_parse.specs.StatementReading.{Onward, begin, begun, labels_in, labels_first, in_round, resume, has_label, begins}
use Rattle.cs_parse.proofs.TokenLemmas.{bind_ok, moved, after_ok, name_ok, word_is}
use Rattle.cs_parse.proofs.TypeSound.{type_sound}
use Rattle.cs_parse.proofs.ExpressionSound.{first_sound, used_0}
use Rattle.cs_parse.proofs.HeadLemmas.{expression_heads, type_heads, heads_shorter}

-- the word that was taken
pub after_word_ok : (word : Word) (ts rest : List Token) → after_word word ts ≡ Some rest → (t : Token) × (ts ≡ t ∷ rest) × IsWord word t
after_word_ok word [] rest e = absurd (cc)
after_word_ok word (t ∷ ts) rest e = go (is_word word t.kind) refl e
  where
    go : (d : Bool) → is_word word t.kind ≡ d → (if d then Some ts else None) ≡ Some rest → (t' : Token) × (t ∷ ts ≡ t' ∷ rest) × IsWord word t'
    go true i e = (t, cc, word_is word t.kind i)
    go false i e = absurd (cc)

pub after_less : (sign : Sign) (ts rest : List Token) → after sign ts ≡ Some rest → length rest < length ts
after_less sign ts rest e = let x = after_ok sign ts rest e in omega (arith, ap length x.1)

pub after_word_less : (word : Word) (ts rest : List Token) → after_word word ts ≡ Some rest → length rest < length ts
after_word_less word ts rest e = let x = after_word_ok word ts rest e in omega (arith, ap length x.1)

name_less : (ts : List Token) (x : Ident × List Token) → name_first ts ≡ Some x → length x.1 < length ts
name_less ts x e = let y = name_ok ts x.1 x.0 e in omega (arith, ap length y.2)

expr_less : (ts : List Token) (x : Expr × List Token) → expr_first 0 ts ≡ Some x → length x.1 < length ts
expr_less ts x e = let y = first_sound 0 ts x.0 x.1 used_0 e in heads_shorter y.0 ts x.1 (expression_heads 0 y.0 ts x.1 x.0 y.1.spells)

type_less : (ts : List Token) (x : TypeExpr × List Token) → type_first ts ≡ Some x → length x.1 < length ts
type_less ts x e = heads_shorter x.0.place ts x.1 (type_heads ts x.1 x.0 (type_sound ts x.0 x.1 e))

lengths : {A : Type 0} {x y : A × List Token} → Some x ≡ Some y → length x.1 ≡ length y.1
lengths {A} {x} {y} e = let same : x ≡ y = cc in ap (λ z. length z.1) same

-- no more tokens are left
abbrev Less : {A : Type 0} → (List Token → Read A) → Type 0
Less {A} read = (ts : List Token) (x : A × List Token) → read ts ≡ Some x → length x.1 ≤ length ts

some_less : {A : Type 0} (read : List Token → Read A) → Less read → Less (λ ts. read ts >>= r.some)
some_less read h ts x e = let d = bind_ok (read ts) _ _ e in moved (λ z. length z.1 ≤ length ts) d.2 (h ts d.0 d.1)

initial_less : Less r.initial
initial_less ts x e = split (after s.Assign ts) refl e
  where
    split : (o : Option (List Token)) → after s.Assign ts ≡ o → ◌≡◌ {A = Read (Option Expr)} (elim o [ Some q ↦ expr_first 0 q >>= r.some | None ↦ Some (None, ts) ]) (Some x) → length x.1 ≤ length ts
    split (Some q) m e = let d = bind_ok (expr_first 0 q) _ _ e in omega (arith, lengths d.2, after_less s.Assign ts q m, expr_less q d.0 d.1)
    split None m e = omega (arith, lengths e)

local_less : (a : Option TypeExpr) → Less (r.local a)
local_less a ts x e =
    let n = bind_ok (name_first ts) _ _ e in
    let v = bind_ok (r.initial n.0.1) _ _ n.2 in
    omega (arith, lengths v.2, name_less ts n.0 n.1, initial_less n.0.1 v.0 v.1)

type_or_var_less : Less r.type_or_var
type_or_var_less ts x e = split (after_word w.Var ts) refl e
  where
    split : (o : Option (List Token)) → after_word w.Var ts ≡ o → ◌≡◌ {A = Read (Option TypeExpr)} (elim o [ Some q ↦ Some (None, q) | None ↦ type_first ts >>= r.some ]) (Some x) → length x.1 ≤ length ts
    split (Some q) m e = omega (arith, lengths e, after_word_less w.Var ts q m)
    split None m e = let d = bind_ok (type_first ts) _ _ e in omega (arith, lengths d.2, type_less ts d.0 d.1)

-- what was kept by a test
pub kept : {A : Type 0} (d : Bool) (x y : A) → (if d then Some x else None) ≡ Some y → (d ≡ true) × (x ≡ y)
kept true x y e = (refl, cc)
kept false x y e = absurd (cc)

-- what was not refused by a test
pub passed : {A : Type 0} (d : Bool) (o : Option A) (y : A) → (if d then o else None) ≡ Some y → (d ≡ true) × (o ≡ Some y)
passed true o y e = (refl, e)
passed false o y e = absurd (cc)

local_type_less : Less r.local_type
local_type_less ts x e =
    let d = bind_ok (r.type_or_var ts) _ _ e in
    let q = kept (r.has_name d.0.1) d.0 x d.2 in
    omega (arith, type_or_var_less ts d.0 d.1, ap (λ z. length z.1) q.1)

change_less : (ts : List Token) (x : Change × List Token) → r.change_first ts ≡ Some x → length x.1 ≤ length ts
change_less [] x e = absurd (cc)
change_less (n ∷ []) x e = absurd (cc)
change_less (n ∷ t ∷ ts) x e =
    let q = passed (r.is_name n.kind) (r.changing t.kind >>= λ y. Some (y, ts)) x e in
    let d = bind_ok (r.changing t.kind) _ _ q.1 in
    omega (arith, lengths d.2)

changed_less : (change : Change) (n : Ident) → Less (r.changed change n)
changed_less (c.Assign op) n ts x e = let d = bind_ok (expr_first 0 ts) _ _ e in omega (arith, lengths d.2, expr_less ts d.0 d.1)
changed_less (c.Step op) n ts x e = omega (arith, lengths e)

called_less : Less r.called
called_less ts x e =
    let d = bind_ok (expr_first 0 ts) _ _ e in
    let q = kept (is_call d.0.0) d.0 x d.2 in
    omega (arith, expr_less ts d.0 d.1, ap (λ z. length z.1) q.1)

act_less : Less r.act
act_less ts x e = split (r.change_first ts) refl e
  where
    split : (o : Option (Change × List Token)) → r.change_first ts ≡ o → ◌≡◌ {A = Read Expr} (elim o [ Some y ↦ name_first ts >>= (λ n. r.changed y.0 n.0 y.1) | None ↦ r.called ts ]) (Some x) → length x.1 ≤ length ts
    split (Some y) m e = let n = bind_ok (name_first ts) _ _ e in omega (arith, change_less ts y m, changed_less y.0 n.0.0 y.1 x n.2)
    split None m e = called_less ts x e

simple_less : Less r.simple
simple_less ts x e = split (r.local_type ts) refl e
  where
    split : (o : Read (Option TypeExpr)) → r.local_type ts ≡ o →
        ◌≡◌ {A = Read StmtKind} (elim o [ Some y ↦ r.local y.0 y.1 | None ↦ r.act ts >>= (λ y. Some (st.Expr y.0, y.1)) ]) (Some x) → length x.1 ≤ length ts
    split (Some y) m e = omega (arith, local_type_less ts y m, local_less y.0 y.1 x e)
    split None m e = let d = bind_ok (r.act ts) _ _ e in moved (λ z. length z.1 ≤ length ts) d.2 (act_less ts d.0 d.1)

simple_first_less : Less simple_first
simple_first_less ts x e =
    let p = bind_ok (r.place_first ts) _ _ e in
    let d = bind_ok (r.simple ts) _ _ p.2 in
    moved (λ z. length z.1 ≤ length ts) d.2 (simple_less ts d.0 d.1)

maybe_less : {A : Type 0} (d : Bool) (read : List Token → Read A) → Less read → Less (λ ts. if d then Some (None, ts) else (read ts >>= r.some))
maybe_less true read h ts x e = omega (arith, lengths e)
maybe_less false read h ts x e = some_less read h ts x e

condition_less : Less condition_first
condition_less ts x e = maybe_less (has_sign s.Semicolon ts) (expr_first 0) (λ us y i. omega (arith, expr_less us y i)) ts x e

step_less : Less step_first
step_less ts x e = maybe_less (has_sign s.CloseRound ts) r.act (λ us y i. act_less us y i) ts x e

start_less : Less start_first
start_less ts x e = maybe_less (has_sign s.Semicolon ts) simple_first (λ us y i. simple_first_less us y i) ts x e

round_less : Less in_round
round_less ts x e =
    let o = bind_ok (after s.OpenRound ts) _ _ e in
    let d = bind_ok (expr_first 0 o.0) _ _ o.2 in
    let c = bind_ok (after s.CloseRound d.0.1) _ _ d.2 in
    omega (arith, lengths c.2, after_less s.OpenRound ts o.0 o.1, expr_less o.0 d.0 d.1, after_less s.CloseRound d.0.1 c.0 c.1)

-- the same of what follows
abbrev Onwards : (List Token → Onward) → Type 0
Onwards read = (ts : List Token) (x : Next × List Token) → read ts ≡ Some x → length x.1 ≤ length ts

ended_less : (p : Place) (kind : StmtKind) → Onwards (r2.ended p kind)
ended_less p kind ts x e = let d = bind_ok (after s.Semicolon ts) _ _ e in omega (arith, lengths d.2, after_less s.Semicolon ts d.0 d.1)

for_start_less : Less r2.for_start
for_start_less ts x e =
    let o = bind_ok (after s.OpenRound ts) _ _ e in
    let d = bind_ok (start_first o.0) _ _ o.2 in
    let c = bind_ok (after s.Semicolon d.0.1) _ _ d.2 in
    omega (arith, lengths c.2, after_less s.OpenRound ts o.0 o.1, start_less o.0 d.0 d.1, after_less s.Semicolon d.0.1 c.0 c.1)

for_condition_less : Less r2.for_condition
for_condition_less ts x e =
    let d = bind_ok (condition_first ts) _ _ e in
    let c = bind_ok (after s.Semicolon d.0.1) _ _ d.2 in
    omega (arith, lengths c.2, condition_less ts d.0 d.1, after_less s.Semicolon d.0.1 c.0 c.1)

for_step_less : Less r2.for_step
for_step_less ts x e =
    let d = bind_ok (step_first ts) _ _ e in
    let c = bind_ok (after s.CloseRound d.0.1) _ _ d.2 in
    omega (arith, lengths c.2, step_less ts d.0 d.1, after_less s.CloseRound d.0.1 c.0 c.1)

for_less : (p : Place) → Onwards (r2.begun_for p)
for_less p ts x e =
    let a = bind_ok (r2.for_start ts) _ _ e in
    let d = bind_ok (r2.for_condition a.0.1) _ _ a.2 in
    let f = bind_ok (r2.for_step d.0.1) _ _ d.2 in
    omega (arith, lengths f.2, for_start_less ts a.0 a.1, for_condition_less a.0.1 d.0 d.1, for_step_less d.0.1 f.0 f.1)

for_each_less : (p : Place) → Onwards (r2.begun_for_each p)
for_each_less p ts x e =
    let o = bind_ok (after s.OpenRound ts) _ _ e in
    let v = bind_ok (after_word w.Var o.0) _ _ o.2 in
    let n = bind_ok (name_first v.0) _ _ v.2 in
    let i = bind_ok (after_word w.In n.0.1) _ _ n.2 in
    let d = bind_ok (expr_first 0 i.0) _ _ i.2 in
    let c = bind_ok (after s.CloseRound d.0.1) _ _ d.2 in
    omega (arith, lengths c.2, after_less s.OpenRound ts o.0 o.1, after_word_less w.Var o.0 v.0 v.1, name_less v.0 n.0 n.1, after_word_less w.In n.0.1 i.0 i.1, expr_less i.0 d.0 d.1, after_less s.CloseRound d.0.1 c.0 c.1)

begun_less : (j : Jumps) (by : Beginning) (p : Place) → Onwards (begun j by p)
begun_less j b.Empty p ts x e = omega (arith, lengths e)
begun_less j b.Block p ts x e = omega (arith, lengths e)
begun_less j b.If p ts x e = let d = bind_ok (in_round ts) _ _ e in moved (λ z. length z.1 ≤ length ts) d.2 (round_less ts d.0 d.1)
begun_less j b.While p ts x e = let d = bind_ok (in_round ts) _ _ e in moved (λ z. length z.1 ≤ length ts) d.2 (round_less ts d.0 d.1)
begun_less j b.For p ts x e = for_less p ts x e
begun_less j b.ForEach p ts x e = for_each_less p ts x e
begun_less j b.Switch p ts x e =
    let d = bind_ok (in_round ts) _ _ e in
    let o = bind_ok (after s.OpenBrace d.0.1) _ _ d.2 in
    omega (arith, lengths o.2, round_less ts d.0 d.1, after_less s.OpenBrace d.0.1 o.0 o.1)
begun_less j b.Await p ts x e =
    let d = bind_ok (expr_first 0 ts) _ _ e in
    let q = passed (is_invoke d.0.0) (r2.ended p (st.Await d.0.0) d.0.1) x d.2 in
    omega (arith, expr_less ts d.0 d.1, ended_less p (st.Await d.0.0) d.0.1 x q.1)
begun_less j b.Break p ts x e = let q = passed j.breaks (r2.ended p st.Break ts) x e in ended_less p st.Break ts x q.1
begun_less j b.Continue p ts x e = let q = passed j.continues (r2.ended p st.Continue ts) x e in ended_less p st.Continue ts x q.1
begun_less j b.Return p ts x e = let d = bind_ok (condition_first ts) _ _ e in omega (arith, condition_less ts d.0 d.1, ended_less p (st.Return d.0.0) d.0.1 x d.2)
begun_less j b.Simple p ts x e = absurd (cc)
begun_less j b.Nothing p ts x e = absurd (cc)

begun_simple_less : (ts : List Token) (x : Next × List Token) → r2.begun_simple ts ≡ Some x → length x.1 < length ts
begun_simple_less ts x e =
    let d = bind_ok (simple_first ts) _ _ e in
    let c = bind_ok (after s.Semicolon d.0.1) _ _ d.2 in
    omega (arith, lengths c.2, simple_first_less ts d.0 d.1, after_less s.Semicolon d.0.1 c.0 c.1)

-- a statement takes a token or more where it begins
pub begin_less : (j : Jumps) (ts : List Token) (x : Next × List Token) → begin j ts ≡ Some x → length x.1 < length ts
begin_less j [] x e = absurd (cc)
begin_less j (t ∷ ts) x e = split (r2.is_simple (r2.beginning t.kind)) e
  where
    split : (d : Bool) → (if d then r2.begun_simple (t ∷ ts) else begun j (r2.beginning t.kind) t.place ts) ≡ Some x → length x.1 < length (t ∷ ts)
    split true e = begun_simple_less (t ∷ ts) x e
    split false e = omega (arith, begun_less j (r2.beginning t.kind) t.place ts x e)

negative_less : (p : Place) → Less (r2.negative p)
negative_less p [] x e = absurd (cc)
negative_less p (t ∷ ts) x e = go t.kind e
  where
    go : (kind : TokenKind) → r2.negated p kind ts ≡ Some x → length x.1 ≤ length (t ∷ ts)
    go (k.Number (pos n)) e = omega (arith, lengths e)
    go _ e = absurd (cc)

constant_of_less : (kind : TokenKind) (p : Place) → Less (r2.constant_of kind p)
constant_of_less (k.Number n) p ts x e = omega (arith, lengths e)
constant_of_less (k.Text y) p ts x e = omega (arith, lengths e)
constant_of_less (k.Word word) p ts x e = let d = bind_ok (r2.constant_word word) _ _ e in omega (arith, lengths d.2)
constant_of_less (k.Sign sign) p ts x e = let q = passed (is_sign s.Minus (k.Sign sign)) (r2.negative p ts) x e in negative_less p ts x q.1
constant_of_less _ p ts x e = absurd (cc)

constant_less : Less r2.constant
constant_less [] x e = absurd (cc)
constant_less (t ∷ ts) x e = omega (arith, constant_of_less t.kind t.place ts x e)

pub labelled_less : (ts : List Token) (x : Label × List Token) → r2.labelled ts ≡ Some x → length x.1 < length ts
labelled_less [] x e = absurd (cc)
labelled_less (t ∷ ts) x e = split (is_word w.Case t.kind) (is_word w.Default t.kind) e
  where
    split : (d f : Bool) → (if d then r2.case_label ts else if f then r2.default_label t.place ts else None) ≡ Some x → length x.1 < length (t ∷ ts)
    split true f e =
        let y = bind_ok (r2.constant ts) _ _ e in
        let q = bind_ok (after s.Colon y.0.1) _ _ y.2 in
        omega (arith, lengths q.2, constant_less ts y.0 y.1, after_less s.Colon y.0.1 q.0 q.1)
    split false true e = let q = bind_ok (after s.Colon ts) _ _ e in omega (arith, lengths q.2, after_less s.Colon ts q.0 q.1)
    split false false e = absurd (cc)

labels_in_less : (n : ℕ) (ts : List Token) (x : List Label × List Token) → labels_in n ts ≡ Some x → length x.1 < length ts
unfolding labels_in
labels_in_less zero ts x e = absurd (cc)
labels_in_less (suc n) ts x e =
    let d = bind_ok (r2.labelled ts) _ _ e in
    split (has_label d.0.1) d.0 d.1 (λ y i. labels_in_less n d.0.1 y i) d.2
  where
    split : (f : Bool) (y : Label × List Token) → r2.labelled ts ≡ Some y → ((z : List Label × List Token) → labels_in n y.1 ≡ Some z → length z.1 < length y.1) →
        ◌≡◌ {A = Read (List Label)} (if f then (labels_in n y.1 >>= λ z. Some (y.0 ∷ z.0, z.1)) else Some (y.0 ∷ [], y.1)) (Some x) → length x.1 < length ts
    split true y m h e = let q = bind_ok (labels_in n y.1) _ _ e in omega (arith, lengths q.2, labelled_less ts y m, h q.0 q.1)
    split false y m h e = omega (arith, lengths e, labelled_less ts y m)

pub labels_less : (ts : List Token) (x : List Label × List Token) → labels_first ts ≡ Some x → length x.1 < length ts
unfolding labels_first
labels_less ts x e = labels_in_less (length ts + 1) ts x e

-- how far what follows is from a whole statement, where no token is taken
abbrev pub weight : Next → ℕ
weight (nx.Done a) = 0
weight (nx.Inside f j) = 1
weight (nx.Block o) = 2
weight (nx.Switch o) = 2
weight (nx.Section o) = 3

pub weight_small : (next : Next) → weight next ≤ 3
weight_small (nx.Done a) = omega arith
weight_small (nx.Inside f j) = omega arith
weight_small (nx.Block o) = omega arith
weight_small (nx.Switch o) = omega arith
weight_small (nx.Section o) = omega arith

-- each step comes nearer to it, or takes tokens
pub record Nearer (at : ℕ) (ts : List Token) (x : Next × List Token) : Type 0 where
  pub shorter : length x.1 ≤ length ts
  pub nearer : 4 * length x.1 + weight x.0 < 4 * length ts + at

pub resume_less : (f : Frame) (a : Stmt) (ts : List Token) (x : Next × List Token) → resume f a ts ≡ Some x → length x.1 ≤ length ts
resume_less (fr.Yes p j y) a ts x e = split (after_word w.Else ts) refl e
  where
    split : (o : Option (List Token)) → after_word w.Else ts ≡ o → ◌≡◌ {A = Onward} (elim o [ Some q ↦ Some (nx.Inside (fr.No p y a) j, q) | None ↦ r2.done p (st.If y a None) ts ]) (Some x) → length x.1 ≤ length ts
    split (Some q) m e = omega (arith, lengths e, after_word_less w.Else ts q m)
    split None m e = omega (arith, lengths e)
resume_less (fr.No p y first) a ts x e = omega (arith, lengths e)
resume_less (fr.While p y) a ts x e = omega (arith, lengths e)
resume_less (fr.For p start condition step) a ts x e = omega (arith, lengths e)
resume_less (fr.ForEach p n y) a ts x e = omega (arith, lengths e)
resume_less (fr.Block o) a ts x e = omega (arith, lengths e)
resume_less (fr.Section o) a ts x e = omega (arith, lengths e)

pub block_less : (o : OpenBlock) (ts : List Token) (x : Next × List Token) → r2.block o ts ≡ Some x → Nearer 2 ts x
block_less o ts x e = split (begins ts) e
  where
    split : (d : Bool) → (if d then Some (nx.Inside (fr.Block o) o.jumps, ts) else (after s.CloseBrace ts >>= λ q. r2.done o.place (st.Block o.found) q)) ≡ Some x → Nearer 2 ts x
    split true e = moved (λ z. Nearer 2 ts z) e (record { shorter = omega arith; nearer = omega arith })
    split false e =
        let q = bind_ok (after s.CloseBrace ts) _ _ e in
        moved (λ z. Nearer 2 ts z) q.2 (let h = after_less s.CloseBrace ts q.0 q.1 in record { shorter = omega arith; nearer = omega arith })

pub section_less : (o : OpenSection) (ts : List Token) (x : Next × List Token) → r2.section_on o ts ≡ Some x → Nearer 3 ts x
section_less o ts x e = split (begins ts) (leaves o.found) e
  where
    split : (d f : Bool) → (if d then Some (nx.Inside (fr.Section o) o.before.jumps, ts) else if f then Some (nx.Switch (r2.switch_with o), ts) else None) ≡ Some x → Nearer 3 ts x
    split true f e = moved (λ z. Nearer 3 ts z) e (record { shorter = omega arith; nearer = omega arith })
    split false true e = moved (λ z. Nearer 3 ts z) e (record { shorter = omega arith; nearer = omega arith })
    split false false e = absurd (cc)

-- what was not taken by a test
pub spared : {A : Type 0} (d : Bool) (x y : A) → (if d then None else Some x) ≡ Some y → (d ≡ false) × (x ≡ y)
spared true x y e = absurd (cc)
spared false x y e = (refl, cc)

pub switch_less : (o : OpenSwitch) (ts : List Token) (x : Next × List Token) → r2.switch o ts ≡ Some x → Nearer 2 ts x
switch_less o ts x e = split (has_label ts) e
  where
    split : (d : Bool) → (if d then r2.labels_on o ts else (after s.CloseBrace ts >>= λ q. r2.done o.place (st.Switch o.value o.sections) q)) ≡ Some x → Nearer 2 ts x
    split true e =
        let y = bind_ok (labels_first ts) _ _ e in
        let q = spared (nat_lt o.room (defaults y.0.0)) (nx.Section (r2.section_of o y.0.0), y.0.1) x y.2 in
        moved (λ z. Nearer 2 ts z) (ap Some q.1) (let h = labels_less ts y.0 y.1 in record { shorter = omega arith; nearer = omega arith })
    split false e =
        let q = bind_ok (after s.CloseBrace ts) _ _ e in
        moved (λ z. Nearer 2 ts z) q.2 (let h = after_less s.CloseBrace ts q.0 q.1 in record { shorter = omega arith; nearer = omega arith })
