-- The equations of reading statements, at every number of steps that is enough.
use Rattle.std.proofs.Common.{◌≡◌, ℕ, zero, suc, ◌+◌, ◌*◌, ◌<◌, ◌≤◌, List, [], ◌∷◌, length, refl, sym, ap, ◌∙◌, arith}
use Rattle.std.specs.Prelude.{Option, Some, None}
use Rattle.cs_ast.specs.declared.expression.Stmt.{Stmt}
use Rattle.cs_token.specs.declared.token.Token.{Token}
use Rattle.cs_parse.specs.declared.statement.frame.Frame.{Frame}
use Rattle.cs_parse.specs.declared.statement.frame.Jumps.{Jumps}
use Rattle.cs_parse.specs.declared.statement.frame.Next.{Next}
use Rattle.cs_parse.specs.declared.statement.frame.Next.TheVariants as nx
use Rattle.cs_parse.specs.declared.statement.frame.OpenBlock.{OpenBlock}
use Rattle.cs_parse.specs.declared.statement.frame.OpenSection.{OpenSection}
use Rattle.cs_parse.specs.declared.statement.frame.OpenSwitch.{OpenSwitch}
use Rattle.cs_parse.specs.Reading.{Read, ◌>>=◌}
use Rattle.cs_parse.specs.StatementReading as r
use Rattle.cs_parse.specs.StatementReading.{Onward, Reads, within, begin, resume, steps, statement_first, rest_first}
use Rattle.cs_parse.proofs.TokenLemmas.{bind_ok, moved}
use Rattle.cs_parse.proofs.ShrinkLemmas.{begin_less, resume_less, block_less, switch_less, section_less, weight, weight_small, Nearer}

statement_in : ℕ → Jumps → List Token → Read Stmt
statement_in n j ts = (within n ts).statement j

rest_in : ℕ → Next → List Token → Read Stmt
rest_in n next ts = (within n ts).rest next

-- what is read takes tokens
record Shorter (n : ℕ) : Type 0 where
  statement : (j : Jumps) (ts : List Token) (x : Stmt × List Token) → statement_in n j ts ≡ Some x → length x.1 < length ts
  rest : (next : Next) (ts : List Token) (x : Stmt × List Token) → rest_in n next ts ≡ Some x → length x.1 ≤ length ts

on_shorter : (n : ℕ) (o : Onward) (x : Stmt × List Token) → Shorter n → r.on (within n) o ≡ Some x → (y : Next × List Token) × (o ≡ Some y) × (length x.1 ≤ length y.1)
unfolding rest_in
on_shorter n o x h e = let d = bind_ok o _ _ e in (d.0, d.1, h.rest d.0.0 d.0.1 x d.2)

rest_shorter : (n : ℕ) → Shorter n → (next : Next) (ts : List Token) (x : Stmt × List Token) → r.rest (within n) next ts ≡ Some x → length x.1 ≤ length ts
unfolding statement_in
rest_shorter n h (nx.Done a) ts x e = moved (λ z. length z.1 ≤ length ts) e (omega arith)
rest_shorter n h (nx.Inside f j) ts x e =
    let d = bind_ok ((within n ts).statement j) _ _ e in
    let y = on_shorter n (resume f d.0.0 d.0.1) x h d.2 in
    omega (arith, h.statement j ts d.0 d.1, resume_less f d.0.0 d.0.1 y.0 y.1, y.2)
rest_shorter n h (nx.Block o) ts x e = let y = on_shorter n (r.block o ts) x h e in omega (arith, (block_less o ts y.0 y.1).shorter, y.2)
rest_shorter n h (nx.Switch o) ts x e = let y = on_shorter n (r.switch o ts) x h e in omega (arith, (switch_less o ts y.0 y.1).shorter, y.2)
rest_shorter n h (nx.Section o) ts x e = let y = on_shorter n (r.section_on o ts) x h e in omega (arith, (section_less o ts y.0 y.1).shorter, y.2)

shorter : (n : ℕ) → Shorter n
unfolding within statement_in rest_in
shorter zero = record { statement = λ j ts x e. absurd (cc); rest = λ next ts x e. absurd (cc) }
shorter (suc n) =
    let h = shorter n in
    record {
      statement = λ j ts x e. let y = on_shorter n (begin j ts) x h e in omega (arith, begin_less j ts y.0 y.1, y.2);
      rest = λ next ts x e. rest_shorter n h next ts x e;
    }

-- two numbers of steps that are both enough read the same
record Same (n : ℕ) : Type 0 where
  statement : (m : ℕ) (j : Jumps) (ts : List Token) → 4 * length ts < n → 4 * length ts < m → statement_in n j ts ≡ statement_in m j ts
  rest : (m : ℕ) (next : Next) (ts : List Token) → 4 * length ts + weight next < n → 4 * length ts + weight next < m → rest_in n next ts ≡ rest_in m next ts

pub bind_same : {A B : Type 0} (o : Option A) (f g : A → Option B) → ((x : A) → o ≡ Some x → f x ≡ g x) → (o >>= f) ≡ (o >>= g)
bind_same None f g h = refl
bind_same (Some x) f g h = h x refl

on_same : (n m : ℕ) (o : Onward) → Same n → ((x : Next × List Token) → o ≡ Some x → (4 * length x.1 + weight x.0 < n) × (4 * length x.1 + weight x.0 < m)) → r.on (within n) o ≡ r.on (within m) o
unfolding rest_in
on_same n m o h less = bind_same o (λ x. (within n x.1).rest x.0) (λ x. (within m x.1).rest x.0) (λ x e. let l = less x e in h.rest m x.0 x.1 l.0 l.1)

rest_same : (n m : ℕ) → Same n → (next : Next) (ts : List Token) → 4 * length ts + weight next < suc n → 4 * length ts + weight next < suc m → r.rest (within n) next ts ≡ r.rest (within m) next ts
unfolding statement_in
rest_same n m h (nx.Done a) ts l1 l2 = refl
rest_same n m h (nx.Inside f j) ts l1 l2 =
    ap (λ o. o >>= λ x. r.on (within n) (resume f x.0 x.1)) (h.statement m j ts (omega arith) (omega arith))
    ∙ bind_same ((within m ts).statement j) (λ x. r.on (within n) (resume f x.0 x.1)) (λ x. r.on (within m) (resume f x.0 x.1)) (λ x e.
    let shrinks = (shorter m).statement j ts x e in
    on_same n m (resume f x.0 x.1) h (λ y i. let s1 = resume_less f x.0 x.1 y i in let s2 = weight_small y.0 in (omega arith, omega arith)))
rest_same n m h (nx.Block o) ts l1 l2 = on_same n m (r.block o ts) h (λ y i. let s = (block_less o ts y i).nearer in (omega arith, omega arith))
rest_same n m h (nx.Switch o) ts l1 l2 = on_same n m (r.switch o ts) h (λ y i. let s = (switch_less o ts y i).nearer in (omega arith, omega arith))
rest_same n m h (nx.Section o) ts l1 l2 = on_same n m (r.section_on o ts) h (λ y i. let s = (section_less o ts y i).nearer in (omega arith, omega arith))

begin_same : (n m : ℕ) → Same n → (j : Jumps) (ts : List Token) → 4 * length ts < suc n → 4 * length ts < suc m → r.on (within n) (begin j ts) ≡ r.on (within m) (begin j ts)
begin_same n m h j ts l1 l2 = on_same n m (begin j ts) h (λ y i. let s1 = begin_less j ts y i in let s2 = weight_small y.0 in (omega arith, omega arith))

same : (n : ℕ) → Same n
unfolding within statement_in rest_in
same zero = record { statement = λ m j ts l1 l2. absurd (omega arith); rest = λ m next ts l1 l2. absurd (omega arith) }
same (suc n) =
    let h = same n in
    record {
      statement = λ m j ts l1 l2. statement_at n m h j ts l1 l2;
      rest = λ m next ts l1 l2. rest_at n m h next ts l1 l2;
    }
  where
    statement_at : (n m : ℕ) → Same n → (j : Jumps) (ts : List Token) → 4 * length ts < suc n → 4 * length ts < m → statement_in (suc n) j ts ≡ statement_in m j ts
    statement_at n zero h j ts l1 l2 = absurd (omega arith)
    statement_at n (suc m) h j ts l1 l2 = begin_same n m h j ts l1 l2

    rest_at : (n m : ℕ) → Same n → (next : Next) (ts : List Token) → 4 * length ts + weight next < suc n → 4 * length ts + weight next < m → rest_in (suc n) next ts ≡ rest_in m next ts
    rest_at n zero h next ts l1 l2 = absurd (omega arith)
    rest_at n (suc m) h next ts l1 l2 = rest_same n m h next ts l1 l2

last_step : (ts : List Token) → steps ts ≡ suc (4 * length ts + 3)
last_step ts = omega arith

on_first : (n : ℕ) (o : Onward) → ((x : Next × List Token) → o ≡ Some x → 4 * length x.1 + weight x.0 < n) → r.on (within n) o ≡ (o >>= λ x. rest_first x.0 x.1)
unfolding rest_first rest_in
on_first n o less = bind_same o (λ x. (within n x.1).rest x.0) (λ x. rest_first x.0 x.1) (λ x e. let w = weight_small x.0 in let l = less x e in (same n).rest (steps x.1) x.0 x.1 l (omega arith))

pub statement_law : (j : Jumps) (ts : List Token) → statement_first j ts ≡ (begin j ts >>= λ x. rest_first x.0 x.1)
unfolding statement_first within
statement_law j ts = ap (λ n. (within n ts).statement j) (last_step ts) ∙ on_first (4 * length ts + 3) (begin j ts) (λ y i. let s1 = begin_less j ts y i in let s2 = weight_small y.0 in omega arith)

rest_law : (next : Next) (ts : List Token) → rest_first next ts ≡ r.rest (within (4 * length ts + 3)) next ts
unfolding rest_first within
rest_law next ts = ap (λ n. (within n ts).rest next) (last_step ts)

pub done_law : (a : Stmt) (ts : List Token) → rest_first (nx.Done a) ts ≡ Some (a, ts)
done_law a ts = rest_law (nx.Done a) ts

pub inside_law : (f : Frame) (j : Jumps) (ts : List Token) → rest_first (nx.Inside f j) ts ≡ (statement_first j ts >>= λ x. (resume f x.0 x.1 >>= λ y. rest_first y.0 y.1))
unfolding statement_first statement_in
inside_law f j ts =
    let n = 4 * length ts + 3 in
    rest_law (nx.Inside f j) ts
    ∙ ap (λ o. o >>= λ x. r.on (within n) (resume f x.0 x.1)) ((same n).statement (steps ts) j ts (omega arith) (omega arith))
    ∙ bind_same ((within (steps ts) ts).statement j) (λ x. r.on (within n) (resume f x.0 x.1)) (λ x. resume f x.0 x.1 >>= λ y. rest_first y.0 y.1) (λ x e.
    let shrinks = (shorter (steps ts)).statement j ts x e in
    on_first n (resume f x.0 x.1) (λ y i. let s1 = resume_less f x.0 x.1 y i in let s2 = weight_small y.0 in omega arith))

pub block_law : (o : OpenBlock) (ts : List Token) → rest_first (nx.Block o) ts ≡ (r.block o ts >>= λ x. rest_first x.0 x.1)
block_law o ts = rest_law (nx.Block o) ts ∙ on_first (4 * length ts + 3) (r.block o ts) (λ y i. let s = (block_less o ts y i).nearer in omega arith)

pub switch_law : (o : OpenSwitch) (ts : List Token) → rest_first (nx.Switch o) ts ≡ (r.switch o ts >>= λ x. rest_first x.0 x.1)
switch_law o ts = rest_law (nx.Switch o) ts ∙ on_first (4 * length ts + 3) (r.switch o ts) (λ y i. let s = (switch_less o ts y i).nearer in omega arith)

pub section_law : (o : OpenSection) (ts : List Token) → rest_first (nx.Section o) ts ≡ (r.section_on o ts >>= λ x. rest_first x.0 x.1)
section_law o ts = rest_law (nx.Section o) ts ∙ on_first (4 * length ts + 3) (r.section_on o ts) (λ y i. let s = (section_less o ts y i).nearer in omega arith)

-- a statement takes a token or more
pub statement_shorter : (j : Jumps) (ts : List Token) (x : Stmt × List Token) → statement_first j ts ≡ Some x → length x.1 < length ts
unfolding statement_first statement_in
statement_shorter j ts x e = (shorter (steps ts)).statement j ts x e
