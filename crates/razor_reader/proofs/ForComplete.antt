-- What the head of a `for` spells is read.
use Rattle.std.proofs.Common.{◌≡◌, ℕ, ◌+◌, ◌<◌, ◌≤◌, List, [], ◌∷◌, ◌++◌, refl, sym, ap, ◌∙◌, subst, arith}
use Rattle.std.specs.Prelude.{Bool, true, false, not, ◌&&◌, sum, nat_lt, if◌then◌else◌, Option, Some, None}
use Rattle.std.specs.List.{list_all}
use Rattle.std.proofs.lemmas.Bool.{and_parts, ltb-true, ltb-false}
use Rattle.std.proofs.lemmas.List.Sums.{sum_by-cons}
use Rattle.text_core.specs.declared.place.Place.{Place}
use Rattle.cs_ast.specs.declared.expression.Expr.{Expr}
use Rattle.cs_ast.specs.declared.expression.Stmt.{Stmt}
use Rattle.cs_ast.specs.declared.expression.StmtKind.{StmtKind, StmtKind-F, out-StmtKind}
use Rattle.cs_ast.specs.declared.expression.StmtKind.TheVariants as st
use Rattle.cs_token.specs.declared.token.Token.{Token}
use Rattle.cs_token.specs.declared.token.TokenKind.{TokenKind}
use Rattle.cs_token.specs.declared.token.TokenKind.TheVariants as t
use Rattle.cs_token.specs.declared.token.Sign.{Sign}
use Rattle.cs_token.specs.declared.token.Sign.TheVariants as s
use Rattle.cs_token.specs.declared.token.Word.{Word}
use Rattle.cs_grammar.specs.Expressions.{Spells}
use Rattle.cs_grammar.specs.Nesting as n
use Rattle.cs_grammar.specs.Statements.{Statement, Start, Condition, Step, Acts, no_jumps, stmt}
use Rattle.cs_grammar.specs.Statements as cs
use Rattle.cs_grammar.specs.Tokens.{IsSign, ident}
use Rattle.razor_ast.specs.Statements.{IsSimple, ForHead}
use Rattle.razor_ast.specs.Statements as g
use Rattle.razor_reader.specs.declared.mark.Mark.TheVariants as m
use Rattle.razor_reader.specs.Marks.{is_token}
use Rattle.razor_reader.specs.Reading.{◌>>=◌}
use Rattle.razor_reader.specs.CodeReading.{plain, simple}
use Rattle.razor_reader.specs.HeadReading as r
use Rattle.razor_reader.proofs.CodeComplete.{Flat, plain_complete}
use Rattle.razor_reader.proofs.CutLemmas.{Cut, clean, cut_spells, cut_acts, cut_simple}
use Rattle.razor_reader.proofs.ReadLemmas.{not_true}
use Rattle.razor_reader.proofs.SimpleComplete.{same_semicolon, semicolon_is, simple_read}
use Rattle.razor_reader.proofs.StatementComplete.{begins_simple, expression_first}
use Rattle.razor_reader.proofs.ValueComplete.{bind_is}

no_more : (us : List Token) → us ++ [] ≡ us
no_more [] = refl
no_more (u ∷ us) = ap (λ l. u ∷ l) (no_more us)

-- a semicolon behind tokens nests no deeper

Ones : List ℕ → Type 0
Ones [] = Unit {0}
Ones (x ∷ xs) = (1 ≤ x) × Ones xs

ones_closed : (xs : List ℕ) → Ones xs → Ones (n.closed xs)
unfolding Ones
ones_closed [] h = h
ones_closed (x ∷ xs) h = h.1

ones_begun : (xs : List ℕ) → Ones xs → Ones (n.begun xs)
unfolding Ones
ones_begun [] h = h
ones_begun (x ∷ xs) h = (omega arith, h.1)

ones_counted : (xs : List ℕ) → Ones xs → Ones (n.counted xs)
unfolding Ones
ones_counted [] h = h
ones_counted (x ∷ xs) h = (omega arith, h.1)

ones_chosen : (a b c d : Bool) (xs : List ℕ) → Ones xs → Ones (if a then 1 ∷ xs else (if b then n.closed xs else (if c then n.begun xs else (if d then xs else n.counted xs))))
unfolding Ones
ones_chosen true b c d xs h = (omega arith, h)
ones_chosen false true c d xs h = ones_closed xs h
ones_chosen false false true d xs h = ones_begun xs h
ones_chosen false false false true xs h = h
ones_chosen false false false false xs h = ones_counted xs h

ones_word : (b : Bool) (xs : List ℕ) → Ones xs → Ones (if b then n.counted xs else xs)
ones_word true xs h = ones_counted xs h
ones_word false xs h = h

ones_behind : (kind : TokenKind) (xs : List ℕ) → Ones xs → Ones (n.behind kind xs)
ones_behind (t.Sign sign) xs h = ones_chosen (n.opens sign) (n.closes sign) (n.parts sign) (n.bounds_text sign) xs h
ones_behind (t.Word word) xs h = ones_word (n.is_else word) xs h
ones_behind _ xs h = h

less_first : (x : ℕ) (xs : List ℕ) → 1 ≤ x → sum (1 ∷ xs) ≤ sum (x ∷ xs)
less_first x xs h = omega (arith, sum_by-cons (λ (z : ℕ). z) 1 xs, sum_by-cons (λ (z : ℕ). z) x xs)

begun_less : (xs : List ℕ) → Ones xs → sum (n.begun xs) ≤ sum xs
unfolding Ones
begun_less [] h = omega arith
begun_less (x ∷ xs) h = less_first x xs h.0

at_semicolon : (xs : List ℕ) → n.behind (t.Sign s.Semicolon) xs ≡ n.begun xs
unfolding n.opens n.closes n.parts
at_semicolon xs = refl

small : (k : ℕ) → k ≤ 200 → nat_lt 200 k ≡ false
small k h = go (nat_lt 200 k) refl
  where
    go : (b : Bool) → nat_lt 200 k ≡ b → b ≡ false
    go true i = let more : 200 < k = ltb-true _ _ i in absurd (omega arith)
    go false i = refl

below : (b : Bool) (p : Place) (o : Option Place) → ◌≡◌ {A = Option Place} (if b then Some p else o) None → (b ≡ false) × (o ≡ None)
below true p o e = absurd (cc)
below false p o e = (refl, e)

flat_with : (ts : List Token) (xs : List ℕ) (c : Token) → IsSign s.Semicolon c → Ones xs → sum xs ≤ 200 → n.too_deep_from xs ts ≡ None → n.too_deep_from xs (ts ++ c ∷ []) ≡ None
flat_with [] xs c i ones less e =
    let same : n.behind c.kind xs ≡ n.begun xs = ap (λ kind. n.behind kind xs) i ∙ at_semicolon xs in
    let fewer = begun_less xs ones in
    let bound : sum (n.behind c.kind xs) ≤ 200 = subst (λ (l : List ℕ). sum l ≤ 200) (sym same) (omega arith) in
    ap (λ (b : Bool). if b then Some c.place else None) (small (sum (n.behind c.kind xs)) bound)
flat_with (u ∷ ts) xs c i ones less e =
    let d = below (nat_lt 200 (sum (n.behind u.kind xs))) u.place (n.too_deep_from (n.behind u.kind xs) ts) e in
    ap (λ (b : Bool). if b then Some u.place else n.too_deep_from (n.behind u.kind xs) (ts ++ c ∷ [])) d.0
    ∙ flat_with ts (n.behind u.kind xs) c i (ones_behind u.kind xs ones) (ltb-false _ _ d.0) d.1

flat_semicolon : (ts : List Token) (c : Token) → IsSign s.Semicolon c → n.too_deep ts ≡ None → n.too_deep (ts ++ c ∷ []) ≡ None
unfolding n.too_deep Ones
flat_semicolon ts c i e = flat_with ts [] c i tt (omega arith) e

-- tokens up to a semicolon

to_semicolon_is : (pre : List Token) (c : Token) (rest : List Token) → clean pre ≡ true → IsSign s.Semicolon c → r.to_semicolon (pre ++ c ∷ rest) ≡ Some (pre ++ c ∷ [], rest)
to_semicolon_is [] c rest kept i =
    ap (λ (b : Bool). if b then Some (c ∷ [], rest) else (r.to_semicolon rest >>= λ x. Some (c ∷ x.0, x.1))) (ap (is_token m.Semicolon) i ∙ semicolon_is)
to_semicolon_is (u ∷ pre) c rest kept i =
    let parts = and_parts (not (g.is_semicolon u.kind)) (clean pre) kept in
    let other : is_token m.Semicolon u.kind ≡ false = sym (same_semicolon u.kind) ∙ not_true (g.is_semicolon u.kind) parts.0 in
    ap (λ (b : Bool). if b then Some (u ∷ [], pre ++ c ∷ rest) else (r.to_semicolon (pre ++ c ∷ rest) >>= λ x. Some (u ∷ x.0, x.1))) other
    ∙ bind_is (r.to_semicolon (pre ++ c ∷ rest)) (pre ++ c ∷ [], rest) (λ x. Some (u ∷ x.0, x.1)) (to_semicolon_is pre c rest parts.1 i)

last_is : (pre : List Token) (c : Token) → r.last_of (pre ++ c ∷ []) ≡ Some c
last_is [] c = refl
last_is (u ∷ []) c = refl
last_is (u ∷ v ∷ pre) c = last_is (v ∷ pre) c

without_is : (pre : List Token) (c : Token) → r.without_last (pre ++ c ∷ []) ≡ pre
without_is [] c = refl
without_is (u ∷ []) c = refl
without_is (u ∷ v ∷ pre) c = ap (λ l. u ∷ l) (without_is (v ∷ pre) c)

-- the start

abbrev started : Stmt → Option (Option Stmt)
started a = elim (out-StmtKind a.kind) [ StmtKind-F.Local cs_type name value ↦ Some (Some a) | StmtKind-F.Expr b ↦ Some (Some a) | StmtKind-F.Empty ↦ Some None | _ ↦ None ]

kind_simple : (p : Place) (ts rest : List Token) (kind : StmtKind) → cs.Simple p ts rest kind → IsSimple kind
kind_simple _ _ _ _ (cs.local x p u ts us rest a value h i j) = g.local a (ident u x) value
kind_simple _ _ _ _ (cs.act p ts rest a h) = g.act a

kind_started : (p : Place) (ts rest : List Token) (kind : StmtKind) → cs.Simple p ts rest kind → started (stmt p kind) ≡ Some (Some (stmt p kind))
kind_started _ _ _ _ (cs.local x p u ts us rest a value h i j) =
    let it : Stmt = stmt p (st.Local a (ident u x) value) in
    ap (λ k. elim k [ StmtKind-F.Local cs_type name value ↦ Some (Some it) | StmtKind-F.Expr b ↦ Some (Some it) | StmtKind-F.Empty ↦ Some None | _ ↦ None ]) (st.outs-Local a (ident u x) value)
kind_started _ _ _ _ (cs.act p ts rest a h) =
    ap (λ k. elim k [ StmtKind-F.Local cs_type name value ↦ Some (Some (stmt p (st.Expr a))) | StmtKind-F.Expr b ↦ Some (Some (stmt p (st.Expr a))) | StmtKind-F.Empty ↦ Some None | _ ↦ None ]) (st.outs-Expr a)

record Begun (ts us : List Token) (c : Token) (start : Option Stmt) : Type 0 where
  pre : List Token
  whole : ts ≡ pre ++ c ∷ us
  kept : clean pre ≡ true
  read : n.too_deep (pre ++ c ∷ []) ≡ None → r.start (pre ++ c ∷ []) ≡ Some start

start_begun : (ts us : List Token) (c : Token) (start : Option Stmt) → IsSign s.Semicolon c → Start ts (c ∷ us) start → Begun ts us c start
start_begun _ us c _ i (cs.none _) = record {
  pre = [];
  whole = refl;
  kept = refl;
  read =
      λ flat.
      bind_is (simple (c ∷ [])) (stmt c.place st.Empty) started (simple_read (c ∷ []) (stmt c.place st.Empty) flat (cs.empty no_jumps false c [] i) g.empty)
      ∙ ap (λ k. elim k [ StmtKind-F.Local cs_type name value ↦ Some (Some (stmt c.place st.Empty)) | StmtKind-F.Expr b ↦ Some (Some (stmt c.place st.Empty)) | StmtKind-F.Empty ↦ Some None | _ ↦ None ]) st.outs-Empty;
}
start_begun _ us c _ i (cs.some p ts _ kind h) =
    let cut = cut_simple p ts (c ∷ us) kind h in
    record {
      pre = cut.pre;
      whole = cut.whole;
      kept = cut.kept;
      read =
          λ flat.
          bind_is (simple (cut.pre ++ c ∷ [])) (stmt p kind) started
          (simple_read (cut.pre ++ c ∷ []) (stmt p kind) flat (cs.simple no_jumps false p c (cut.pre ++ c ∷ []) [] kind (cut.any (c ∷ [])) i) (kind_simple p ts (c ∷ us) kind h))
          ∙ kind_started p ts (c ∷ us) kind h;
    }

-- the condition

record Held (us vs : List Token) (c : Token) (condition : Option Expr) : Type 0 where
  pre : List Token
  whole : us ≡ pre ++ c ∷ vs
  kept : clean pre ≡ true
  read : n.too_deep pre ≡ None → r.condition (pre ++ c ∷ []) ≡ Some condition

some_condition : (pre : List Token) (p : Place) (a : Expr) → Spells 0 p pre [] a → n.too_deep pre ≡ None → r.condition_of pre ≡ Some (Some a)
some_condition [] p a h flat = let first : false ≡ true = expression_first 0 p [] [] a h in absurd (cc)
some_condition (u ∷ pre) p a h flat = bind_is (plain (u ∷ pre)) a (λ a. Some (Some a)) (plain_complete (u ∷ pre) a flat (p, h))

condition_held : (us vs : List Token) (c : Token) (condition : Option Expr) → Condition us (c ∷ vs) condition → Held us vs c condition
condition_held _ vs c _ (cs.none _) = record { pre = []; whole = refl; kept = refl; read = λ flat. refl }
condition_held _ vs c _ (cs.some p us _ a h) =
    let cut = cut_spells 0 p us (c ∷ vs) a h in
    record {
      pre = cut.pre;
      whole = cut.whole;
      kept = cut.kept;
      read = λ flat. ap r.condition_of (without_is cut.pre c) ∙ some_condition cut.pre p a (subst (λ l. Spells 0 p l [] a) (no_more cut.pre) (cut.any [])) flat;
    }

-- the step

step_read : (vs : List Token) (c : Token) (step : Option Expr) → IsSign s.Semicolon c → n.too_deep vs ≡ None → Step vs [] step → r.step vs c ≡ Some step
step_read _ c _ i flat (cs.none _) =
    bind_is (simple (c ∷ [])) (stmt c.place st.Empty) r.act (simple_read (c ∷ []) (stmt c.place st.Empty) (flat_semicolon [] c i flat) (cs.empty no_jumps false c [] i) g.empty)
    ∙ ap (λ k. elim k [ StmtKind-F.Expr b ↦ Some (Some b) | StmtKind-F.Empty ↦ Some None | _ ↦ None ]) st.outs-Empty
step_read _ c _ i flat (cs.some p vs _ a h) =
    let cut = cut_acts p vs [] a h in
    let same : cut.pre ≡ vs = sym (cut.whole ∙ no_more cut.pre) in
    let acts : Acts p (vs ++ c ∷ []) (c ∷ []) a = subst (λ l. Acts p (l ++ c ∷ []) (c ∷ []) a) same (cut.any (c ∷ [])) in
    bind_is (simple (vs ++ c ∷ [])) (stmt p (st.Expr a)) r.act
    (simple_read (vs ++ c ∷ []) (stmt p (st.Expr a)) (flat_semicolon vs c i flat) (cs.simple no_jumps false p c (vs ++ c ∷ []) [] (st.Expr a) (cs.act p (vs ++ c ∷ []) (c ∷ []) a acts) i) (g.act a))
    ∙ ap (λ k. elim k [ StmtKind-F.Expr b ↦ Some (Some b) | StmtKind-F.Empty ↦ Some None | _ ↦ None ]) (st.outs-Expr a)

-- the head

more_after : (pre : List Token) (c : Token) (us : List Token) → pre ++ c ∷ us ≡ (pre ++ c ∷ []) ++ us
more_after [] c us = refl
more_after (u ∷ pre) c us = ap (λ l. u ∷ l) (more_after pre c us)

head_by : (one two : List Token) (c d : Token) (vs : List Token) (start : Option Stmt) (condition step : Option Expr) → Flat (one ++ c ∷ (two ++ d ∷ vs)) → clean one ≡ true → clean two ≡ true
    → IsSign s.Semicolon c → IsSign s.Semicolon d → (n.too_deep (one ++ c ∷ []) ≡ None → r.start (one ++ c ∷ []) ≡ Some start)
    → (n.too_deep two ≡ None → r.condition (two ++ d ∷ []) ≡ Some condition) → (n.too_deep vs ≡ None → r.step vs d ≡ Some step)
    → r.for_head (one ++ c ∷ (two ++ d ∷ vs)) ≡ Some (start, condition, step)
head_by one two c d vs start condition step f k1 k2 i j begin holds next =
    let us : List Token = two ++ d ∷ vs in
    let flat1 : n.too_deep (one ++ c ∷ []) ≡ None = f.flat [] (one ++ c ∷ []) us (more_after one c us) in
    let flat2 : n.too_deep two ≡ None = f.flat (one ++ c ∷ []) two (d ∷ vs) (more_after one c us) in
    let flat3 : n.too_deep vs ≡ None =
    f.flat ((one ++ c ∷ []) ++ (two ++ d ∷ [])) vs [] (more_after one c us ∙ ap (λ l. (one ++ c ∷ []) ++ l) (more_after two d vs) ∙ together (one ++ c ∷ []) (two ++ d ∷ []) vs) in
    bind_is (r.to_semicolon (one ++ c ∷ us)) (one ++ c ∷ [], us) (λ x. (r.to_semicolon x.1 >>= λ y. (r.last_of y.0 >>= λ semicolon.
    (r.start x.0 >>= λ begin. (r.condition y.0 >>= λ holds. (r.step y.1 semicolon >>= λ next. Some (begin, holds, next))))))) (to_semicolon_is one c us k1 i)
    ∙ bind_is (r.to_semicolon us) (two ++ d ∷ [], vs) (λ y. (r.last_of y.0 >>= λ semicolon.
    (r.start (one ++ c ∷ []) >>= λ begin. (r.condition y.0 >>= λ holds. (r.step y.1 semicolon >>= λ next. Some (begin, holds, next)))))) (to_semicolon_is two d vs k2 j)
    ∙ bind_is (r.last_of (two ++ d ∷ [])) d (λ semicolon.
    (r.start (one ++ c ∷ []) >>= λ begin. (r.condition (two ++ d ∷ []) >>= λ holds. (r.step vs semicolon >>= λ next. Some (begin, holds, next))))) (last_is two d)
    ∙ bind_is (r.start (one ++ c ∷ [])) start (λ begin. (r.condition (two ++ d ∷ []) >>= λ holds. (r.step vs d >>= λ next. Some (begin, holds, next)))) (begin flat1)
    ∙ bind_is (r.condition (two ++ d ∷ [])) condition (λ holds. (r.step vs d >>= λ next. Some (start, holds, next))) (holds flat2)
    ∙ bind_is (r.step vs d) step (λ next. Some (start, condition, next)) (next flat3)
  where
    together : (xs ys zs : List Token) → xs ++ (ys ++ zs) ≡ (xs ++ ys) ++ (zs ++ [])
    together [] ys zs = ap (λ l. ys ++ l) (sym (no_more zs))
    together (x ∷ xs) ys zs = ap (λ l. x ∷ l) (together xs ys zs)

pub for_head_complete : (ts : List Token) (start : Option Stmt) (condition step : Option Expr) → Flat ts → ForHead ts start condition step → r.for_head ts ≡ Some (start, condition, step)
for_head_complete _ _ _ _ f (g.head c d ts us vs start condition step h1 i h2 j h3) =
    let x = start_begun ts us c start i h1 in
    let y = condition_held us vs d condition h2 in
    let whole : ts ≡ x.pre ++ c ∷ (y.pre ++ d ∷ vs) = x.whole ∙ ap (λ l. x.pre ++ c ∷ l) y.whole in
    subst (λ l. r.for_head l ≡ Some (start, condition, step)) (sym whole)
    (head_by x.pre y.pre c d vs start condition step (subst Flat whole f) x.kept y.kept i j x.read y.read (λ flat. step_read vs d step j flat h3))
