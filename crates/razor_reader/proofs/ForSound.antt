-- What is read as the head of a `for` is spelled so.
use Rattle.std.proofs.Common.{◌≡◌, ℕ, List, [], ◌∷◌, ◌++◌, refl, sym, ap, ◌∙◌, subst}
use Rattle.std.specs.Prelude.{Bool, true, false, not, if◌then◌else◌, Option, Some, None}
use Rattle.text_core.specs.declared.place.Place.{Place}
use Rattle.cs_ast.specs.declared.expression.Expr.{Expr}
use Rattle.cs_ast.specs.declared.expression.Stmt.{Stmt}
use Rattle.cs_ast.specs.declared.expression.StmtKind.{StmtKind, StmtKind-F, out-StmtKind}
use Rattle.cs_ast.specs.declared.expression.StmtKind.TheVariants as st
use Rattle.cs_token.specs.declared.token.Token.{Token}
use Rattle.cs_token.specs.declared.token.TokenKind.TheVariants as t
use Rattle.cs_token.specs.declared.token.Sign.TheVariants as s
use Rattle.cs_grammar.specs.Expressions.{Spells}
use Rattle.cs_grammar.specs.Statements.{Statement, Start, Condition, Step, Simple, Acts, no_jumps, stmt}
use Rattle.cs_grammar.specs.Statements as cs
use Rattle.cs_grammar.specs.Tokens.{IsSign, ident}
use Rattle.razor_ast.specs.Statements.{ForHead}
use Rattle.razor_ast.specs.Statements as g
use Rattle.razor_reader.specs.declared.mark.Mark.TheVariants as mark
use Rattle.razor_reader.specs.Marks.{is_token}
use Rattle.razor_reader.specs.Reading.{◌>>=◌}
use Rattle.razor_reader.specs.CodeReading.{plain, simple}
use Rattle.razor_reader.specs.HeadReading as r
use Rattle.razor_reader.proofs.ReadLemmas.{bind_ok, moved}
use Rattle.razor_reader.proofs.MarkKinds.{token_semicolon}
use Rattle.razor_reader.proofs.MarkLemmas.{token_sure}
use Rattle.razor_reader.proofs.CodeSound.{plain_sound}
use Rattle.razor_reader.proofs.SimpleSound.{simple_of}
use Rattle.razor_reader.proofs.CutLemmas.{Cut, cut_spells, cut_acts, cut_simple}

-- lists by their last
no_snoc : (us : List Token) (c : Token) → us ++ c ∷ [] ≡ [] → ⊥
no_snoc [] c e = absurd (cc)
no_snoc (u ∷ us) c e = absurd (cc)

same_snoc : (us vs : List Token) (c d : Token) → us ++ c ∷ [] ≡ vs ++ d ∷ [] → (us ≡ vs) × (c ≡ d)
same_snoc [] [] c d e = (refl, cc)
same_snoc [] (v ∷ vs) c d e = let z : vs ++ d ∷ [] ≡ [] = cc in absurd (no_snoc vs d z)
same_snoc (u ∷ us) [] c d e = let z : us ++ c ∷ [] ≡ [] = cc in absurd (no_snoc us c z)
same_snoc (u ∷ us) (v ∷ vs) c d e =
    let z : us ++ c ∷ [] ≡ vs ++ d ∷ [] = cc in
    let y = same_snoc us vs c d z in
    let head : u ≡ v = cc in
    (ap (λ l. u ∷ l) y.0 ∙ ap (λ w. w ∷ vs) head, y.1)

no_more : (us : List Token) → us ++ [] ≡ us
no_more [] = refl
no_more (u ∷ us) = ap (λ l. u ∷ l) (no_more us)

-- tokens up to and with the first semicolon
record To (ts xs rest : List Token) : Type 0 where
  us : List Token
  c : Token
  tokens : xs ≡ us ++ c ∷ []
  is : IsSign s.Semicolon c
  whole : ts ≡ us ++ c ∷ rest

to_semicolon_whole : (ts xs rest : List Token) → r.to_semicolon ts ≡ Some (xs, rest) → To ts xs rest
to_semicolon_whole [] xs rest e = absurd (cc)
to_semicolon_whole (u ∷ ts) xs rest e = go (λ xs rest e. to_semicolon_whole ts xs rest e) (is_token mark.Semicolon u.kind) refl e
  where
    go : ((xs rest : List Token) → r.to_semicolon ts ≡ Some (xs, rest) → To ts xs rest) → (b : Bool) → is_token mark.Semicolon u.kind ≡ b →
        ◌≡◌ {A = Option (List Token × List Token)} (if b then Some (u ∷ [], ts) else (r.to_semicolon ts >>= λ x. Some (u ∷ x.0, x.1))) (Some (xs, rest)) → To (u ∷ ts) xs rest
    go more true i e = moved {A = List Token × List Token} (λ z. To (u ∷ ts) z.0 z.1) e
        (record { us = []; c = u; tokens = refl; is = token_sure mark.Semicolon (t.Sign s.Semicolon) u.kind token_semicolon i; whole = refl })
    go more false i e =
        let x = bind_ok (r.to_semicolon ts) _ _ e in
        let y = more x.0.0 x.0.1 x.1 in
        moved {A = List Token × List Token} (λ z. To (u ∷ ts) z.0 z.1) x.2
        (record { us = u ∷ y.us; c = y.c; tokens = ap (λ l. u ∷ l) y.tokens; is = y.is; whole = ap (λ l. u ∷ l) y.whole })

-- a statement as the beginning of a `for`
record StartOf (ts : List Token) (o : Option Stmt) : Type 0 where
  pre : List Token
  c : Token
  whole : ts ≡ pre ++ c ∷ []
  start : (rest : List Token) → Start (pre ++ c ∷ rest) (c ∷ rest) o

clash : {A B : Type 0} (x : Option B) (b : B) → x ≡ None → x ≡ Some b → A
clash x b e f = let z : None ≡ Some b = sym e ∙ f in absurd (cc)

start_simple : (p : Place) (c : Token) (ts : List Token) (kind : StmtKind) (o : Option Stmt) → Simple p ts (c ∷ []) kind → Some (stmt p kind) ≡ o → StartOf ts o
start_simple p c ts kind o h e =
    let x = cut_simple p ts (c ∷ []) kind h in
    record { pre = x.pre; c = c; whole = x.whole; start = λ rest. subst (Start (x.pre ++ c ∷ rest) (c ∷ rest)) e (cs.some p (x.pre ++ c ∷ rest) (c ∷ rest) kind (x.any (c ∷ rest))) }

got : {A : Type 0} (x : Option A) (a b : A) → x ≡ Some a → x ≡ Some b → a ≡ b
got x a b e f = let z : Some a ≡ Some b = sym e ∙ f in cc

start_from : (ts : List Token) (a : Stmt) (o : Option Stmt) → Statement no_jumps true ts [] a → (elim (out-StmtKind a.kind) [
  | StmtKind-F.Local cs_type name value ↦ Some (Some a)
  | StmtKind-F.Expr b ↦ Some (Some a)
  | StmtKind-F.Empty ↦ Some None
  | _ ↦ None
]) ≡ Some o → StartOf ts o
start_from ts a o (cs.simple _ _ p c _ _ kind (cs.local x _ n us vs _ b value h1 i1 h2) i) e =
    start_simple p c ts kind o (cs.local x p n us vs (c ∷ []) b value h1 i1 h2) (got _ (Some a) o (ap (λ x. elim x [ StmtKind-F.Local cs_type name value ↦ Some (Some a) | StmtKind-F.Expr b ↦ Some (Some a) | StmtKind-F.Empty ↦ Some None | _ ↦ None ]) (st.outs-Local b (ident n x) value)) e)
start_from ts a o (cs.simple _ _ p c _ _ kind (cs.act _ us _ b h) i) e =
    start_simple p c ts kind o (cs.act p us (c ∷ []) b h) (got _ (Some a) o (ap (λ x. elim x [ StmtKind-F.Local cs_type name value ↦ Some (Some a) | StmtKind-F.Expr b ↦ Some (Some a) | StmtKind-F.Empty ↦ Some None | _ ↦ None ]) (st.outs-Expr b)) e)
start_from ts a o (cs.empty _ _ c _ i) e =
    record { pre = []; c = c; whole = refl; start = λ rest. subst (Start (c ∷ rest) (c ∷ rest)) (got _ None o (ap (λ x. elim x [ StmtKind-F.Local cs_type name value ↦ Some (Some a) | StmtKind-F.Expr b ↦ Some (Some a) | StmtKind-F.Empty ↦ Some None | _ ↦ None ]) st.outs-Empty) e) (cs.none (c ∷ rest)) }
start_from ts a o (cs.block _ _ q c us _ body i h k) e = clash _ o (ap (λ x. elim x [ StmtKind-F.Local cs_type name value ↦ Some (Some a) | StmtKind-F.Expr b ↦ Some (Some a) | StmtKind-F.Empty ↦ Some None | _ ↦ None ]) (st.outs-Block body)) e
start_from ts a o (cs.if_else _ _ p t q c d us vs xs _ b first other i1 i2 h i3 k i4 l) e = clash _ o (ap (λ x. elim x [ StmtKind-F.Local cs_type name value ↦ Some (Some a) | StmtKind-F.Expr b ↦ Some (Some a) | StmtKind-F.Empty ↦ Some None | _ ↦ None ]) (st.outs-If b first (Some other))) e
start_from ts a o (cs.while_ _ _ p t q c us vs _ b body i1 i2 h i3 k) e = clash _ o (ap (λ x. elim x [ StmtKind-F.Local cs_type name value ↦ Some (Some a) | StmtKind-F.Expr b ↦ Some (Some a) | StmtKind-F.Empty ↦ Some None | _ ↦ None ]) (st.outs-While b body)) e
start_from ts a o (cs.for_ _ _ t q m n c us vs xs ys _ begin condition next body i1 i2 h1 i3 h2 i4 h3 i5 body_k) e = clash _ o (ap (λ x. elim x [ StmtKind-F.Local cs_type name value ↦ Some (Some a) | StmtKind-F.Expr b ↦ Some (Some a) | StmtKind-F.Empty ↦ Some None | _ ↦ None ]) (st.outs-For begin condition next body)) e
start_from ts a o (cs.foreach_ _ _ x p t q v n i c us vs _ b body i1 i2 i3 i4 i5 h i6 k) e = clash _ o (ap (λ x. elim x [ StmtKind-F.Local cs_type name value ↦ Some (Some a) | StmtKind-F.Expr b ↦ Some (Some a) | StmtKind-F.Empty ↦ Some None | _ ↦ None ]) (st.outs-ForEach (ident n x) b body)) e
start_from ts a o (cs.switch_ _ _ p t q c b d us vs _ x sections i1 i2 h i3 i4 k i5) e = clash _ o (ap (λ x. elim x [ StmtKind-F.Local cs_type name value ↦ Some (Some a) | StmtKind-F.Expr b ↦ Some (Some a) | StmtKind-F.Empty ↦ Some None | _ ↦ None ]) (st.outs-Switch x sections)) e
start_from ts a o (cs.await_ _ _ p q r t n c us _ b bs i1 h i2) e = clash _ o (ap (λ x. elim x [ StmtKind-F.Local cs_type name value ↦ Some (Some a) | StmtKind-F.Expr b ↦ Some (Some a) | StmtKind-F.Empty ↦ Some None | _ ↦ None ]) (st.outs-Await _)) e
start_from ts a o (cs.break_ _ _ t c _ j i1 i2) e = clash _ o (ap (λ x. elim x [ StmtKind-F.Local cs_type name value ↦ Some (Some a) | StmtKind-F.Expr b ↦ Some (Some a) | StmtKind-F.Empty ↦ Some None | _ ↦ None ]) (st.outs-Break)) e
start_from ts a o (cs.continue_ _ _ t c _ j i1 i2) e = clash _ o (ap (λ x. elim x [ StmtKind-F.Local cs_type name value ↦ Some (Some a) | StmtKind-F.Expr b ↦ Some (Some a) | StmtKind-F.Empty ↦ Some None | _ ↦ None ]) (st.outs-Continue)) e
start_from ts a o (cs.return_ _ _ t c us _ value i1 h i2) e = clash _ o (ap (λ x. elim x [ StmtKind-F.Local cs_type name value ↦ Some (Some a) | StmtKind-F.Expr b ↦ Some (Some a) | StmtKind-F.Empty ↦ Some None | _ ↦ None ]) (st.outs-Return value)) e

start_sound : (us : List Token) (c : Token) (o : Option Stmt) (rest : List Token) → r.start (us ++ c ∷ []) ≡ Some o → Start (us ++ c ∷ rest) (c ∷ rest) o
start_sound us c o rest e =
    let x = bind_ok (simple (us ++ c ∷ [])) _ _ e in
    let y = simple_of (us ++ c ∷ []) x.0 x.1 in
    let z = start_from (us ++ c ∷ []) x.0 o y.spelled x.2 in
    let same = same_snoc z.pre us z.c c (sym z.whole) in
    subst (λ (d : Token). Start (us ++ d ∷ rest) (d ∷ rest) o) same.1 (subst (λ (l : List Token). Start (l ++ z.c ∷ rest) (z.c ∷ rest) o) same.0 (z.start rest))

without_whole : (us : List Token) (c : Token) → r.without_last (us ++ c ∷ []) ≡ us
without_whole [] c = refl
without_whole (u ∷ []) c = refl
without_whole (u ∷ v ∷ us) c = ap (λ l. u ∷ l) (without_whole (v ∷ us) c)

condition_sound : (us : List Token) (o : Option Expr) (rest : List Token) → r.condition_of us ≡ Some o → Condition (us ++ rest) rest o
condition_sound [] o rest e = moved {A = Option Expr} (Condition rest rest) e (cs.none rest)
condition_sound (u ∷ us) o rest e =
    let x = bind_ok (plain (u ∷ us)) _ _ e in
    let h = plain_sound (u ∷ us) x.0 x.1 in
    let d = cut_spells 0 h.0 (u ∷ us) [] x.0 h.1 in
    let same : d.pre ≡ u ∷ us = sym (no_more d.pre) ∙ sym d.whole in
    moved {A = Option Expr} (Condition (u ∷ us ++ rest) rest) x.2
    (cs.some h.0 (u ∷ us ++ rest) rest x.0 (subst (λ (l : List Token). Spells 0 h.0 (l ++ rest) rest x.0) same (d.any rest)))

step_act : (us : List Token) (m c : Token) (p : Place) (b : Expr) → Acts p (us ++ m ∷ []) (c ∷ []) b → Step us [] (Some b)
step_act us m c p b h =
    let x = cut_acts p (us ++ m ∷ []) (c ∷ []) b h in
    let same = same_snoc us x.pre m c x.whole in
    cs.some p us [] b (subst (λ (l : List Token). Acts p l [] b) (no_more x.pre ∙ sym same.0) (x.any []))

step_from : (ts us : List Token) (m : Token) (a : Stmt) (o : Option Expr) → ts ≡ us ++ m ∷ [] → Statement no_jumps true ts [] a → r.act a ≡ Some o → Step us [] o
step_from ts us m a o w (cs.simple _ _ p c _ _ kind (cs.local x _ n ws vs _ b value h1 i1 h2) i) e = clash _ o (ap (λ x. elim x [ StmtKind-F.Expr b ↦ Some (Some b) | StmtKind-F.Empty ↦ Some None | _ ↦ None ]) (st.outs-Local b (ident n x) value)) e
step_from ts us m a o w (cs.simple _ _ p c _ _ kind (cs.act _ ws _ b h) i) e =
    subst (Step us []) (got _ (Some b) o (ap (λ x. elim x [ StmtKind-F.Expr b ↦ Some (Some b) | StmtKind-F.Empty ↦ Some None | _ ↦ None ]) (st.outs-Expr b)) e) (step_act us m c p b (subst (λ (l : List Token). Acts p l (c ∷ []) b) w h))
step_from ts us m a o w (cs.empty _ _ c _ i) e =
    let same = same_snoc [] us c m w in
    subst (Step us []) (got _ None o (ap (λ x. elim x [ StmtKind-F.Expr b ↦ Some (Some b) | StmtKind-F.Empty ↦ Some None | _ ↦ None ]) st.outs-Empty) e) (subst (λ (l : List Token). Step l [] None) same.0 (cs.none []))
step_from ts us m a o w (cs.block _ _ q c ws _ body i h k) e = clash _ o (ap (λ x. elim x [ StmtKind-F.Expr b ↦ Some (Some b) | StmtKind-F.Empty ↦ Some None | _ ↦ None ]) (st.outs-Block body)) e
step_from ts us m a o w (cs.if_else _ _ p t q c d ws vs xs _ b first other i1 i2 h i3 k i4 l) e = clash _ o (ap (λ x. elim x [ StmtKind-F.Expr b ↦ Some (Some b) | StmtKind-F.Empty ↦ Some None | _ ↦ None ]) (st.outs-If b first (Some other))) e
step_from ts us m a o w (cs.while_ _ _ p t q c ws vs _ b body i1 i2 h i3 k) e = clash _ o (ap (λ x. elim x [ StmtKind-F.Expr b ↦ Some (Some b) | StmtKind-F.Empty ↦ Some None | _ ↦ None ]) (st.outs-While b body)) e
step_from ts us m a o w (cs.for_ _ _ t q k n c ws vs xs ys _ begin condition next body i1 i2 h1 i3 h2 i4 h3 i5 body_k) e = clash _ o (ap (λ x. elim x [ StmtKind-F.Expr b ↦ Some (Some b) | StmtKind-F.Empty ↦ Some None | _ ↦ None ]) (st.outs-For begin condition next body)) e
step_from ts us m a o w (cs.foreach_ _ _ x p t q v n i c ws vs _ b body i1 i2 i3 i4 i5 h i6 k) e = clash _ o (ap (λ x. elim x [ StmtKind-F.Expr b ↦ Some (Some b) | StmtKind-F.Empty ↦ Some None | _ ↦ None ]) (st.outs-ForEach (ident n x) b body)) e
step_from ts us m a o w (cs.switch_ _ _ p t q c b d ws vs _ x sections i1 i2 h i3 i4 k i5) e = clash _ o (ap (λ x. elim x [ StmtKind-F.Expr b ↦ Some (Some b) | StmtKind-F.Empty ↦ Some None | _ ↦ None ]) (st.outs-Switch x sections)) e
step_from ts us m a o w (cs.await_ _ _ p q r t n c ws _ b bs i1 h i2) e = clash _ o (ap (λ x. elim x [ StmtKind-F.Expr b ↦ Some (Some b) | StmtKind-F.Empty ↦ Some None | _ ↦ None ]) (st.outs-Await _)) e
step_from ts us m a o w (cs.break_ _ _ t c _ j i1 i2) e = clash _ o (ap (λ x. elim x [ StmtKind-F.Expr b ↦ Some (Some b) | StmtKind-F.Empty ↦ Some None | _ ↦ None ]) (st.outs-Break)) e
step_from ts us m a o w (cs.continue_ _ _ t c _ j i1 i2) e = clash _ o (ap (λ x. elim x [ StmtKind-F.Expr b ↦ Some (Some b) | StmtKind-F.Empty ↦ Some None | _ ↦ None ]) (st.outs-Continue)) e
step_from ts us m a o w (cs.return_ _ _ t c ws _ value i1 h i2) e = clash _ o (ap (λ x. elim x [ StmtKind-F.Expr b ↦ Some (Some b) | StmtKind-F.Empty ↦ Some None | _ ↦ None ]) (st.outs-Return value)) e

pub for_sound : (ts : List Token) (start : Option Stmt) (condition step : Option Expr) → r.for_head ts ≡ Some (start, condition, step) → ForHead ts start condition step
for_sound ts start condition step e =
    let x = bind_ok (r.to_semicolon ts) _ _ e in
    let y = bind_ok (r.to_semicolon x.0.1) _ _ x.2 in
    let z = bind_ok (r.last_of y.0.0) _ _ y.2 in
    let a = bind_ok (r.start x.0.0) _ _ z.2 in
    let b = bind_ok (r.condition y.0.0) _ _ a.2 in
    let d = bind_ok (r.step y.0.1 z.0) _ _ b.2 in
    let u = to_semicolon_whole ts x.0.0 x.0.1 x.1 in
    let v = to_semicolon_whole x.0.1 y.0.0 y.0.1 y.1 in
    let f = bind_ok (simple (y.0.1 ++ z.0 ∷ [])) _ _ d.1 in
    let q = simple_of (y.0.1 ++ z.0 ∷ []) f.0 f.1 in
    moved {A = r.ForParts} (λ w. ForHead ts w.0 w.1 w.2) d.2
    (g.head u.c v.c ts x.0.1 y.0.1 a.0 b.0 d.0
    (subst (λ (l : List Token). Start l (u.c ∷ x.0.1) a.0) (sym u.whole) (start_sound u.us u.c a.0 x.0.1 (ap r.start (sym u.tokens) ∙ a.1))) u.is
    (subst (λ (l : List Token). Condition l (v.c ∷ y.0.1) b.0) (sym v.whole)
    (condition_sound v.us b.0 (v.c ∷ y.0.1) (ap r.condition_of (sym (ap r.without_last v.tokens ∙ without_whole v.us v.c)) ∙ b.1))) v.is
    (step_from (y.0.1 ++ z.0 ∷ []) y.0.1 z.0 f.0 d.0 refl q.spelled f.2))
