-- What is read as a local, a change or a call is one.
use Rattle.std.proofs.Common.{◌≡◌, ℕ, List, [], ◌∷◌, length, refl, sym, ap, ◌∙◌, subst}
use Rattle.std.specs.Prelude.{Bool, true, false, if◌then◌else◌, Option, Some, None}
use Rattle.text_core.specs.declared.place.Place.{Place}
use Rattle.cs_ast.specs.declared.cs_type.TypeExpr.{TypeExpr}
use Rattle.cs_ast.specs.declared.expression.Expr.{Expr}
use Rattle.cs_ast.specs.declared.expression.ExprKind.TheVariants as ek
use Rattle.cs_ast.specs.declared.expression.Stmt.{Stmt}
use Rattle.cs_ast.specs.declared.expression.StmtKind.{StmtKind}
use Rattle.cs_ast.specs.declared.expression.StmtKind.TheVariants as st
use Rattle.cs_ast.specs.declared.identifier.Ident.{Ident}
use Rattle.cs_ast.specs.declared.operators.AssignOp.{AssignOp}
use Rattle.cs_ast.specs.declared.operators.StepOp.{StepOp}
use Rattle.cs_token.specs.declared.token.Token.{Token}
use Rattle.cs_token.specs.declared.token.TokenKind.{TokenKind}
use Rattle.cs_token.specs.declared.token.TokenKind.TheVariants as k
use Rattle.cs_token.specs.declared.token.Sign.{Sign}
use Rattle.cs_token.specs.declared.token.Sign.TheVariants as s
use Rattle.cs_token.specs.declared.token.Word.{Word}
use Rattle.cs_token.specs.declared.token.Word.TheVariants as w
use Rattle.cs_grammar.specs.Tokens.{IsSign, IsWord, IsName, ident}
use Rattle.cs_grammar.specs.Tables.{assignment, step_operator}
use Rattle.cs_grammar.specs.Expressions.{node, Spells}
use Rattle.cs_grammar.specs.Statements.{stmt, Changes, Acts, Declares, Initial, Simple, Start, Condition, Step}
use Rattle.cs_grammar.specs.Statements as g
use Rattle.cs_parse.specs.declared.statement.simple.Change.{Change}
use Rattle.cs_parse.specs.declared.statement.simple.Change.TheVariants as c
use Rattle.cs_parse.specs.Reading.{Read, ◌>>=◌, after, name_first, has_sign}
use Rattle.cs_parse.specs.TypeReading.{type_first}
use Rattle.cs_parse.specs.ExpressionReading.{expr_first}
use Rattle.cs_parse.specs.TreeViews.{is_call}
use Rattle.cs_parse.specs.SimpleReading as r
use Rattle.cs_parse.specs.SimpleReading.{after_word, place_first, change_of, changing, change_first, simple, simple_first, start_first, condition_first, step_first}
use Rattle.cs_parse.proofs.TokenLemmas.{bind_ok, moved, after_ok, name_ok, name_yes}
use Rattle.cs_parse.proofs.TypeSound.{type_sound}
use Rattle.cs_parse.proofs.ExpressionSound.{first_sound, used_0}
use Rattle.cs_parse.proofs.HeadLemmas.{Heads, expression_heads, type_heads}
use Rattle.cs_parse.proofs.ShrinkLemmas.{after_word_ok, kept, passed}
use Rattle.cs_parse.proofs.TreeLemmas.{call_form}

-- an expression of level 0
pub record Spelled (ts : List Token) (a : Expr) (rest : List Token) : Type 0 where
  pub p : Place
  pub spells : Spells 0 p ts rest a

pub expression_ok : (ts : List Token) (a : Expr) (rest : List Token) → expr_first 0 ts ≡ Some (a, rest) → Spelled ts a rest
expression_ok ts a rest e = let x = first_sound 0 ts a rest used_0 e in record { p = x.0; spells = x.1.spells }

pub heads_place : (p : Place) (ts rest : List Token) → Heads p ts rest → place_first ts ≡ Some p
heads_place p ts rest x = ap place_first x.whole ∙ ap Some (sym x.place)

-- one place stands first
same_place : (p q : Place) (ts : List Token) → place_first ts ≡ Some p → place_first ts ≡ Some q → p ≡ q
same_place p q ts e f = let z : Some p ≡ Some q = sym e ∙ f in cc

record Named (ts : List Token) (n : Ident) (rest : List Token) : Type 0 where
  t : Token
  x : List ℕ
  whole : ts ≡ t ∷ rest
  name : IsName x t
  same : n ≡ ident t x

named : (ts rest : List Token) (n : Ident) → name_first ts ≡ Some (n, rest) → Named ts n rest
named ts rest n e = let y = name_ok ts rest n e in record { t = y.0; x = y.1; whole = y.2; name = y.3; same = y.4 }

-- a name, and the sign that changes it
record Changing (ts : List Token) (change : Change) (rest : List Token) : Type 0 where
  n : Token
  t : Token
  x : List ℕ
  sign : Sign
  whole : ts ≡ n ∷ t ∷ rest
  name : IsName x n
  is : IsSign sign t
  change_is : change_of sign ≡ Some change

is_a_name : (n : Token) → r.is_name n.kind ≡ true → (x : List ℕ) × IsName x n
is_a_name n e = go n.kind refl e
  where
    go : (kind : TokenKind) → n.kind ≡ kind → r.is_name kind ≡ true → (x : List ℕ) × IsName x n
    go (k.Name x) i e = (x, i)
    go _ i e = absurd (cc)

is_a_change : (t : Token) (change : Change) → changing t.kind ≡ Some change → (sign : Sign) × IsSign sign t × (change_of sign ≡ Some change)
is_a_change t change e = go t.kind refl e
  where
    go : (kind : TokenKind) → t.kind ≡ kind → changing kind ≡ Some change → (sign : Sign) × IsSign sign t × (change_of sign ≡ Some change)
    go (k.Sign sign) i e = (sign, i, e)
    go _ i e = absurd (cc)

change_ok : (ts : List Token) (change : Change) (rest : List Token) → change_first ts ≡ Some (change, rest) → Changing ts change rest
change_ok [] change rest e = absurd (cc)
change_ok (n ∷ []) change rest e = absurd (cc)
change_ok (n ∷ t ∷ ts) change rest e =
    let q = passed (r.is_name n.kind) (changing t.kind >>= λ y. Some (y, ts)) (change, rest) e in
    let d = bind_ok (changing t.kind) _ _ q.1 in
    let x = is_a_name n q.0 in
    let y = is_a_change t d.0 d.1 in
    moved (λ z. Changing (n ∷ t ∷ ts) z.0 z.1) d.2 (record { n = n; t = t; x = x.0; sign = y.0; whole = refl; name = x.1; is = y.1; change_is = y.2 })

assign_of : (sign : Sign) (op : AssignOp) → change_of sign ≡ Some (c.Assign op) → assignment sign ≡ Some op
assign_of sign op e = go (assignment sign) e
  where
    go : (o : Option AssignOp) → ◌≡◌ {A = Option Change} (elim o [ Some p ↦ Some (c.Assign p) | None ↦ r.step_of sign ]) (Some (c.Assign op)) → o ≡ Some op
    go (Some p) e = cc
    go None e = no_step (step_operator sign) e
      where
        no_step : (o : Option StepOp) → ◌≡◌ {A = Option Change} (elim o [ Some p ↦ Some (c.Step p) | None ↦ None ]) (Some (c.Assign op)) → None ≡ Some op
        no_step (Some p) e = absurd (cc)
        no_step None e = absurd (cc)

step_is : (sign : Sign) (op : StepOp) → change_of sign ≡ Some (c.Step op) → step_operator sign ≡ Some op
step_is sign op e = go (assignment sign) e
  where
    one : (o : Option StepOp) → ◌≡◌ {A = Option Change} (elim o [ Some p ↦ Some (c.Step p) | None ↦ None ]) (Some (c.Step op)) → o ≡ Some op
    one (Some p) e = cc
    one None e = absurd (cc)

    go : (o : Option AssignOp) → ◌≡◌ {A = Option Change} (elim o [ Some p ↦ Some (c.Assign p) | None ↦ r.step_of sign ]) (Some (c.Step op)) → step_operator sign ≡ Some op
    go (Some p) e = absurd (cc)
    go None e = one (step_operator sign) e

changed_sound : (change : Change) (n t : Token) (x : List ℕ) (sign : Sign) (us : List Token) (a : Expr) (rest : List Token) → IsName x n → IsSign sign t → change_of sign ≡ Some change →
    r.changed change (ident n x) us ≡ Some (a, rest) → Changes n.place (n ∷ t ∷ us) rest a
changed_sound (c.Assign op) n t x sign us a rest i1 i2 m e =
    let d = bind_ok (expr_first 0 us) _ _ e in
    let y = expression_ok us d.0.0 d.0.1 d.1 in
    moved (λ z. Changes n.place (n ∷ t ∷ us) z.1 z.0) d.2 (g.assign x sign op y.p n t us d.0.1 d.0.0 i1 i2 (assign_of sign op m) y.spells)
changed_sound (c.Step op) n t x sign us a rest i1 i2 m e =
    moved (λ z. Changes n.place (n ∷ t ∷ us) z.1 z.0) e (g.step x sign op n t us i1 i2 (step_is sign op m))

-- what is read stands at the first place
record At (P : Place → Type 0) (ts : List Token) : Type 0 where
  p : Place
  place : place_first ts ≡ Some p
  is : P p

placed : (P : Place → Type 0) (ts : List Token) (p : Place) → place_first ts ≡ Some p → At P ts → P p
placed P ts p e x = subst P (same_place x.p p ts x.place e) x.is

changes_sound : (ts us : List Token) (change : Change) (a : Expr) (rest : List Token) → Changing ts change us →
    (name_first ts >>= λ n. r.changed change n.0 us) ≡ Some (a, rest) → At (λ p. Acts p ts rest a) ts
changes_sound ts us change a rest y e =
    let named_so : name_first ts ≡ Some (ident y.n y.x, y.t ∷ us) = ap name_first y.whole ∙ name_yes y.x y.n (y.t ∷ us) y.name in
    let f : r.changed change (ident y.n y.x) us ≡ Some (a, rest) = ap (λ o. o >>= λ n. r.changed change n.0 us) (sym named_so) ∙ e in
    let z = changed_sound change y.n y.t y.x y.sign us a rest y.name y.is y.change_is f in
    subst (λ l. At (λ p. Acts p l rest a) l) (sym y.whole) (record { p = y.n.place; place = refl; is = g.change y.n.place (y.n ∷ y.t ∷ us) rest a z })

called_sound : (ts : List Token) (a : Expr) (rest : List Token) → r.called ts ≡ Some (a, rest) → At (λ p. Acts p ts rest a) ts
called_sound ts a rest e =
    let d = bind_ok (expr_first 0 ts) _ _ e in
    let q = kept (is_call d.0.0) d.0 (a, rest) d.2 in
    let y = expression_ok ts d.0.0 d.0.1 d.1 in
    let form = call_form d.0.0 q.0 in
    subst (λ z. At (λ p. Acts p ts z.1 z.0) ts) q.1 (record {
      p = y.p;
      place = heads_place y.p ts d.0.1 (expression_heads 0 y.p ts d.0.1 d.0.0 y.spells);
      is = subst (λ z. Acts y.p ts d.0.1 z) (sym form.whole) (g.call y.p d.0.0.place ts d.0.1 form.f form.bs (subst (λ z. Spells 0 y.p ts d.0.1 z) form.whole y.spells));
    })

act_at : (ts : List Token) (a : Expr) (rest : List Token) → r.act ts ≡ Some (a, rest) → At (λ p. Acts p ts rest a) ts
act_at ts a rest e = split (change_first ts) refl e
  where
    split : (o : Option (Change × List Token)) → change_first ts ≡ o → ◌≡◌ {A = Read Expr} (elim o [ Some y ↦ name_first ts >>= (λ n. r.changed y.0 n.0 y.1) | None ↦ r.called ts ]) (Some (a, rest)) →
        At (λ p. Acts p ts rest a) ts
    split (Some y) m e = changes_sound ts y.1 y.0 a rest (change_ok ts y.0 y.1 m) e
    split None m e = called_sound ts a rest e

initial_sound : (ts : List Token) (value : Option Expr) (rest : List Token) → r.initial ts ≡ Some (value, rest) → Initial ts rest value
initial_sound ts value rest e = split (after s.Assign ts) refl e
  where
    split : (o : Option (List Token)) → after s.Assign ts ≡ o → ◌≡◌ {A = Read (Option Expr)} (elim o [ Some q ↦ expr_first 0 q >>= r.some | None ↦ Some (None, ts) ]) (Some (value, rest)) → Initial ts rest value
    split (Some q) m e =
        let d = bind_ok (expr_first 0 q) _ _ e in
        let t = after_ok s.Assign ts q m in
        let y = expression_ok q d.0.0 d.0.1 d.1 in
        moved (λ z. Initial ts z.1 z.0) d.2 (subst (λ l. Initial l d.0.1 (Some d.0.0)) (sym t.1) (g.some y.p t.0 q d.0.1 d.0.0 t.2 y.spells))
    split None m e = moved (λ z. Initial ts z.1 z.0) e (g.none ts)

declares_sound : (ts : List Token) (a : Option TypeExpr) (rest : List Token) → r.type_or_var ts ≡ Some (a, rest) → At (λ p. Declares p ts rest a) ts
declares_sound ts a rest e = split (after_word w.Var ts) refl e
  where
    split : (o : Option (List Token)) → after_word w.Var ts ≡ o → ◌≡◌ {A = Read (Option TypeExpr)} (elim o [ Some q ↦ Some (None, q) | None ↦ type_first ts >>= r.some ]) (Some (a, rest)) →
        At (λ p. Declares p ts rest a) ts
    split (Some q) m e =
        let t = after_word_ok w.Var ts q m in
        moved (λ z. At (λ p. Declares p ts z.1 z.0) ts) e
        (subst (λ l. At (λ p. Declares p l q None) l) (sym t.1) (record { p = t.0.place; place = refl; is = g.by_value t.0 q t.2 }))
    split None m e =
        let d = bind_ok (type_first ts) _ _ e in
        let y = type_sound ts d.0.0 d.0.1 d.1 in
        moved (λ z. At (λ p. Declares p ts z.1 z.0) ts) d.2 (record {
          p = d.0.0.place;
          place = heads_place d.0.0.place ts d.0.1 (type_heads ts d.0.1 d.0.0 y);
          is = g.by_type ts d.0.1 d.0.0 y;
        })

local_sound : (ts us : List Token) (a : Option TypeExpr) (kind : StmtKind) (rest : List Token) → At (λ p. Declares p ts us a) ts → r.local a us ≡ Some (kind, rest) → At (λ p. Simple p ts rest kind) ts
local_sound ts us a kind rest x e =
    let d = bind_ok (name_first us) _ _ e in
    let n = named us d.0.1 d.0.0 d.1 in
    let f = bind_ok (r.initial d.0.1) _ _ d.2 in
    let v = initial_sound d.0.1 f.0.0 f.0.1 f.1 in
    moved (λ z. At (λ p. Simple p ts z.1 z.0) ts) f.2 (record {
      p = x.p;
      place = x.place;
      is = subst (λ j. Simple x.p ts f.0.1 (st.Local a j f.0.0)) (sym n.same)
          (g.local n.x x.p n.t ts d.0.1 f.0.1 a f.0.0 (subst (λ l. Declares x.p ts l a) n.whole x.is) n.name v);
    })

simple_at : (ts : List Token) (kind : StmtKind) (rest : List Token) → simple ts ≡ Some (kind, rest) → At (λ p. Simple p ts rest kind) ts
simple_at ts kind rest e = split (r.local_type ts) refl e
  where
    split : (o : Read (Option TypeExpr)) → r.local_type ts ≡ o →
        ◌≡◌ {A = Read StmtKind} (elim o [ Some y ↦ r.local y.0 y.1 | None ↦ r.act ts >>= (λ y. Some (st.Expr y.0, y.1)) ]) (Some (kind, rest)) → At (λ p. Simple p ts rest kind) ts
    split (Some y) m e =
        let d = bind_ok (r.type_or_var ts) _ _ m in
        let q = kept (r.has_name d.0.1) d.0 y d.2 in
        local_sound ts y.1 y.0 kind rest (subst (λ z. At (λ p. Declares p ts z.1 z.0) ts) q.1 (declares_sound ts d.0.0 d.0.1 d.1)) e
    split None m e =
        let d = bind_ok (r.act ts) _ _ e in
        let y = act_at ts d.0.0 d.0.1 d.1 in
        moved (λ z. At (λ p. Simple p ts z.1 z.0) ts) d.2 (record { p = y.p; place = y.place; is = g.act y.p ts d.0.1 d.0.0 y.is })

-- a local, a change or a call at its place
pub record Whole (ts : List Token) (a : Stmt) (rest : List Token) : Type 0 where
  pub p : Place
  pub kind : StmtKind
  pub is : Simple p ts rest kind
  pub same : a ≡ stmt p kind
  pub place : place_first ts ≡ Some p

pub simple_sound : (ts : List Token) (a : Stmt) (rest : List Token) → simple_first ts ≡ Some (a, rest) → Whole ts a rest
simple_sound ts a rest e =
    let q = bind_ok (place_first ts) _ _ e in
    let d = bind_ok (simple ts) _ _ q.2 in
    let y = simple_at ts d.0.0 d.0.1 d.1 in
    moved (λ z. Whole ts z.0 z.1) d.2 (record { p = q.0; kind = d.0.0; is = placed (λ p. Simple p ts d.0.1 d.0.0) ts q.0 q.1 y; same = refl; place = q.1 })

pub condition_sound : (ts : List Token) (value : Option Expr) (rest : List Token) → condition_first ts ≡ Some (value, rest) → Condition ts rest value
condition_sound ts value rest e = split (has_sign s.Semicolon ts) e
  where
    split : (d : Bool) → ◌≡◌ {A = Read (Option Expr)} (if d then Some (None, ts) else (expr_first 0 ts >>= r.some)) (Some (value, rest)) → Condition ts rest value
    split true e = moved (λ z. Condition ts z.1 z.0) e (g.none ts)
    split false e = let d = bind_ok (expr_first 0 ts) _ _ e in let y = expression_ok ts d.0.0 d.0.1 d.1 in moved (λ z. Condition ts z.1 z.0) d.2 (g.some y.p ts d.0.1 d.0.0 y.spells)

pub step_sound : (ts : List Token) (value : Option Expr) (rest : List Token) → step_first ts ≡ Some (value, rest) → Step ts rest value
step_sound ts value rest e = split (has_sign s.CloseRound ts) e
  where
    split : (d : Bool) → ◌≡◌ {A = Read (Option Expr)} (if d then Some (None, ts) else (r.act ts >>= r.some)) (Some (value, rest)) → Step ts rest value
    split true e = moved (λ z. Step ts z.1 z.0) e (g.none ts)
    split false e = let d = bind_ok (r.act ts) _ _ e in let y = act_at ts d.0.0 d.0.1 d.1 in moved (λ z. Step ts z.1 z.0) d.2 (g.some y.p ts d.0.1 d.0.0 y.is)

pub start_sound : (ts : List Token) (value : Option Stmt) (rest : List Token) → start_first ts ≡ Some (value, rest) → Start ts rest value
start_sound ts value rest e = split (has_sign s.Semicolon ts) e
  where
    split : (d : Bool) → ◌≡◌ {A = Read (Option Stmt)} (if d then Some (None, ts) else (simple_first ts >>= r.some)) (Some (value, rest)) → Start ts rest value
    split true e = moved (λ z. Start ts z.1 z.0) e (g.none ts)
    split false e =
        let d = bind_ok (simple_first ts) _ _ e in
        let y = simple_sound ts d.0.0 d.0.1 d.1 in
        moved (λ z. Start ts z.1 z.0) d.2 (subst (λ j. Start ts d.0.1 (Some j)) (sym y.same) (g.some y.p ts d.0.1 y.kind y.is))
