-- What is read as a lambda is spelled so.
use Rattle.std.proofs.Common.{◌≡◌, ℕ, List, [], ◌∷◌, refl, sym, ap, ◌∙◌, subst}
use Rattle.std.specs.Prelude.{Bool, true, false, if◌then◌else◌, Option, Some, None}
use Rattle.text_core.specs.declared.place.Place.{Place}
use Rattle.cs_ast.specs.declared.expression.Body.{Body}
use Rattle.cs_ast.specs.declared.expression.Body.TheVariants as body
use Rattle.cs_ast.specs.declared.expression.Expr.{Expr}
use Rattle.cs_ast.specs.declared.expression.ExprKind.TheVariants as ek
use Rattle.cs_ast.specs.declared.expression.Stmt.{Stmt}
use Rattle.cs_ast.specs.declared.identifier.Ident.{Ident}
use Rattle.cs_ast.specs.declared.operators.AssignOp.{AssignOp}
use Rattle.cs_ast.specs.declared.operators.StepOp.{StepOp}
use Rattle.cs_token.specs.declared.token.Token.{Token}
use Rattle.cs_token.specs.declared.token.TokenKind.{TokenKind}
use Rattle.cs_token.specs.declared.token.TokenKind.TheVariants as k
use Rattle.cs_token.specs.declared.token.Sign.{Sign}
use Rattle.cs_token.specs.declared.token.Sign.TheVariants as s
use Rattle.cs_grammar.specs.Tokens.{IsSign, IsName, ident}
use Rattle.cs_grammar.specs.Tables.{assignment, step_operator}
use Rattle.cs_grammar.specs.Expressions.{Spells, node}
use Rattle.cs_grammar.specs.Statements.{Statements, Changes, no_jumps}
use Rattle.cs_grammar.specs.Statements as gs
use Rattle.cs_grammar.specs.Lambdas.{LambdaBody, Spelled}
use Rattle.cs_grammar.specs.Lambdas as g
use Rattle.cs_parse.specs.declared.statement.simple.Change.{Change}
use Rattle.cs_parse.specs.declared.statement.simple.Change.TheVariants as c
use Rattle.cs_parse.specs.Reading.{Read, ◌>>=◌, after, named, name_first}
use Rattle.cs_parse.specs.ExpressionReading.{expr_first}
use Rattle.cs_parse.specs.SimpleReading.{is_name, place_first, step_of, change_of, changing, change_first, changed}
use Rattle.cs_parse.specs.StatementReading.{statements_first, nowhere}
use Rattle.cs_parse.specs.MemberReading.{block_body}
use Rattle.cs_parse.specs.WholeReading.{if_all, whole_value}
use Rattle.cs_parse.specs.LambdaReading as r
use Rattle.cs_parse.proofs.TokenLemmas.{bind_ok, moved, name_yes, after_yes}
use Rattle.cs_parse.proofs.FrontLemmas.{behind_sign, got}
use Rattle.cs_parse.proofs.ExpressionSound.{first_sound, used_0}
use Rattle.cs_parse.proofs.WholeLemmas.{value_sound}

-- all tokens were read
pub all_read : {A : Type 0} (a c : A) (rest : List Token) → if_all a rest ≡ Some c → (rest ≡ []) × (a ≡ c)
all_read a c [] e = (refl, cc)
all_read a c (t ∷ ts) e = absurd (cc)

name_sure : (t : Token) (kind : TokenKind) → t.kind ≡ kind → is_name kind ≡ true → (x : List ℕ) × IsName x t
name_sure t (k.Name x) i e = (x, i)
name_sure t _ i e = absurd (cc)

-- what changes the name that stands first
pub record Changer (ts : List Token) (change : Change) (us : List Token) : Type 0 where
  pub n : Token
  pub t : Token
  pub x : List ℕ
  pub sign : Sign
  pub whole : ts ≡ n ∷ t ∷ us
  pub name : IsName x n
  pub is : IsSign sign t
  pub changes : change_of sign ≡ Some change

sign_changes : (kind : TokenKind) (change : Change) → changing kind ≡ Some change → (sign : Sign) × (kind ≡ k.Sign sign) × (change_of sign ≡ Some change)
sign_changes (k.Sign sign) change e = (sign, refl, e)
sign_changes _ change e = absurd (cc)

pub changer : (ts : List Token) (change : Change) (us : List Token) → change_first ts ≡ Some (change, us) → Changer ts change us
changer [] change us e = absurd (cc)
changer (n ∷ []) change us e = absurd (cc)
changer (n ∷ t ∷ ts) change us e = go (is_name n.kind) refl e
  where
    go : (d : Bool) → is_name n.kind ≡ d → ◌≡◌ {A = Option (Change × List Token)} (if d then (changing t.kind >>= λ x. Some (x, ts)) else None) (Some (change, us)) → Changer (n ∷ t ∷ ts) change us
    go true i e =
        let y = bind_ok (changing t.kind) _ _ e in
        let z = sign_changes t.kind y.0 y.1 in
        let m = name_sure n n.kind refl i in
        moved {A = Change × List Token} (λ q. Changer (n ∷ t ∷ ts) q.0 q.1) y.2 (record { n = n; t = t; x = m.0; sign = z.0; whole = refl; name = m.1; is = z.1; changes = z.2 })
    go false i e = absurd (cc)

assigns : (sign : Sign) (op : AssignOp) → change_of sign ≡ Some (c.Assign op) → assignment sign ≡ Some op
assigns sign op e = go (assignment sign) (step_operator sign) refl e
  where
    go : (d : Option AssignOp) (f : Option StepOp) → assignment sign ≡ d →
        elim d [ Some a ↦ Some (c.Assign a) | None ↦ elim f [ Some b ↦ Some (c.Step b) | None ↦ None ] ] ≡ Some (c.Assign op) → assignment sign ≡ Some op
    go (Some a) f i e = let same : a ≡ op = cc in i ∙ ap Some same
    go None (Some b) i e = absurd (cc)
    go None None i e = absurd (cc)

steps : (sign : Sign) (op : StepOp) → change_of sign ≡ Some (c.Step op) → step_operator sign ≡ Some op
steps sign op e = go (assignment sign) (step_operator sign) refl e
  where
    go : (d : Option AssignOp) (f : Option StepOp) → step_operator sign ≡ f →
        elim d [ Some a ↦ Some (c.Assign a) | None ↦ elim f [ Some b ↦ Some (c.Step b) | None ↦ None ] ] ≡ Some (c.Step op) → step_operator sign ≡ Some op
    go (Some a) f i e = absurd (cc)
    go None (Some b) i e = let same : b ≡ op = cc in i ∙ ap Some same
    go None None i e = absurd (cc)

-- the tokens as a change of a name
abbrev pub change_body : Change → List Token → List Token → Option Body
change_body change ts rest = name_first ts >>= λ n. (changed change n.0 rest >>= λ x. if_all (body.Value x.0) x.1)

-- a change is read to the end, or else an expression
pub same_change : (ts : List Token) → r.change_or_value ts ≡ (elim (change_first ts) [ Some x ↦ change_body x.0 ts x.1 | None ↦ r.value_body ts ])
same_change ts = go (change_first ts)
  where
    made : (d : Read Expr) → ((d >>= λ x. Some (Some x)) >>= λ y. r.changed_or_value y ts) ≡ (d >>= λ x. if_all (body.Value x.0) x.1)
    made None = refl
    made (Some x) = refl

    by_name : (change : Change) (us : List Token) (d : Read Ident) →
        ((d >>= λ n. (changed change n.0 us >>= λ x. Some (Some x))) >>= λ y. r.changed_or_value y ts) ≡ (d >>= λ n. (changed change n.0 us >>= λ x. if_all (body.Value x.0) x.1))
    by_name change us None = refl
    by_name change us (Some n) = made (changed change n.0 us)

    go : (d : Option (Change × List Token)) → ◌≡◌ {A = Option Body} ((elim d [ Some x ↦ r.change x.0 ts x.1 | None ↦ Some None ]) >>= λ y. r.changed_or_value y ts) (elim d [ Some x ↦ change_body x.0 ts x.1 | None ↦ r.value_body ts ])
    go None = refl
    go (Some x) = by_name x.0 x.1 (name_first ts)

changes_sound : (change : Change) (n t : Token) (x : List ℕ) (sign : Sign) (us : List Token) (a : Expr) (rest : List Token) → IsName x n → IsSign sign t → change_of sign ≡ Some change →
    changed change (ident n x) us ≡ Some (a, rest) → Changes n.place (n ∷ t ∷ us) rest a
changes_sound (c.Assign op) n t x sign us a rest i j m e =
    let d = bind_ok _ _ _ e in
    let y = first_sound 0 us d.0.0 d.0.1 used_0 d.1 in
    got (λ z vs. Changes n.place (n ∷ t ∷ us) vs z) d.2 (gs.assign x sign op y.0 n t us d.0.1 d.0.0 i j (assigns sign op m) y.1.spells)
changes_sound (c.Step op) n t x sign us a rest i j m e =
    got (λ z vs. Changes n.place (n ∷ t ∷ us) vs z) e (gs.step x sign op n t us i j (steps sign op m))

change_sound : (ts : List Token) (change : Change) (us : List Token) (b : Body) → Changer ts change us → change_body change ts us ≡ Some b → LambdaBody ts [] b
change_sound ts change us b x e =
    subst (λ l. change_body change l us ≡ Some b → LambdaBody l [] b) (sym x.whole) (λ e.
    let f : (changed change (ident x.n x.x) us >>= λ y. if_all (body.Value y.0) y.1) ≡ Some b =
    sym (ap (λ o. o >>= λ n. (changed change n.0 us >>= λ y. if_all (body.Value y.0) y.1)) (name_yes x.x x.n (x.t ∷ us) x.name)) ∙ e in
    let d = bind_ok (changed change (ident x.n x.x) us) (λ y. if_all (body.Value y.0) y.1) b f in
    let z = all_read (body.Value d.0.0) b d.0.1 d.2 in
    subst (λ q. LambdaBody (x.n ∷ x.t ∷ us) [] q) z.1
    (g.change x.n.place (x.n ∷ x.t ∷ us) [] d.0.0
    (subst (λ l. Changes x.n.place (x.n ∷ x.t ∷ us) l d.0.0) z.0 (changes_sound change x.n x.t x.x x.sign us d.0.0 d.0.1 x.name x.is x.changes d.1)))) e

value_body_sound : (ts : List Token) (b : Body) → r.value_body ts ≡ Some b → LambdaBody ts [] b
value_body_sound ts b e =
    let d = bind_ok _ _ _ e in
    let y = first_sound 0 ts d.0.0 d.0.1 used_0 d.1 in
    let z = all_read (body.Value d.0.0) b d.0.1 d.2 in
    subst (λ q. LambdaBody ts [] q) z.1 (g.result y.0 ts [] d.0.0 (subst (λ l. Spells 0 y.0 ts l d.0.0) z.0 y.1.spells))

-- the tokens behind a name
pub behind_any : (ts rest : List Token) (P : List Token → Type 0) → r.behind_a_name ts ≡ Some rest → ((x : List ℕ) (t : Token) → IsName x t → P (t ∷ rest)) → P ts
behind_any [] rest P e h = absurd (cc)
behind_any (t ∷ ts) rest P e h = go (is_name t.kind) refl e
  where
    go : (d : Bool) → is_name t.kind ≡ d → (if d then Some ts else None) ≡ Some rest → P (t ∷ ts)
    go true i e = let same : rest ≡ ts = cc in let m = name_sure t t.kind refl i in subst (λ l. P (t ∷ l)) same (h m.0 t m.1)
    go false i e = absurd (cc)

-- the tokens begin as a lambda does
pub none_begins : (ts rest : List Token) (P : List Token → Type 0) → r.behind_none ts ≡ Some rest →
    ((o c r : Token) → IsSign s.OpenRound o → IsSign s.CloseRound c → IsSign s.Arrow r → P (o ∷ c ∷ r ∷ rest)) → P ts
none_begins ts rest P e h =
    let a = bind_ok _ _ _ e in
    let d = bind_ok _ _ _ a.2 in
    behind_sign s.OpenRound ts a.0 P a.1 (λ o i. behind_sign s.CloseRound a.0 d.0 (λ l. P (o ∷ l)) d.1 (λ c j. behind_sign s.Arrow d.0 rest (λ l. P (o ∷ c ∷ l)) d.2 (λ r m. h o c r i j m)))

pub bare_begins : (ts rest : List Token) (P : List Token → Type 0) → r.behind_bare ts ≡ Some rest →
    ((x : List ℕ) (n r : Token) → IsName x n → IsSign s.Arrow r → P (n ∷ r ∷ rest)) → P ts
bare_begins ts rest P e h =
    let a = bind_ok _ _ _ e in
    behind_any ts a.0 P a.1 (λ x n i. behind_sign s.Arrow a.0 rest (λ l. P (n ∷ l)) a.2 (λ r j. h x n r i j))

pub one_begins : (ts rest : List Token) (P : List Token → Type 0) → r.behind_one ts ≡ Some rest →
    ((x : List ℕ) (o n c r : Token) → IsSign s.OpenRound o → IsName x n → IsSign s.CloseRound c → IsSign s.Arrow r → P (o ∷ n ∷ c ∷ r ∷ rest)) → P ts
one_begins ts rest P e h =
    let a = bind_ok _ _ _ e in
    let d = bind_ok _ _ _ a.2 in
    let f = bind_ok _ _ _ d.2 in
    behind_sign s.OpenRound ts a.0 P a.1 (λ o i. behind_any a.0 d.0 (λ l. P (o ∷ l)) d.1 (λ x n j.
    behind_sign s.CloseRound d.0 f.0 (λ l. P (o ∷ n ∷ l)) f.1 (λ c m. behind_sign s.Arrow f.0 rest (λ l. P (o ∷ n ∷ c ∷ l)) f.2 (λ r w. h x o n c r i j m w))))

-- where statements that are read are spelled so
module _ (statements_sound : (ts : List Token) (body : List Stmt) (rest : List Token) → statements_first nowhere ts ≡ Some (body, rest) → Statements no_jumps ts rest body) where
  block_sound : (o : Token) (ts : List Token) (b : Body) → IsSign s.OpenBrace o → r.whole_block ts ≡ Some b → LambdaBody (o ∷ ts) [] b
  block_sound o ts b i e =
      let a = bind_ok (block_body ts) (λ x. if_all x.0 x.1) b e in
      let d = bind_ok _ _ _ a.1 in
      let f = bind_ok _ _ _ d.2 in
      let z = all_read a.0.0 b a.0.1 a.2 in
      got (λ v vs. vs ≡ [] → v ≡ b → LambdaBody (o ∷ ts) [] b) f.2
      (λ m w. subst (λ q. LambdaBody (o ∷ ts) [] q) w
      (behind_sign s.CloseBrace d.0.1 f.0 (λ l. Statements no_jumps ts l d.0.0 → LambdaBody (o ∷ ts) [] (body.Block d.0.0)) f.1
      (λ c j h. g.block o c ts [] d.0.0 i (subst (λ l. Statements no_jumps ts (c ∷ l) d.0.0) m h) j) (statements_sound ts d.0.0 d.0.1 d.1)))
      z.0 z.1

  body_sound : (ts : List Token) (b : Body) → r.lambda_body ts ≡ Some b → LambdaBody ts [] b
  body_sound ts b e = go (after s.OpenBrace ts) refl e
    where
      change : (d : Option (Change × List Token)) → change_first ts ≡ d → ◌≡◌ {A = Option Body} (elim d [ Some x ↦ change_body x.0 ts x.1 | None ↦ r.value_body ts ]) (Some b) → LambdaBody ts [] b
      change (Some x) i e = change_sound ts x.0 x.1 b (changer ts x.0 x.1 i) e
      change None i e = value_body_sound ts b e

      go : (d : Option (List Token)) → after s.OpenBrace ts ≡ d → ◌≡◌ {A = Option Body} (elim d [ Some q ↦ r.whole_block q | None ↦ r.change_or_value ts ]) (Some b) → LambdaBody ts [] b
      go (Some q) i e = behind_sign s.OpenBrace ts q (λ l. LambdaBody l [] b) i (λ o j. block_sound o q b j e)
      go None i e = change (change_first ts) refl (sym (same_change ts) ∙ e)

  none_sound : (o c t : Token) (ts : List Token) (a : Expr) → IsSign s.OpenRound o → IsSign s.CloseRound c → IsSign s.Arrow t → r.of_none (o ∷ c ∷ t ∷ ts) ts ≡ Some a → Spelled (o ∷ c ∷ t ∷ ts) a
  none_sound o c t ts a i j m e =
      let d = bind_ok (r.lambda_body ts) _ _ e in
      moved (λ z. Spelled (o ∷ c ∷ t ∷ ts) z) d.2 (g.of_none o c t ts d.0 i j m (body_sound ts d.0 d.1))

  bare_sound : (x : List ℕ) (n t : Token) (ts : List Token) (a : Expr) → IsName x n → IsSign s.Arrow t → r.of_bare (n ∷ t ∷ ts) ts ≡ Some a → Spelled (n ∷ t ∷ ts) a
  bare_sound x n t ts a i j e =
      let f : r.lambda n.place (Some (ident n x)) ts ≡ Some a = sym (ap (λ o. o >>= λ z. r.lambda n.place (Some z.0) ts) (name_yes x n (t ∷ ts) i)) ∙ e in
      let d = bind_ok (r.lambda_body ts) (λ b. Some (node n.place (ek.Lambda (Some (ident n x)) b))) a f in
      moved (λ z. Spelled (n ∷ t ∷ ts) z) d.2 (g.of_name x n t ts d.0 i j (body_sound ts d.0 d.1))

  one_sound : (x : List ℕ) (o n c t : Token) (ts : List Token) (a : Expr) → IsSign s.OpenRound o → IsName x n → IsSign s.CloseRound c → IsSign s.Arrow t → r.of_one (o ∷ n ∷ c ∷ t ∷ ts) ts ≡ Some a →
      Spelled (o ∷ n ∷ c ∷ t ∷ ts) a
  one_sound x o n c t ts a i j m w e =
      let f : r.lambda o.place (Some (ident n x)) ts ≡ Some a =
      sym (ap (λ d. d >>= λ q. (name_first q >>= λ z. r.lambda o.place (Some z.0) ts)) (after_yes s.OpenRound o (n ∷ c ∷ t ∷ ts) i)
      ∙ ap (λ d. d >>= λ z. r.lambda o.place (Some z.0) ts) (name_yes x n (c ∷ t ∷ ts) j)) ∙ e in
      let d = bind_ok (r.lambda_body ts) (λ b. Some (node o.place (ek.Lambda (Some (ident n x)) b))) a f in
      moved (λ z. Spelled (o ∷ n ∷ c ∷ t ∷ ts) z) d.2 (g.of_one x o n c t ts d.0 i j m w (body_sound ts d.0 d.1))

  -- what is read is spelled
  pub spelled_sound : (ts : List Token) (a : Expr) → r.whole_spelled ts ≡ Some a → Spelled ts a
  spelled_sound ts a e = none (r.behind_none ts) refl e
    where
      one : (d : Option (List Token)) → r.behind_one ts ≡ d → ◌≡◌ {A = Option Expr} (elim d [ Some q ↦ r.of_one ts q | None ↦ whole_value ts ]) (Some a) → Spelled ts a
      one (Some q) i e = one_begins ts q (λ l. r.of_one l q ≡ Some a → Spelled l a) i (λ x o n c t h1 h2 h3 h4. one_sound x o n c t q a h1 h2 h3 h4) e
      one None i e = g.value ts a (value_sound ts a e)

      bare : (d : Option (List Token)) → r.behind_bare ts ≡ d → ◌≡◌ {A = Option Expr} (elim d [ Some q ↦ r.of_bare ts q | None ↦ r.one_or_value ts ]) (Some a) → Spelled ts a
      bare (Some q) i e = bare_begins ts q (λ l. r.of_bare l q ≡ Some a → Spelled l a) i (λ x n t h1 h2. bare_sound x n t q a h1 h2) e
      bare None i e = one (r.behind_one ts) refl e

      none : (d : Option (List Token)) → r.behind_none ts ≡ d → ◌≡◌ {A = Option Expr} (elim d [ Some q ↦ r.of_none ts q | None ↦ r.named_or_value ts ]) (Some a) → Spelled ts a
      none (Some q) i e = none_begins ts q (λ l. r.of_none l q ≡ Some a → Spelled l a) i (λ o c t h1 h2 h3. none_sound o c t q a h1 h2 h3) e
      none None i e = bare (r.behind_bare ts) refl e
