-- What is read as labels and heads of loops is spelled so.
use Rattle.std.proofs.Common.{◌≡◌, ℕ, zero, suc, List, [], ◌∷◌, ◌++◌, length, refl, sym, ap, ◌∙◌, subst}
use Rattle.std.specs.Prelude.{pos, Bool, true, false, not, ◌&&◌, if◌then◌else◌, Option, Some, None}
use Rattle.std.specs.List.{list_all}
use Rattle.cs_ast.specs.declared.expression.Expr.{Expr}
use Rattle.cs_ast.specs.declared.expression.Label.{Label}
use Rattle.cs_ast.specs.declared.expression.LabelKind.{LabelKind}
use Rattle.cs_ast.specs.declared.expression.LabelKind.TheVariants as lk
use Rattle.cs_ast.specs.declared.expression.Stmt.{Stmt}
use Rattle.cs_ast.specs.declared.identifier.Ident.{Ident}
use Rattle.cs_token.specs.declared.token.Token.{Token}
use Rattle.cs_token.specs.declared.token.TokenKind.{TokenKind}
use Rattle.cs_token.specs.declared.token.TokenKind.TheVariants as t
use Rattle.cs_token.specs.declared.token.Sign.{Sign}
use Rattle.cs_token.specs.declared.token.Sign.TheVariants as s
use Rattle.cs_token.specs.declared.token.Word.{Word}
use Rattle.cs_token.specs.declared.token.Word.TheVariants as w
use Rattle.cs_grammar.specs.Statements.{Constant, Labelled}
use Rattle.cs_grammar.specs.Statements as cs
use Rattle.cs_grammar.specs.Tokens.{IsSign, ident}
use Rattle.razor_token.specs.declared.piece.Piece.{Piece}
use Rattle.razor_ast.specs.Pieces.{codes_of}
use Rattle.razor_ast.specs.Statements.{IsLabel, SomeLabels, ForHead, ForEachHead, is_colon}
use Rattle.razor_ast.specs.Statements as g
use Rattle.razor_reader.specs.declared.mark.Mark.TheVariants as m
use Rattle.razor_reader.specs.Marks.{sign_mark, word_mark, mark_number, is_token}
use Rattle.razor_reader.specs.Reading.{Read, ◌>>=◌}
use Rattle.razor_reader.specs.TokenReading.{code_to}
use Rattle.razor_reader.specs.CodeReading.{plain}
use Rattle.razor_reader.specs.HeadReading as r
use Rattle.razor_reader.proofs.ReadLemmas.{bind_ok, moved, where_not, where_neither}
use Rattle.razor_reader.proofs.MarkKinds.{token_colon, token_case, token_default, token_minus, token_var, token_in}
use Rattle.razor_reader.proofs.MarkLemmas.{token_sure}
use Rattle.razor_reader.proofs.TokenSound.{To, code_to_whole}
use Rattle.razor_reader.proofs.CodeSound.{plain_sound}

-- the colon by its mark
sign_colon : (sign : Sign) → is_colon (t.Sign sign) ≡ is_token m.Colon (t.Sign sign)
unfolding sign_mark mark_number
sign_colon s.Colon = refl
sign_colon _ = refl

word_colon : (word : Word) → false ≡ is_token m.Colon (t.Word word)
unfolding word_mark mark_number
word_colon w.Break = refl
word_colon _ = refl

same_colon : (kind : TokenKind) → is_colon kind ≡ is_token m.Colon kind
unfolding mark_number
same_colon (t.Sign sign) = sign_colon sign
same_colon (t.Word word) = word_colon word
same_colon _ = refl

no_colon : (ts : List Token) → list_all (λ u. not (is_colon u.kind)) ts ≡ list_all (λ u. not (is_token m.Colon u.kind)) ts
no_colon [] = refl
no_colon (u ∷ ts) =
    ap (λ d. not d && list_all (λ v. not (is_colon v.kind)) ts) (same_colon u.kind)
    ∙ ap (λ d. not (is_token m.Colon u.kind) && d) (no_colon ts)

last_whole : (us : List Token) (c : Token) → r.last_of (us ++ c ∷ []) ≡ Some c
last_whole [] c = refl
last_whole (u ∷ []) c = refl
last_whole (u ∷ v ∷ us) c = last_whole (v ∷ us) c

-- constants
word_constant : (u c : Token) (word : Word) (kind : LabelKind) → u.kind ≡ t.Word word → r.constant_word word ≡ Some kind → Constant (u ∷ c ∷ []) (c ∷ []) (r.label u kind)
unfolding r.constant_word
word_constant u c w.True kind i e = moved {A = LabelKind} (λ x. Constant (u ∷ c ∷ []) (c ∷ []) (r.label u x)) e (cs.yes u (c ∷ []) i)
word_constant u c w.False kind i e = moved {A = LabelKind} (λ x. Constant (u ∷ c ∷ []) (c ∷ []) (r.label u x)) e (cs.no u (c ∷ []) i)
word_constant u c w.Null kind i e = moved {A = LabelKind} (λ x. Constant (u ∷ c ∷ []) (c ∷ []) (r.label u x)) e (cs.null u (c ∷ []) i)
word_constant u c _ kind i e = absurd (cc)

constant_sound : (u c : Token) (of : TokenKind) (kind : LabelKind) → u.kind ≡ of → r.constant of ≡ Some kind → Constant (u ∷ c ∷ []) (c ∷ []) (r.label u kind)
constant_sound u c (t.Number n) kind i e = moved {A = LabelKind} (λ x. Constant (u ∷ c ∷ []) (c ∷ []) (r.label u x)) e (cs.number n u (c ∷ []) i)
constant_sound u c (t.Text x) kind i e = moved {A = LabelKind} (λ y. Constant (u ∷ c ∷ []) (c ∷ []) (r.label u y)) e (cs.text x u (c ∷ []) i)
constant_sound u c (t.Word word) kind i e = word_constant u c word kind i e
constant_sound u c _ kind i e = absurd (cc)

negative_sound : (m u c : Token) (of : TokenKind) (kind : LabelKind) → IsSign s.Minus m → u.kind ≡ of → r.negative of ≡ Some kind → Constant (m ∷ u ∷ c ∷ []) (c ∷ []) (r.label m kind)
negative_sound m u c (t.Number (pos n)) kind j i e = moved {A = LabelKind} (λ x. Constant (m ∷ u ∷ c ∷ []) (c ∷ []) (r.label m x)) e (cs.minus n m u (c ∷ []) j i)
negative_sound m u c _ kind j i e = absurd (cc)

label_of_sound : (ts : List Token) (c : Token) (a : Label) → r.last_of ts ≡ Some c → IsSign s.Colon c → r.label_of ts ≡ Some a → Labelled ts [] a
label_of_sound [] c a l i e = absurd (cc)
label_of_sound (u ∷ []) c a l i e = absurd (cc)
label_of_sound (u ∷ d ∷ []) c a l i e =
    let x = where_not (is_token m.Default u.kind) _ a e in
    let same : c ≡ d = cc in
    moved {A = Label} (Labelled (u ∷ d ∷ []) []) x.1
    (cs.default u d [] (token_sure m.Default (t.Word w.Default) u.kind token_default x.0) (subst (IsSign s.Colon) same i))
label_of_sound (u ∷ b ∷ d ∷ []) c a l i e =
    let x = where_not (is_token m.Case u.kind) _ a e in
    let y = bind_ok (r.constant b.kind) _ _ x.1 in
    let same : c ≡ d = cc in
    moved {A = Label} (Labelled (u ∷ b ∷ d ∷ []) []) y.2
    (cs.case_of u d (b ∷ d ∷ []) [] (r.label b y.0) (token_sure m.Case (t.Word w.Case) u.kind token_case x.0) (constant_sound b d b.kind y.0 refl y.1)
    (subst (IsSign s.Colon) same i))
label_of_sound (u ∷ minus ∷ b ∷ d ∷ []) c a l i e =
    let x = where_neither (is_token m.Case u.kind) (is_token m.Minus minus.kind) _ a e in
    let y = bind_ok (r.negative b.kind) _ _ x.2 in
    let same : c ≡ d = cc in
    moved {A = Label} (Labelled (u ∷ minus ∷ b ∷ d ∷ []) []) y.2
    (cs.case_of u d (minus ∷ b ∷ d ∷ []) [] (r.label minus y.0) (token_sure m.Case (t.Word w.Case) u.kind token_case x.0)
    (negative_sound minus b d b.kind y.0 (token_sure m.Minus (t.Sign s.Minus) minus.kind token_minus x.1) refl y.1) (subst (IsSign s.Colon) same i))
label_of_sound (u ∷ v ∷ b ∷ d ∷ f ∷ ts) c a l i e = absurd (cc)

pub label_sound : (ps rest : List Piece) (a : Label) → r.label_first ps ≡ Some (a, rest) → IsLabel ps rest a
label_sound ps rest a e =
    let x = bind_ok (code_to m.Colon ps) _ _ e in
    let y = bind_ok (r.label_of x.0.0) _ _ x.2 in
    let d = code_to_whole m.Colon ps x.0.0 x.0.1 x.1 in
    let colon = token_sure m.Colon (t.Sign s.Colon) d.c.kind token_colon d.is in
    let last : r.last_of x.0.0 ≡ Some d.c = ap r.last_of d.tokens ∙ last_whole d.us d.c in
    moved {A = Label × List Piece} (λ z. IsLabel ps z.1 z.0) y.2
    (subst (λ (l : List Piece). IsLabel l x.0.1 y.0) (sym (d.whole ∙ ap (λ l. codes_of l ++ x.0.1) d.tokens))
    (g.label d.us d.c x.0.1 y.0 (no_colon d.us ∙ d.none) colon
    (subst (λ (l : List Token). Labelled l [] y.0) d.tokens (label_of_sound x.0.0 d.c y.0 last colon y.1))))

labels_in_sound : (n : ℕ) (ps rest : List Piece) (labels : List Label) → r.labels_in n ps ≡ Some (labels, rest) → SomeLabels ps rest labels
unfolding r.labels_in
labels_in_sound zero ps rest labels e = absurd (cc)
labels_in_sound (suc n) ps rest labels e =
    let x = bind_ok (r.label_first ps) _ _ e in
    go (λ us vs more e. labels_in_sound n us vs more e) x.0.0 x.0.1 (label_sound ps x.0.1 x.0.0 x.1) (r.has_label x.0.1) x.2
  where
    go : ((us vs : List Piece) (more : List Label) → r.labels_in n us ≡ Some (more, vs) → SomeLabels us vs more) → (a : Label) (us : List Piece) → IsLabel ps us a → (b : Bool) →
        ◌≡◌ {A = Read (List Label)} (if b then (r.labels_in n us >>= λ y. Some (a ∷ y.0, y.1)) else Some (a ∷ [], us)) (Some (labels, rest)) → SomeLabels ps rest labels
    go more a us h true e =
        let y = bind_ok (r.labels_in n us) _ _ e in
        moved {A = List Label × List Piece} (λ z. SomeLabels ps z.1 z.0) y.2 (g.more ps us y.0.1 a y.0.0 h (more us y.0.1 y.0.0 y.1))
    go more a us h false e = moved {A = List Label × List Piece} (λ z. SomeLabels ps z.1 z.0) e (g.one ps us a h)

pub labels_sound : (ps rest : List Piece) (labels : List Label) → r.labels_first ps ≡ Some (labels, rest) → SomeLabels ps rest labels
unfolding r.labels_first
labels_sound ps rest labels e = labels_in_sound (length ps) ps rest labels e

-- the head of a `foreach`
pub record EachHead (ts : List Token) (name : Ident) (a : Expr) : Type 0 where
  pub x : List ℕ
  pub n : Token
  pub head : ForEachHead ts n x a
  pub same : name ≡ ident n x

pub each_sound : (ts : List Token) (name : Ident) (a : Expr) → r.for_each_head ts ≡ Some (name, a) → EachHead ts name a
each_sound [] name a e = absurd (cc)
each_sound (v ∷ []) name a e = absurd (cc)
each_sound (v ∷ n ∷ []) name a e = absurd (cc)
each_sound (v ∷ n ∷ i ∷ ts) name a e =
    let x = where_neither (is_token m.Var v.kind) (is_token m.In i.kind) _ (name, a) e in
    let y = bind_ok (r.name_of n) _ _ x.2 in
    let z = bind_ok (plain ts) _ _ y.2 in
    let p = plain_sound ts z.0 z.1 in
    moved {A = Ident × Expr} (λ q. EachHead (v ∷ n ∷ i ∷ ts) q.0 q.1) z.2
    (go n.kind refl y.0 y.1 (λ k j. g.head k p.0 v n i ts z.0 (token_sure m.Var (t.Word w.Var) v.kind token_var x.0) j (token_sure m.In (t.Word w.In) i.kind token_in x.1) p.1))
  where
    go : (of : TokenKind) {b : Expr} → n.kind ≡ of → (name : Ident) → r.name_by of n ≡ Some name →
        ((k : List ℕ) → n.kind ≡ t.Name k → ForEachHead (v ∷ n ∷ i ∷ ts) n k b) → EachHead (v ∷ n ∷ i ∷ ts) name b
    go (t.Name k) j name e h = record { x = k; n = n; head = h k j; same = cc }
    go _ j name e h = absurd (cc)
