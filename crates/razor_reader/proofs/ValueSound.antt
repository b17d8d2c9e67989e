-- What is read as a value of an attribute is spelled so.
use Rattle.std.proofs.Common.{◌≡◌, ◌⊎◌, ℕ, zero, suc, List, [], ◌∷◌, ◌++◌, length, refl, sym, ap, ◌∙◌, subst, inl, inr}
use Rattle.std.specs.Prelude.{Bool, true, false, codes, if◌then◌else◌, Option, Some, None}
use Rattle.cs_ast.specs.declared.expression.Expr.{Expr}
use Rattle.cs_ast.specs.declared.identifier.Ident.{Ident}
use Rattle.cs_token.specs.declared.token.Token.{Token}
use Rattle.cs_token.specs.declared.token.TokenKind.{TokenKind}
use Rattle.cs_token.specs.declared.token.TokenKind.TheVariants as t
use Rattle.cs_grammar.specs.Expressions.{SpelledExpression}
use Rattle.cs_grammar.specs.Tokens.{ident}
use Rattle.razor_token.specs.declared.piece.Piece.{Piece}
use Rattle.razor_token.specs.declared.piece.PieceKind.{PieceKind}
use Rattle.razor_token.specs.declared.piece.PieceKind.TheVariants as k
use Rattle.razor_ast.specs.declared.attribute.ValuePart.{ValuePart}
use Rattle.razor_ast.specs.declared.attribute.ValuePart.TheVariants as vp
use Rattle.razor_ast.specs.Attributes.{Parts, Behind, Led, EventValue, TextValue}
use Rattle.razor_ast.specs.Attributes as g
use Rattle.razor_ast.specs.Brackets.{token_of}
use Rattle.razor_ast.specs.Literals.{literal_run}
use Rattle.razor_ast.specs.Pieces.{IsKind, code, codes_of}
use Rattle.razor_ast.specs.Shown.{Shown, ShownTokens}
use Rattle.razor_ast.specs.Shown as content
use Rattle.razor_reader.specs.declared.mark.Mark.TheVariants as m
use Rattle.razor_reader.specs.Marks.{is_mark}
use Rattle.razor_reader.specs.Reading.{Read, ◌>>=◌, has, after}
use Rattle.razor_reader.specs.TokenReading.{code_run}
use Rattle.razor_reader.specs.CodeReading.{spelled, plain, shown, led}
use Rattle.razor_reader.specs.AttributeReading as r
use Rattle.razor_reader.proofs.ReadLemmas.{bind_ok, moved, by_test}
use Rattle.razor_reader.proofs.MarkKinds.{of_at, of_expression_end, of_value_end}
use Rattle.razor_reader.proofs.MarkLemmas.{Taken, taken, piece_sure}
use Rattle.razor_reader.proofs.TokenSound.{code_is, code_run_whole}
use Rattle.razor_reader.proofs.CodeSound.{is_spelled, plain_sound, shown_sound, led_sound}

-- tokens and one piece behind them
pub codes_to : (ps us rest : List Piece) (end : Piece) → (code_run ps).1 ≡ end ∷ rest → ps ≡ codes_of (code_run ps).0 ++ end ∷ rest
codes_to ps us rest end e = code_run_whole ps ∙ ap (λ l. codes_of (code_run ps).0 ++ l) e

pub shown_first_sound : (ps rest : List Piece) (a : Expr) → r.shown_first ps ≡ Some (a, rest) → Shown ps rest a
shown_first_sound ps rest a e =
    let x = bind_ok (after m.At ps) _ _ e in
    let y = bind_ok (after m.ExpressionEnd (code_run x.0).1) _ _ x.2 in
    let z = bind_ok (shown (code_run x.0).0) _ _ y.2 in
    let p = taken m.At k.At ps x.0 of_at x.1 in
    let q = taken m.ExpressionEnd k.ExpressionEnd (code_run x.0).1 y.0 of_expression_end y.1 in
    moved {A = Expr × List Piece} (λ w. Shown ps w.1 w.0) z.2
    (subst (λ l. Shown l y.0 z.0) (sym (p.whole ∙ ap (λ l. p.p ∷ l) (codes_to x.0 [] y.0 q.p q.whole)))
    (content.shown p.p q.p (code_run x.0).0 y.0 z.0 p.is (shown_sound (code_run x.0).0 z.0 z.1) q.is))

-- the end of an expression, where it stands before that of the value
led_end : (at : Piece) (us rest : List Piece) (ts : List Token) (a : Expr) → IsKind k.At at → Behind ts a →
    after m.ValueEnd (r.past_expression us) ≡ Some rest → Led (at ∷ (codes_of ts ++ us)) rest a
led_end at [] rest ts a i h e = absurd (cc)
led_end at (p ∷ us) rest ts a i h e = go (is_mark m.ExpressionEnd p.kind) refl e
  where
    go : (b : Bool) → is_mark m.ExpressionEnd p.kind ≡ b → after m.ValueEnd (if b then us else p ∷ us) ≡ Some rest → Led (at ∷ (codes_of ts ++ p ∷ us)) rest a
    go true j e =
        let q = taken m.ValueEnd k.ValueEnd us rest of_value_end e in
        subst (λ l. Led (at ∷ (codes_of ts ++ p ∷ l)) rest a) (sym q.whole)
        (g.bare at p q.p ts rest a i h (piece_sure m.ExpressionEnd k.ExpressionEnd p.kind of_expression_end j) q.is)
    go false j e =
        let q = taken m.ValueEnd k.ValueEnd (p ∷ us) rest of_value_end e in
        subst (λ l. Led (at ∷ (codes_of ts ++ l)) rest a) (sym q.whole) (g.quoted at q.p ts rest a i h q.is)

pub led_first_sound : (ps rest : List Piece) (a : Expr) → r.led_first ps ≡ Some (a, rest) → Led ps rest a
led_first_sound ps rest a e =
    let x = bind_ok (after m.At ps) _ _ e in
    let y = bind_ok (after m.ValueEnd (r.past_expression (code_run x.0).1)) _ _ x.2 in
    let z = bind_ok (led (code_run x.0).0) _ _ y.2 in
    let p = taken m.At k.At ps x.0 of_at x.1 in
    moved {A = Expr × List Piece} (λ w. Led ps w.1 w.0) z.2
    (subst (λ l. Led l y.0 z.0) (sym (p.whole ∙ ap (λ l. p.p ∷ l) (code_run_whole x.0)))
    (led_end p.p (code_run x.0).1 y.0 (code_run x.0).0 z.0 p.is (led_sound (code_run x.0).0 z.0 z.1) y.1))

code_value_sound : (ps rest : List Piece) (a : Expr) → r.code_value ps ≡ Some (a, rest) → EventValue ps rest a
code_value_sound ps rest a e =
    let y = bind_ok (after m.ValueEnd (code_run ps).1) _ _ e in
    let z = bind_ok (spelled (code_run ps).0) _ _ y.2 in
    let q = taken m.ValueEnd k.ValueEnd (code_run ps).1 y.0 of_value_end y.1 in
    moved {A = Expr × List Piece} (λ w. EventValue ps w.1 w.0) z.2
    (subst (λ l. EventValue l y.0 z.0) (sym (codes_to ps [] y.0 q.p q.whole))
    (g.plain q.p (code_run ps).0 y.0 z.0 (is_spelled (code_run ps).0 z.0 z.1) q.is))

pub event_value_sound : (ps rest : List Piece) (a : Expr) → r.event_value ps ≡ Some (a, rest) → EventValue ps rest a
event_value_sound ps rest a e = elim (by_test (has m.At ps) _ _ (a, rest) e) [
  | inl x ↦ g.led ps rest a (led_first_sound ps rest a x.1)
  | inr x ↦ code_value_sound ps rest a x.1
]

-- code up to the end of a value, as an expression
pub record Plain (ps rest : List Piece) (a : Expr) : Type 0 where
  pub ts : List Token
  pub end : Piece
  pub whole : ps ≡ codes_of ts ++ end ∷ rest
  pub spelled : SpelledExpression ts a
  pub ends : IsKind k.ValueEnd end

pub key_value_sound : (ps rest : List Piece) (a : Expr) → r.key_value ps ≡ Some (a, rest) → Plain ps rest a
key_value_sound ps rest a e =
    let y = bind_ok (after m.ValueEnd (code_run ps).1) _ _ e in
    let z = bind_ok (plain (code_run ps).0) _ _ y.2 in
    let q = taken m.ValueEnd k.ValueEnd (code_run ps).1 y.0 of_value_end y.1 in
    moved {A = Expr × List Piece} (λ w. Plain ps w.1 w.0) z.2
    (record { ts = (code_run ps).0; end = q.p; whole = codes_to ps [] y.0 q.p q.whole; spelled = plain_sound (code_run ps).0 z.0 z.1; ends = q.is })

-- a name up to the end of a value
pub record Named (ps rest : List Piece) (name : Ident) : Type 0 where
  pub x : List ℕ
  pub n : Token
  pub end : Piece
  pub whole : ps ≡ code n ∷ end ∷ rest
  pub is : n.kind ≡ t.Name x
  pub ends : IsKind k.ValueEnd end
  pub same : name ≡ ident n x

pub name_value_sound : (ps rest : List Piece) (name : Ident) → r.name_value ps ≡ Some (name, rest) → Named ps rest name
name_value_sound [] rest name e = absurd (cc)
name_value_sound (p ∷ ps) rest name e =
    let x = bind_ok (r.name_by p.kind p) _ _ e in
    let y = bind_ok (after m.ValueEnd ps) _ _ x.2 in
    let q = taken m.ValueEnd k.ValueEnd ps y.0 of_value_end y.1 in
    moved {A = Ident × List Piece} (λ w. Named (p ∷ ps) w.1 w.0) y.2 (go p.kind refl x.0 q x.1)
  where
    inner : (kind : TokenKind) (r0 : List Piece) → p.kind ≡ k.Code kind → (n : Ident) → Taken k.ValueEnd ps r0 → r.name_in kind p ≡ Some n → Named (p ∷ ps) r0 n
    inner (t.Name z) r0 i n q e = record {
      x = z;
      n = token_of p (t.Name z);
      end = q.p;
      whole = ap (λ v. v ∷ ps) (sym (code_is p (t.Name z) i)) ∙ ap (λ l. code (token_of p (t.Name z)) ∷ l) q.whole;
      is = refl;
      ends = q.is;
      same = cc;
    }
    inner _ r0 i n q e = absurd (cc)

    go : (of : PieceKind) {r0 : List Piece} → p.kind ≡ of → (n : Ident) → Taken k.ValueEnd ps r0 → r.name_by of p ≡ Some n → Named (p ∷ ps) r0 n
    go (k.Code kind) {r0} i n q e = inner kind r0 i n q e
    go _ i n q e = absurd (cc)

pub text_value_sound : (ps rest : List Piece) (text : List ℕ) → r.text_value ps ≡ Some (text, rest) → TextValue ps rest text
text_value_sound ps rest text e =
    let y = bind_ok (after m.ValueEnd (literal_run ps).1) _ _ e in
    let q = taken m.ValueEnd k.ValueEnd (literal_run ps).1 y.0 of_value_end y.1 in
    moved {A = List ℕ × List Piece} (λ w. TextValue ps w.1 w.0) y.2
    (g.text q.p ps y.0 (literal_run ps).0 (ap (λ l. ((literal_run ps).0, l)) q.whole) q.is)

-- a literal text stands first
literal_there : (ps : List Piece) (P : List Piece → Type 0) → r.has_literal ps ≡ true → ((x : List ℕ) (p : Piece) (us : List Piece) → IsKind (k.Literal x) p → P (p ∷ us)) → P ps
literal_there [] P e h = absurd (cc)
literal_there (p ∷ us) P e h = go p.kind refl e
  where
    go : (of : PieceKind) → p.kind ≡ of → r.is_literal of ≡ true → P (p ∷ us)
    go (k.Literal x) i e = h x p us i
    go _ i e = absurd (cc)

part_sound : (ps us rest : List Piece) (part : ValuePart) (parts : List ValuePart) → r.part_first ps ≡ Some (part, us) → Parts us rest parts → Parts ps rest (part ∷ parts)
part_sound ps us rest part parts e h = elim (by_test (r.has_literal ps) _ _ (part, us) e) [
  | inl x ↦ moved {A = ValuePart × List Piece} (λ w. Parts w.1 rest parts → Parts ps rest (w.0 ∷ parts)) x.1
      (literal_there ps (λ l. Parts (literal_run l).1 rest parts → Parts l rest (vp.Literal (literal_run l).0 ∷ parts)) x.0
      (λ y p vs i h. g.literal y (literal_run (p ∷ vs)).0 p vs (literal_run (p ∷ vs)).1 rest parts i refl h)) h
  | inr x ↦
      let y = bind_ok (r.shown_first ps) _ _ x.1 in
      moved {A = ValuePart × List Piece} (λ w. Parts w.1 rest parts → Parts ps rest (w.0 ∷ parts)) y.2
      (λ h. g.shown ps y.0.1 rest y.0.0 parts (shown_first_sound ps y.0.1 y.0.0 y.1) h) h
]

parts_in_sound : (n : ℕ) (ps rest : List Piece) (parts : List ValuePart) → r.parts_in n ps ≡ Some (parts, rest) → Parts ps rest parts
unfolding r.parts_in
parts_in_sound zero ps rest parts e = absurd (cc)
parts_in_sound (suc n) ps rest parts e = go (λ us vs more e. parts_in_sound n us vs more e) (after m.ValueEnd ps) refl e
  where
    go : ((us vs : List Piece) (more : List ValuePart) → r.parts_in n us ≡ Some (more, vs) → Parts us vs more) → (o : Option (List Piece)) → after m.ValueEnd ps ≡ o →
        ◌≡◌ {A = Read (List ValuePart)} (elim o [ Some rest ↦ Some ([], rest) | None ↦ r.part_first ps >>= λ x. (r.parts_in n x.1 >>= λ y. Some (x.0 ∷ y.0, y.1)) ]) (Some (parts, rest)) → Parts ps rest parts
    go more (Some us) i e =
        let q = taken m.ValueEnd k.ValueEnd ps us of_value_end i in
        moved {A = List ValuePart × List Piece} (λ w. Parts ps w.1 w.0) e (subst (λ l. Parts l us []) (sym q.whole) (g.no_part q.p us q.is))
    go more None i e =
        let x = bind_ok (r.part_first ps) _ _ e in
        let y = bind_ok (r.parts_in n x.0.1) _ _ x.2 in
        moved {A = List ValuePart × List Piece} (λ w. Parts ps w.1 w.0) y.2
        (part_sound ps x.0.1 y.0.1 x.0.0 y.0.0 x.1 (more x.0.1 y.0.1 y.0.0 y.1))

pub parts_sound : (ps rest : List Piece) (parts : List ValuePart) → r.parts_first ps ≡ Some (parts, rest) → Parts ps rest parts
unfolding r.parts_first
parts_sound ps rest parts e = parts_in_sound (length ps) ps rest parts e
