-- What a value of an attribute spells is read.
use Rattle.std.proofs.Common.{◌≡◌, ℕ, zero, suc, ◌+◌, ◌<◌, ◌≤◌, List, [], ◌∷◌, ◌++◌, length, refl, sym, ap, ◌∙◌, subst, arith, append_assoc, length-append}
use Rattle.std.specs.Prelude.{Bool, true, false, codes, if◌then◌else◌, Option, Some, None}
use Rattle.cs_ast.specs.declared.expression.Expr.{Expr}
use Rattle.cs_ast.specs.declared.identifier.Ident.{Ident}
use Rattle.cs_token.specs.declared.token.Token.{Token}
use Rattle.cs_token.specs.declared.token.TokenKind.{TokenKind}
use Rattle.cs_token.specs.declared.token.TokenKind.TheVariants as t
use Rattle.cs_token.specs.declared.token.Sign.{Sign}
use Rattle.cs_token.specs.declared.token.Sign.TheVariants as s
use Rattle.cs_token.specs.declared.token.Word.{Word}
use Rattle.cs_token.specs.declared.token.Word.TheVariants as w
use Rattle.cs_grammar.specs.Expressions.{SpelledExpression}
use Rattle.cs_grammar.specs.Lambdas.{Spelled}
use Rattle.cs_grammar.specs.Nesting.{too_deep}
use Rattle.cs_grammar.specs.Tokens.{ident}
use Rattle.razor_token.specs.declared.piece.Piece.{Piece}
use Rattle.razor_token.specs.declared.piece.PieceKind.{PieceKind}
use Rattle.razor_token.specs.declared.piece.PieceKind.TheVariants as k
use Rattle.razor_ast.specs.declared.attribute.ValuePart.{ValuePart}
use Rattle.razor_ast.specs.declared.attribute.ValuePart.TheVariants as vp
use Rattle.razor_ast.specs.Attributes.{Parts, Behind, Led, EventValue, TextValue}
use Rattle.razor_ast.specs.Attributes as g
use Rattle.razor_ast.specs.Brackets.{code_of, token_of}
use Rattle.razor_ast.specs.Literals.{literal_of, with_literal, literal_run}
use Rattle.razor_ast.specs.Pieces.{IsKind, code, codes_of}
use Rattle.razor_ast.specs.Shown.{Shown}
use Rattle.razor_ast.specs.Shown as content
use Rattle.razor_reader.specs.declared.mark.Mark.{Mark}
use Rattle.razor_reader.specs.declared.mark.Mark.TheVariants as m
use Rattle.razor_reader.specs.Marks.{is_mark, token_mark, sign_mark, word_mark, mark_number}
use Rattle.razor_reader.specs.Reading.{Read, ◌>>=◌, has, after}
use Rattle.razor_reader.specs.TokenReading.{with_code, code_run}
use Rattle.razor_reader.specs.CodeReading.{spelled, plain, shown, led}
use Rattle.razor_reader.specs.AttributeReading as r
use Rattle.razor_reader.proofs.CodeComplete.{Flat, flat_whole, plain_complete, shown_complete, led_complete}
use Rattle.razor_reader.proofs.CodeLemmas as known

-- each segment of code among the pieces nests nowhere too deeply by itself
pub record FlatPieces (ps : List Piece) : Type 0 where
  pub flat : (before : List Piece) (ts : List Token) (rest : List Piece) → ps ≡ before ++ (codes_of ts ++ rest) → too_deep ts ≡ None

pub flat_behind : (xs ps : List Piece) → FlatPieces (xs ++ ps) → FlatPieces ps
flat_behind xs ps f = record {
  flat = λ before ts rest e. f.flat (xs ++ before) ts rest (ap (λ l. xs ++ l) e ∙ sym (append_assoc xs before (codes_of ts ++ rest)));
}

pub flat_rest : (p : Piece) (ps : List Piece) → FlatPieces (p ∷ ps) → FlatPieces ps
flat_rest p ps f = flat_behind (p ∷ []) ps f

codes_more : (xs ys : List Token) (rest : List Piece) → codes_of (xs ++ ys) ++ rest ≡ codes_of xs ++ (codes_of ys ++ rest)
codes_more [] ys rest = refl
codes_more (x ∷ xs) ys rest = ap (λ l. code x ∷ l) (codes_more xs ys rest)

pub flat_front : (ts : List Token) (rest : List Piece) → FlatPieces (codes_of ts ++ rest) → Flat ts
flat_front ts rest f = record {
  flat =
      λ before here behind e.
      f.flat (codes_of before) here (codes_of behind ++ rest)
      (ap (λ l. codes_of l ++ rest) e ∙ codes_more before (here ++ behind) rest ∙ ap (λ l. codes_of before ++ l) (codes_more here behind rest));
}

-- pieces by their marks

pub after_is : (mark : Mark) (kind : PieceKind) (p : Piece) (ps : List Piece) → is_mark mark kind ≡ true → p.kind ≡ kind → after mark (p ∷ ps) ≡ Some ps
after_is mark kind p ps i e = ap (λ (b : Bool). if b then Some ps else None) (ap (is_mark mark) e ∙ i)

pub after_not : (mark : Mark) (kind : PieceKind) (p : Piece) (ps : List Piece) → is_mark mark kind ≡ false → p.kind ≡ kind → after mark (p ∷ ps) ≡ None
after_not mark kind p ps i e = ap (λ (b : Bool). if b then Some ps else None) (ap (is_mark mark) e ∙ i)

pub at_is : is_mark m.At k.At ≡ true
unfolding mark_number
at_is = refl

pub value_end_is : is_mark m.ValueEnd k.ValueEnd ≡ true
unfolding mark_number
value_end_is = refl

pub expression_end_is : is_mark m.ExpressionEnd k.ExpressionEnd ≡ true
unfolding mark_number
expression_end_is = refl

pub value_no_expression : is_mark m.ExpressionEnd k.ValueEnd ≡ false
unfolding mark_number
value_no_expression = refl

pub at_no_value : is_mark m.ValueEnd k.At ≡ false
unfolding mark_number
at_no_value = refl

pub value_no_at : is_mark m.At k.ValueEnd ≡ false
unfolding mark_number
value_no_at = refl

pub literal_no_value : (x : List ℕ) → is_mark m.ValueEnd (k.Literal x) ≡ false
unfolding mark_number
literal_no_value x = refl

pub literal_no_at : (x : List ℕ) → is_mark m.At (k.Literal x) ≡ false
unfolding mark_number
literal_no_at x = refl

sign_no_at : (sign : Sign) → is_mark m.At (k.Code (t.Sign sign)) ≡ false
unfolding sign_mark mark_number
sign_no_at s.OpenRound = refl
sign_no_at _ = refl

word_no_at : (word : Word) → is_mark m.At (k.Code (t.Word word)) ≡ false
unfolding word_mark mark_number
word_no_at w.If = refl
word_no_at _ = refl

pub code_no_at : (kind : TokenKind) → is_mark m.At (k.Code kind) ≡ false
unfolding mark_number
code_no_at (t.Sign sign) = sign_no_at sign
code_no_at (t.Word word) = word_no_at word
code_no_at _ = refl

-- code up to a piece of another kind

pub code_run_is : (ts : List Token) (p : Piece) (rest : List Piece) → code_of p.kind ≡ None → code_run (codes_of ts ++ p ∷ rest) ≡ (ts, p ∷ rest)
code_run_is [] p rest e = ap (λ o. with_code o p rest (code_run rest)) e
code_run_is (u ∷ ts) p rest e = ap (λ (run : List Token × List Piece). (u ∷ run.0, run.1)) (code_run_is ts p rest e)

-- steps

pub bind_is : {A B : Type 0} (o : Option A) (x : A) (f : A → Option B) → o ≡ Some x → (o >>= f) ≡ f x
bind_is o x f e = ap (λ o. o >>= f) e

-- content expressions

abbrev then_shown : List Piece → Read Expr
then_shown inner = after m.ExpressionEnd (code_run inner).1 >>= λ rest. (shown (code_run inner).0 >>= λ a. Some (a, rest))

pub shown_first_complete : (ps rest : List Piece) (a : Expr) → FlatPieces ps → Shown ps rest a → r.shown_first ps ≡ Some (a, rest)
shown_first_complete _ _ _ f (content.shown at end ts rest a i h j) =
    let inner : List Piece = codes_of ts ++ end ∷ rest in
    let run = code_run_is ts end rest (ap code_of j) in
    let first = after_is m.At k.At at inner at_is i in
    let ends : after m.ExpressionEnd (code_run inner).1 ≡ Some rest = ap (λ (x : List Token × List Piece). after m.ExpressionEnd x.1) run ∙ after_is m.ExpressionEnd k.ExpressionEnd end rest expression_end_is j in
    let read : shown (code_run inner).0 ≡ Some a = ap (λ (x : List Token × List Piece). shown x.0) run ∙ shown_complete ts a (flat_front ts (end ∷ rest) (flat_rest at inner f)) h in
    bind_is (after m.At (at ∷ inner)) inner then_shown first
    ∙ bind_is (after m.ExpressionEnd (code_run inner).1) rest (λ rest. (shown (code_run inner).0 >>= λ a. Some (a, rest))) ends
    ∙ bind_is (shown (code_run inner).0) a (λ a. Some (a, rest)) read

-- literal texts

pub run_behind : (ps : List Piece) → (pre : List Piece) × (ps ≡ pre ++ (literal_run ps).1)
run_behind [] = ([], refl)
run_behind (p ∷ ps) = go (literal_of p.kind) (run_behind ps)
  where
    go : (o : Option (List ℕ)) → (pre : List Piece) × (ps ≡ pre ++ (literal_run ps).1) → (pre : List Piece) × (p ∷ ps ≡ pre ++ (with_literal o p ps (literal_run ps)).1)
    go (Some x) h = (p ∷ h.0, ap (λ l. p ∷ l) h.1)
    go None h = ([], refl)

-- parts

literal_first : (x text : List ℕ) (p : Piece) (ps us : List Piece) → IsKind (k.Literal x) p → literal_run (p ∷ ps) ≡ (text, us) → r.part_first (p ∷ ps) ≡ Some (vp.Literal text, us)
literal_first x text p ps us i e =
    ap (λ (b : Bool). if b then Some (vp.Literal (literal_run (p ∷ ps)).0, (literal_run (p ∷ ps)).1) else (r.shown_first (p ∷ ps) >>= λ x. Some (vp.Shown x.0, x.1))) (ap r.is_literal i)
    ∙ ap (λ (run : List ℕ × List Piece). Some (vp.Literal run.0, run.1)) e

-- the pieces behind a first literal text
pub record Shorter (ps us : List Piece) : Type 0 where
  pub pre : List Piece
  pub whole : ps ≡ pre ++ us
  pub less : length us < length ps

pub behind_literal : (x text : List ℕ) (p : Piece) (ps us : List Piece) → IsKind (k.Literal x) p → literal_run (p ∷ ps) ≡ (text, us) → Shorter (p ∷ ps) us
behind_literal x text p ps us i e =
    let b = run_behind ps in
    let same : (literal_run ps).1 ≡ us = ap (λ (run : List ℕ × List Piece). run.1) (sym (ap (λ o. with_literal o p ps (literal_run ps)) (ap literal_of i)) ∙ e) in
    let whole : ps ≡ b.0 ++ us = b.1 ∙ ap (λ l. b.0 ++ l) same in
    let long = ap length whole ∙ length-append b.0 us in
    record { pre = p ∷ b.0; whole = ap (λ l. p ∷ l) whole; less = omega arith }

pub behind_shown : (ps us : List Piece) (a : Expr) → Shown ps us a → Shorter ps us
behind_shown _ _ _ (content.shown at end ts rest a i h j) =
    let whole : at ∷ (codes_of ts ++ end ∷ rest) ≡ (at ∷ (codes_of ts ++ end ∷ [])) ++ rest = ap (λ l. at ∷ l) (sym (append_assoc (codes_of ts) (end ∷ []) rest)) in
    let long = length-append (codes_of ts) (end ∷ rest) in
    record { pre = at ∷ (codes_of ts ++ end ∷ []); whole = whole; less = omega arith }

shown_no_end : (ps us : List Piece) (a : Expr) → Shown ps us a → after m.ValueEnd ps ≡ None
shown_no_end _ _ _ (content.shown at end ts rest a i h j) = after_not m.ValueEnd k.At at (codes_of ts ++ end ∷ rest) at_no_value i

shown_no_literal : (ps us : List Piece) (a : Expr) → Shown ps us a → r.has_literal ps ≡ false
shown_no_literal _ _ _ (content.shown at end ts rest a i h j) = ap r.is_literal i

abbrev part_step : (List Piece → Read (List ValuePart)) → ValuePart × List Piece → Read (List ValuePart)
part_step more x = more x.1 >>= λ y. Some (x.0 ∷ y.0, y.1)

abbrev parts_step : (List Piece → Read (List ValuePart)) → List Piece → Option (List Piece) → Read (List ValuePart)
parts_step more ps o = elim o [ Some rest ↦ Some ([], rest) | None ↦ r.part_first ps >>= part_step more ]

pub parts_in_complete : (n : ℕ) (ps rest : List Piece) (parts : List ValuePart) → length ps ≤ n → FlatPieces ps → Parts ps rest parts → r.parts_in n ps ≡ Some (parts, rest)
unfolding r.parts_in
parts_in_complete zero _ _ _ short f (g.no_part end rest i) = absurd (omega arith)
parts_in_complete (suc n) _ _ _ short f (g.no_part end rest i) =
    ap (parts_step (r.parts_in n) (end ∷ rest)) (after_is m.ValueEnd k.ValueEnd end rest value_end_is i)
parts_in_complete zero _ _ _ short f (g.literal x text p ps us rest parts i e h) = absurd (omega arith)
parts_in_complete (suc n) _ _ _ short f (g.literal x text p ps us rest parts i e h) =
    let s = behind_literal x text p ps us i e in
    let less = s.less in
    let read = parts_in_complete n us rest parts (omega arith) (flat_behind s.pre us (subst FlatPieces s.whole f)) h in
    ap (parts_step (r.parts_in n) (p ∷ ps)) (after_not m.ValueEnd (k.Literal x) p ps (literal_no_value x) i)
    ∙ bind_is (r.part_first (p ∷ ps)) (vp.Literal text, us) (part_step (r.parts_in n)) (literal_first x text p ps us i e)
    ∙ bind_is (r.parts_in n us) (parts, rest) (λ y. Some (vp.Literal text ∷ y.0, y.1)) read
parts_in_complete zero ps _ _ short f (g.shown _ us rest a parts h more) = let s = behind_shown ps us a h in let less = s.less in absurd (omega arith)
parts_in_complete (suc n) ps _ _ short f (g.shown _ us rest a parts h more) =
    let s = behind_shown ps us a h in
    let less = s.less in
    let read = parts_in_complete n us rest parts (omega arith) (flat_behind s.pre us (subst FlatPieces s.whole f)) more in
    let first : r.part_first ps ≡ Some (vp.Shown a, us) =
    ap (λ (b : Bool). if b then Some (vp.Literal (literal_run ps).0, (literal_run ps).1) else (r.shown_first ps >>= λ x. Some (vp.Shown x.0, x.1))) (shown_no_literal ps us a h)
    ∙ bind_is (r.shown_first ps) (a, us) (λ x. Some (vp.Shown x.0, x.1)) (shown_first_complete ps us a f h) in
    ap (parts_step (r.parts_in n) ps) (shown_no_end ps us a h)
    ∙ bind_is (r.part_first ps) (vp.Shown a, us) (part_step (r.parts_in n)) first
    ∙ bind_is (r.parts_in n us) (parts, rest) (λ y. Some (vp.Shown a ∷ y.0, y.1)) read

pub parts_complete : (ps rest : List Piece) (parts : List ValuePart) → FlatPieces ps → Parts ps rest parts → r.parts_first ps ≡ Some (parts, rest)
unfolding r.parts_first
parts_complete ps rest parts f h = parts_in_complete (length ps) ps rest parts (omega arith) f h

-- an at sign and what stands behind it

abbrev then_led : List Piece → Read Expr
then_led inner = after m.ValueEnd (r.past_expression (code_run inner).1) >>= λ rest. (led (code_run inner).0 >>= λ a. Some (a, rest))

led_by_run : (at : Piece) (inner us rest : List Piece) (ts : List Token) (a : Expr) → IsKind k.At at → code_run inner ≡ (ts, us) → after m.ValueEnd (r.past_expression us) ≡ Some rest
    → led ts ≡ Some a → r.led_first (at ∷ inner) ≡ Some (a, rest)
led_by_run at inner us rest ts a i run ends read =
    bind_is (after m.At (at ∷ inner)) inner then_led (after_is m.At k.At at inner at_is i)
    ∙ bind_is (after m.ValueEnd (r.past_expression (code_run inner).1)) rest (λ rest. (led (code_run inner).0 >>= λ a. Some (a, rest)))
    (ap (λ (x : List Token × List Piece). after m.ValueEnd (r.past_expression x.1)) run ∙ ends)
    ∙ bind_is (led (code_run inner).0) a (λ a. Some (a, rest)) (ap (λ (x : List Token × List Piece). led x.0) run ∙ read)

pub led_first_complete : (ps rest : List Piece) (a : Expr) → FlatPieces ps → Led ps rest a → r.led_first ps ≡ Some (a, rest)
led_first_complete _ _ _ f (g.quoted at end ts rest a i h j) =
    let inner : List Piece = codes_of ts ++ end ∷ rest in
    let ends : after m.ValueEnd (r.past_expression (end ∷ rest)) ≡ Some rest =
    ap (λ (b : Bool). after m.ValueEnd (if b then rest else end ∷ rest)) (ap (is_mark m.ExpressionEnd) j ∙ value_no_expression) ∙ after_is m.ValueEnd k.ValueEnd end rest value_end_is j in
    led_by_run at inner (end ∷ rest) rest ts a i (code_run_is ts end rest (ap code_of j)) ends (led_complete ts a (flat_front ts (end ∷ rest) (flat_rest at inner f)) h)
led_first_complete _ _ _ f (g.bare at x end ts rest a i h j l) =
    let inner : List Piece = codes_of ts ++ x ∷ end ∷ rest in
    let ends : after m.ValueEnd (r.past_expression (x ∷ end ∷ rest)) ≡ Some rest =
    ap (λ (b : Bool). after m.ValueEnd (if b then end ∷ rest else x ∷ end ∷ rest)) (ap (is_mark m.ExpressionEnd) j ∙ expression_end_is) ∙ after_is m.ValueEnd k.ValueEnd end rest value_end_is l in
    led_by_run at inner (x ∷ end ∷ rest) rest ts a i (code_run_is ts x (end ∷ rest) (ap code_of j)) ends (led_complete ts a (flat_front ts (x ∷ end ∷ rest) (flat_rest at inner f)) h)

pub led_has_at : (ps rest : List Piece) (a : Expr) → Led ps rest a → has m.At ps ≡ true
led_has_at _ _ _ (g.quoted at end ts rest a i h j) = ap (is_mark m.At) i ∙ at_is
led_has_at _ _ _ (g.bare at x end ts rest a i h j l) = ap (is_mark m.At) i ∙ at_is

-- code as the whole value

code_has_no_at : (ts : List Token) (end : Piece) (rest : List Piece) → IsKind k.ValueEnd end → has m.At (codes_of ts ++ end ∷ rest) ≡ false
code_has_no_at [] end rest i = ap (is_mark m.At) i ∙ value_no_at
code_has_no_at (u ∷ ts) end rest i = code_no_at u.kind

abbrev with_rest : {A : Type 0} → List Piece → A → Read A
with_rest us b = Some (b, us)

by_run : {A : Type 0} (read : List Token → Option A) (ts : List Token) (end : Piece) (rest : List Piece) (a : A) → IsKind k.ValueEnd end → read ts ≡ Some a
    → (after m.ValueEnd (code_run (codes_of ts ++ end ∷ rest)).1 >>= λ us. (read (code_run (codes_of ts ++ end ∷ rest)).0 >>= with_rest us)) ≡ with_rest rest a
by_run read ts end rest a i e =
    let inner : List Piece = codes_of ts ++ end ∷ rest in
    let run = code_run_is ts end rest (ap code_of i) in
    bind_is (after m.ValueEnd (code_run inner).1) rest (λ us. (read (code_run inner).0 >>= with_rest us))
    (ap (λ (x : List Token × List Piece). after m.ValueEnd x.1) run ∙ after_is m.ValueEnd k.ValueEnd end rest value_end_is i)
    ∙ bind_is (read (code_run inner).0) a (with_rest rest) (ap (λ (x : List Token × List Piece). read x.0) run ∙ e)

pub event_value_complete : (ps rest : List Piece) (a : Expr) → FlatPieces ps → EventValue ps rest a → r.event_value ps ≡ Some (a, rest)
event_value_complete _ _ _ f (g.led ps rest a h) =
    ap (λ (b : Bool). if b then r.led_first ps else r.code_value ps) (led_has_at ps rest a h) ∙ led_first_complete ps rest a f h
event_value_complete _ _ _ f (g.plain end ts rest a h i) =
    let ps : List Piece = codes_of ts ++ end ∷ rest in
    ap (λ (b : Bool). if b then r.led_first ps else r.code_value ps) (code_has_no_at ts end rest i)
    ∙ by_run spelled ts end rest a i (known.is_spelled ts a (flat_whole ts (flat_front ts (end ∷ rest) f), h))

pub key_value_complete : (ts : List Token) (end : Piece) (rest : List Piece) (a : Expr) → FlatPieces (codes_of ts ++ end ∷ rest) → SpelledExpression ts a → IsKind k.ValueEnd end
    → r.key_value (codes_of ts ++ end ∷ rest) ≡ Some (a, rest)
key_value_complete ts end rest a f h i = by_run plain ts end rest a i (plain_complete ts a (flat_whole ts (flat_front ts (end ∷ rest) f)) h)

pub name_value_complete : (x : List ℕ) (n : Token) (end : Piece) (rest : List Piece) → n.kind ≡ t.Name x → IsKind k.ValueEnd end → r.name_value (code n ∷ end ∷ rest) ≡ Some (ident n x, rest)
name_value_complete x n end rest i j =
    bind_is (r.name_in n.kind (code n)) (ident n x) (λ a. (after m.ValueEnd (end ∷ rest) >>= λ us. Some (a, us))) (ap (λ kind. r.name_in kind (code n)) i)
    ∙ bind_is (after m.ValueEnd (end ∷ rest)) rest (λ us. Some (ident n x, us)) (after_is m.ValueEnd k.ValueEnd end rest value_end_is j)

pub text_value_complete : (ps rest : List Piece) (text : List ℕ) → TextValue ps rest text → r.text_value ps ≡ Some (text, rest)
text_value_complete _ _ _ (g.text end ps rest text e i) =
    ap (λ (run : List ℕ × List Piece). after m.ValueEnd run.1 >>= λ us. Some (run.0, us)) e
    ∙ bind_is (after m.ValueEnd (end ∷ rest)) rest (λ us. Some (text, us)) (after_is m.ValueEnd k.ValueEnd end rest value_end_is i)
