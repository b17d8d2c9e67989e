-- What is spelled as an expression is read.
use Rattle.std.proofs.Common.{◌≡◌, ℕ, ◌+◌, ◌-◌, ◌<◌, ◌≤◌, List, [], ◌∷◌, length, refl, sym, ap, ◌∙◌, arith, inl, inr}
use Rattle.std.specs.Prelude.{true, false, ◌&&◌, nat_lt, if◌then◌else◌, codes, Some, None}
use Rattle.std.proofs.lemmas.Bool.{lt-ltb, le-ltb}
use Rattle.std.proofs.Math.Bool.{and-false}
use Rattle.std.specs.Str.{bytes_eq}
use Rattle.text_core.specs.declared.place.Place.{Place}
use Rattle.cs_ast.specs.declared.cs_type.TypeExpr.{TypeExpr}
use Rattle.cs_ast.specs.declared.expression.Expr.{Expr}
use Rattle.cs_ast.specs.declared.expression.ExprKind.{ExprKind}
use Rattle.cs_ast.specs.declared.expression.ExprKind.TheVariants as ek
use Rattle.cs_ast.specs.declared.expression.TextPart.{TextPart}
use Rattle.cs_ast.specs.declared.expression.TextPart.TheVariants as tp
use Rattle.cs_ast.specs.declared.expression.WithPart.{WithPart}
use Rattle.cs_ast.specs.declared.operators.BinaryOp.{BinaryOp}
use Rattle.cs_ast.specs.declared.operators.CastOp.TheVariants as co
use Rattle.cs_ast.specs.declared.operators.StaticType.{StaticType}
use Rattle.cs_ast.specs.declared.operators.UnaryOp.{UnaryOp}
use Rattle.cs_token.specs.declared.token.Token.{Token}
use Rattle.cs_token.specs.declared.token.TokenKind.{TokenKind}
use Rattle.cs_token.specs.declared.token.TokenKind.TheVariants as k
use Rattle.cs_token.specs.declared.token.Sign.{Sign}
use Rattle.cs_token.specs.declared.token.Sign.TheVariants as s
use Rattle.cs_token.specs.declared.token.Word.{Word}
use Rattle.cs_token.specs.declared.token.Word.TheVariants as w
use Rattle.cs_grammar.specs.Tokens.{IsSign, IsWord, IsName, ident}
use Rattle.cs_grammar.specs.Tables.{level, left_level, right_level, operator, unary_operator, static_type, literal}
use Rattle.cs_grammar.specs.Types.{WritesType}
use Rattle.cs_grammar.specs.Expressions.{node, with_part, Spells, Arguments, Values, WithParts, TextParts}
use Rattle.cs_grammar.specs.Expressions as g
use Rattle.cs_parse.specs.Numbers.{sign_number, word_number}
use Rattle.cs_parse.specs.declared.tables.Going.{Going}
use Rattle.cs_parse.specs.declared.tables.Going.TheVariants as go
use Rattle.cs_parse.specs.declared.tables.FirstWord.TheVariants as fw
use Rattle.cs_parse.specs.declared.tables.FirstSign.TheVariants as fs
use Rattle.cs_parse.specs.Reading.{Read, ◌>>=◌, after, name_first, is_sign, is_word}
use Rattle.cs_parse.specs.TypeReading.{type_first}
use Rattle.cs_parse.specs.ExpressionReading.{Reads, within, expr_in, loop_in, values_in, with_parts_in, text_parts_in, going, going_sign, strength, next, first_word, first_sign, as_cast, expr_first}
use Rattle.cs_parse.specs.ExpressionReading as r
use Rattle.cs_parse.proofs.TokenLemmas.{after_yes, after_not, name_yes, is_that_sign, is_that_word}
use Rattle.cs_parse.proofs.TypeComplete.{type_complete, type_shrinks, greater_ends}
use Rattle.cs_parse.proofs.ExpressionLaws.{expr_law, loop_law, values_law, with_parts_law, text_parts_law}
use Rattle.cs_parse.proofs.LevelLemmas.{levels, next_gaps, operator_going}
use Rattle.cs_parse.proofs.FirstLemmas.{literal_word, static_word, operator_sign}

-- reading goes on with the expression behind its tokens
record Reached (n m : ℕ) (p : Place) (ts : List Token) (a : Expr) (rest : List Token) : Type 0 where
  left : ℕ
  enough : length rest < left
  less : left ≤ n
  same : expr_in n m ts ≡ loop_in left m p a rest

record Completes (l : ℕ) (p : Place) (ts rest : List Token) (a : Expr) : Type 0 where
  by : (n m : ℕ) → m ≤ l → next rest ≤ l + 1 → length ts < n → Reached n m p ts a rest

-- a list is read up to what follows it
abbrev Done : {A : Type 0} → (ℕ → List Token → Read A) → ℕ → List Token → A → List Token → Type 0
Done read n ts a rest = (read n ts ≡ Some (a, rest)) × (length rest < n)

loop_stops : (n m : ℕ) (p : Place) (a : Expr) (rest : List Token) → 0 < n → next rest ≤ m → loop_in n m p a rest ≡ Some (a, rest)
loop_stops n m p a [] h i = loop_law n m p a [] h
loop_stops n m p a (t ∷ ts) h i =
    loop_law n m p a (t ∷ ts) h ∙ ap (λ d. if d then r.longer (within (n - 1)) m p a (going t.kind) ts else Some (a, t ∷ ts)) (le-ltb _ _ i)

loop_goes : (n m : ℕ) (p : Place) (a : Expr) (t : Token) (ts : List Token) (kind : Going) → 0 < n → going t.kind ≡ kind → m < strength kind →
    loop_in n m p a (t ∷ ts) ≡ r.longer (within (n - 1)) m p a kind ts
loop_goes n m p a t ts kind h e i =
    loop_law n m p a (t ∷ ts) h ∙ ap (λ x. if nat_lt m (strength x) then r.longer (within (n - 1)) m p a x ts else Some (a, t ∷ ts)) e
    ∙ ap (λ d. if d then r.longer (within (n - 1)) m p a kind ts else Some (a, t ∷ ts)) (lt-ltb _ _ i)

start : (n m : ℕ) (t : Token) (ts rest : List Token) (a : Expr) → 0 < n → r.prefix (within (n - 1)) t.kind t.place ts ≡ Some (a, rest) → expr_in n m (t ∷ ts) ≡ loop_in (n - 1) m t.place a rest
start n m t ts rest a h e = expr_law n m (t ∷ ts) h ∙ ap (λ o. o >>= λ x. loop_in (n - 1) m t.place x.0 x.1) e

-- all that is read of a level is the expression
finish : {n m : ℕ} {p : Place} {ts : List Token} {a : Expr} {rest : List Token} → Reached n m p ts a rest → next rest ≤ m → Done (λ n. expr_in n m) n ts a rest
finish {n} {m} {p} {ts} {a} {rest} x i = (x.same ∙ loop_stops x.left m p a rest (omega (arith, x.enough)) i, omega (arith, x.enough, x.less))

-- what begins with a token
prefixed : (l : ℕ) (t : Token) (ts rest : List Token) (a : Expr) → ((n : ℕ) → length ts < n → Done (λ n. r.prefix (within n) t.kind t.place) n ts a rest) → Completes l t.place (t ∷ ts) rest a
prefixed l t ts rest a read = record {
  by = λ n m h f len.
      let x = read (n - 1) (omega arith) in
      record { left = n - 1; enough = x.1; less = omega arith; same = start n m t ts rest a (omega arith) x.0 };
}

-- a sign that goes on with nothing
quiet : (sign : Sign) (t : Token) (rest : List Token) → IsSign sign t → going_sign sign ≡ go.Nothing → next (t ∷ rest) ≡ 0
quiet sign t rest e q = ap (λ kind. strength (going kind)) e ∙ ap strength q

close_round : going_sign s.CloseRound ≡ go.Nothing
unfolding going_sign
close_round = refl

close_square : going_sign s.CloseSquare ≡ go.Nothing
unfolding going_sign
close_square = refl

close_brace : going_sign s.CloseBrace ≡ go.Nothing
unfolding going_sign
close_brace = refl

hole_close : going_sign s.HoleClose ≡ go.Nothing
unfolding going_sign
hole_close = refl

comma : going_sign s.Comma ≡ go.Nothing
unfolding going_sign
comma = refl

colon : going_sign s.Colon ≡ go.Nothing
unfolding going_sign
colon = refl

-- a sign that goes on
going_to : (sign : Sign) (kind : Going) (t : Token) → IsSign sign t → going_sign sign ≡ kind → going t.kind ≡ kind
going_to sign kind t e q = ap going e ∙ q

question_goes : going_sign s.Question ≡ go.Conditional
unfolding going_sign
question_goes = refl

question_dot_goes : going_sign s.QuestionDot ≡ go.NullMember
unfolding going_sign
question_dot_goes = refl

dot_goes : going_sign s.Dot ≡ go.Member
unfolding going_sign
dot_goes = refl

round_goes : going_sign s.OpenRound ≡ go.Call
unfolding going_sign
round_goes = refl

square_goes : going_sign s.OpenSquare ≡ go.Index
unfolding going_sign
square_goes = refl

-- a sign is another one
other_sign : (sign other : Sign) (t : Token) (rest : List Token) → IsSign other t → is_sign sign (k.Sign other) ≡ false → after sign (t ∷ rest) ≡ None
other_sign sign other t rest e d = after_not sign t rest (ap (is_sign sign) e ∙ d)

round_no_comma : is_sign s.Comma (k.Sign s.CloseRound) ≡ false
unfolding sign_number
round_no_comma = refl

brace_no_comma : is_sign s.Comma (k.Sign s.CloseBrace) ≡ false
unfolding sign_number
brace_no_comma = refl

end_no_hole : is_sign s.HoleOpen (k.Sign s.InterpolationEnd) ≡ false
unfolding sign_number
end_no_hole = refl

hole_is_hole : is_sign s.HoleOpen (k.Sign s.HoleOpen) ≡ true
unfolding sign_number
hole_is_hole = refl

interpolation_first : first_sign s.InterpolationStart ≡ fs.Interpolation
unfolding first_sign
interpolation_first = refl

round_first : first_sign s.OpenRound ≡ fs.Round
unfolding first_sign
round_first = refl

new_first : first_word w.New ≡ fw.New
unfolding first_word
new_first = refl

list_first : first_word w.ImmutableList ≡ fw.List
unfolding first_word
list_first = refl

-- an expression begins neither with a closing bracket nor as a cast does
record Begins (ts : List Token) : Type 0 where
  open_ : after s.CloseRound ts ≡ None
  no_cast : as_cast ts ≡ None

not_string : (t : Token) (us : List Token) → is_word w.String t.kind ≡ false → as_cast (t ∷ us) ≡ None
not_string t [] e = refl
not_string t (c ∷ us) e = ap (λ b. if b && is_sign s.CloseRound c.kind then Some us else None) e

begins_with : (t : Token) (us : List Token) → is_word w.String t.kind ≡ false → is_sign s.CloseRound t.kind ≡ false → Begins (t ∷ us)
begins_with t us e1 e2 = record { open_ = after_not s.CloseRound t us e2; no_cast = not_string t us e1 }

begins_sign : (sign : Sign) (t : Token) (us : List Token) → IsSign sign t → is_sign s.CloseRound (k.Sign sign) ≡ false → Begins (t ∷ us)
begins_sign sign t us e d = begins_with t us (ap (is_word w.String) e) (ap (is_sign s.CloseRound) e ∙ d)

unary_no_close : (sign : Sign) (op : UnaryOp) → unary_operator sign ≡ Some op → is_sign s.CloseRound (k.Sign sign) ≡ false
unfolding unary_operator sign_number
unary_no_close s.Minus op e = refl
unary_no_close s.Plus op e = refl
unary_no_close s.Not op e = refl
unary_no_close _ op e = absurd (cc)

literal_no_string : (word : Word) (kind : ExprKind) → literal word ≡ Some kind → is_word w.String (k.Word word) ≡ false
unfolding literal word_number
literal_no_string w.True kind e = refl
literal_no_string w.False kind e = refl
literal_no_string w.Null kind e = refl
literal_no_string _ kind e = absurd (cc)

open_no_close : is_sign s.CloseRound (k.Sign s.OpenRound) ≡ false
unfolding sign_number
open_no_close = refl

interpolation_no_close : is_sign s.CloseRound (k.Sign s.InterpolationStart) ≡ false
unfolding sign_number
interpolation_no_close = refl

dot_no_close : is_sign s.CloseRound (k.Sign s.Dot) ≡ false
unfolding sign_number
dot_no_close = refl

new_no_string : is_word w.String (k.Word w.New) ≡ false
unfolding word_number
new_no_string = refl

list_no_string : is_word w.String (k.Word w.ImmutableList) ≡ false
unfolding word_number
list_no_string = refl

begins_word : (word : Word) (t : Token) (us : List Token) → IsWord word t → is_word w.String (k.Word word) ≡ false → Begins (t ∷ us)
begins_word word t us e d = begins_with t us (ap (is_word w.String) e ∙ d) (ap (is_sign s.CloseRound) e)

begins : (l : ℕ) (p : Place) (ts rest : List Token) (a : Expr) → Spells l p ts rest a → Begins ts
begins l p ts rest a (g.conditional _ _ q v t c _ us vs _ b d f h2 s1 e1 s2 e2 s3) = begins 1 p ts (t ∷ us) b s1
begins l p ts rest a (g.binary _ sign op _ q t _ us _ b d h2 s1 e1 e2 s2) = begins (left_level op) p ts (t ∷ us) b s1
begins l p ts rest a (g.with_parts _ _ t o c _ us _ b parts h2 s1 e1 e2 s2 e3) = begins 10 p ts (t ∷ o ∷ us) b s1
begins l p ts rest a (g.unary _ sign op q t us _ b h2 e1 e2 s1) = begins_sign sign t us e1 (unary_no_close sign op e2)
begins l p ts rest a (g.cast _ q o t c us _ b h2 e1 e2 e3 s1) = begins_sign s.OpenRound o (t ∷ c ∷ us) e1 open_no_close
begins l p ts rest a (g.null_member _ x _ d t _ _ b h2 s1 e1 e2) = begins 12 p ts (d ∷ t ∷ rest) b s1
begins l p ts rest a (g.member _ x _ d t _ _ b h2 s1 e1 e2) = begins 13 p ts (d ∷ t ∷ rest) b s1
begins l p ts rest a (g.call _ _ o _ us _ b bs h2 s1 e1 s2) = begins 13 p ts (o ∷ us) b s1
begins l p ts rest a (g.index _ _ q o c _ us _ b d h2 s1 e1 s2 e2) = begins 13 p ts (o ∷ us) b s1
begins l p ts rest a (g.number _ n t _ e) = begins_with t rest (ap (is_word w.String) e) (ap (is_sign s.CloseRound) e)
begins l p ts rest a (g.text _ x t _ e) = begins_with t rest (ap (is_word w.String) e) (ap (is_sign s.CloseRound) e)
begins l p ts rest a (g.literals _ word kind t _ e1 e2) = begins_word word t rest e1 (literal_no_string word kind e2)
begins l p ts rest a (g.interpolated _ o c us _ parts e1 s1 e2) = begins_sign s.InterpolationStart o us e1 interpolation_no_close
begins l p ts rest a (g.name _ x t _ e) = begins_with t rest (ap (is_word w.String) e) (ap (is_sign s.CloseRound) e)
begins l p ts rest a (g.static _ word owner x t d n _ e1 e2 e3 e4) = record {
  open_ = after_not s.CloseRound t (d ∷ n ∷ rest) (ap (is_sign s.CloseRound) e1);
  no_cast = ap (λ b. if is_word w.String t.kind && b then Some (n ∷ rest) else None) (ap (is_sign s.CloseRound) e3 ∙ dot_no_close)
      ∙ ap (λ b. if b then Some (n ∷ rest) else None) (and-false (is_word w.String t.kind));
}
begins l p ts rest a (g.brackets _ q o c us _ _ e1 s1 e2) = begins_sign s.OpenRound o us e1 open_no_close
begins l p ts rest a (g.new_record _ x t n o us _ bs e1 e2 e3 s1) = begins_word w.New t (n ∷ o ∷ us) e1 new_no_string
begins l p ts rest a (g.empty_list _ t o c d n us _ b e1 e2 w' e3 e4 e5) = begins_word w.ImmutableList t (o ∷ us) e1 list_no_string

begin_values : (ts rest : List Token) (bs : List Expr) → Values ts rest bs → Begins ts
begin_values ts rest bs (g.one_value p _ _ a sp) = begins 0 p ts rest a sp
begin_values ts rest bs (g.more_values p t _ us _ a cs sp e vs) = begins 0 p ts (t ∷ us) a sp

-- the forms that begin with a token
of_kind : (n : ℕ) (t : Token) (ts : List Token) (kind : TokenKind) → t.kind ≡ kind → r.prefix (within n) t.kind t.place ts ≡ r.prefix (within n) kind t.place ts
of_kind n t ts kind e = ap (λ x. r.prefix (within n) x t.place ts) e

literal_complete : (l : ℕ) (word : Word) (kind : ExprKind) (t : Token) (rest : List Token) → IsWord word t → literal word ≡ Some kind → Completes l t.place (t ∷ rest) rest (node t.place kind)
literal_complete l word kind t rest e1 e2 = prefixed l t rest rest (node t.place kind) (λ n len. (
  of_kind n t rest (k.Word word) e1 ∙ elim (literal_word word kind e2) [
    | inl x ↦ ap (λ y. r.of_word (within n) y t.place rest) x.1 ∙ ap (λ z. Some (node t.place z, rest)) (sym x.2)
    | inr x ↦ ap (λ y. r.of_word (within n) y t.place rest) x.0 ∙ ap (λ z. Some (node t.place z, rest)) (sym x.1)
  ],
  len,
))

static_complete : (l : ℕ) (word : Word) (owner : StaticType) (x : List ℕ) (t d n : Token) (rest : List Token) → IsWord word t → static_type word ≡ Some owner → IsSign s.Dot d → IsName x n →
    Completes l t.place (t ∷ d ∷ n ∷ rest) rest (node t.place (ek.Static owner (ident n x)))
static_complete l word owner x t d n rest e1 e2 e3 e4 = prefixed l t (d ∷ n ∷ rest) rest (node t.place (ek.Static owner (ident n x))) (λ m len. (
  of_kind m t (d ∷ n ∷ rest) (k.Word word) e1 ∙ ap (λ y. r.of_word (within m) y t.place (d ∷ n ∷ rest)) (static_word word owner e2)
      ∙ ap (λ o. o >>= λ q. (name_first q >>= λ j. Some (node t.place (ek.Static owner j.0), j.1))) (after_yes s.Dot d (n ∷ rest) e3)
      ∙ ap (λ o. o >>= λ j. Some (node t.place (ek.Static owner j.0), j.1)) (name_yes x n rest e4),
  omega arith,
))

record ValuesDone (ts rest : List Token) (bs : List Expr) : Type 0 where
  by : (n : ℕ) → length ts < n → next rest ≤ 0 → after s.Comma rest ≡ None → Done values_in n ts bs rest

record ArgumentsDone (ts rest : List Token) (bs : List Expr) : Type 0 where
  by : (n : ℕ) → length ts < n → Done (λ n. r.arguments (within n)) n ts bs rest

record PartsDone (ts rest : List Token) (parts : List WithPart) : Type 0 where
  by : (n : ℕ) → length ts < n → next rest ≤ 0 → after s.Comma rest ≡ None → Done with_parts_in n ts parts rest

record TextsDone (ts rest : List Token) (parts : List TextPart) : Type 0 where
  by : (n : ℕ) → length ts < n → ((m : ℕ) → r.text_part_by (expr_in m 0) rest ≡ Some None) → Done text_parts_in n ts parts rest

interpolated_complete : (l : ℕ) (o c : Token) (ts rest : List Token) (parts : List TextPart) → IsSign s.InterpolationStart o → IsSign s.InterpolationEnd c → TextsDone ts (c ∷ rest) parts →
    Completes l o.place (o ∷ ts) rest (node o.place (ek.Interpolated parts))
interpolated_complete l o c ts rest parts e1 e2 sub = prefixed l o ts rest (node o.place (ek.Interpolated parts)) (λ n len.
    let stop : (m : ℕ) → r.text_part_by (expr_in m 0) (c ∷ rest) ≡ Some None = λ m. ap (λ kind. r.text_part_of (expr_in m 0) kind rest) e2 ∙ ap (λ b. if b then r.hole (expr_in m 0) rest else Some None) end_no_hole in
    let x = sub.by n len stop in (
      of_kind n o ts (k.Sign s.InterpolationStart) e1 ∙ ap (λ y. r.of_sign (within n) y o.place ts) interpolation_first
          ∙ ap (λ d. d >>= λ y. (after s.InterpolationEnd y.1 >>= λ q. Some (node o.place (ek.Interpolated y.0), q))) x.0
          ∙ ap (λ d. d >>= λ q. Some (node o.place (ek.Interpolated parts), q)) (after_yes s.InterpolationEnd c rest e2),
      omega (arith, x.1),
    ))

brackets_complete : (l : ℕ) (p : Place) (o c : Token) (ts rest : List Token) (a : Expr) → IsSign s.OpenRound o → IsSign s.CloseRound c → Begins ts → Completes 0 p ts (c ∷ rest) a → Completes l o.place (o ∷ ts) rest a
brackets_complete l p o c ts rest a e1 e2 b sub = prefixed l o ts rest a (λ n len.
    let q = quiet s.CloseRound c rest e2 close_round in
    let x = finish (sub.by n 0 (omega arith) (omega (arith, q)) len) (omega (arith, q)) in (
      of_kind n o ts (k.Sign s.OpenRound) e1 ∙ ap (λ y. r.of_sign (within n) y o.place ts) round_first
          ∙ ap (λ d. elim d [ Some v ↦ r.cast (within n) o.place v | None ↦ r.bracketed (within n) ts ]) b.no_cast
          ∙ ap (λ d. d >>= λ y. (after s.CloseRound y.1 >>= λ v. Some (y.0, v))) x.0
          ∙ ap (λ d. d >>= λ v. Some (a, v)) (after_yes s.CloseRound c rest e2),
      omega (arith, x.1),
    ))

cast_complete : (l : ℕ) (p : Place) (o t c : Token) (ts rest : List Token) (a : Expr) → l ≤ 11 → IsSign s.OpenRound o → IsWord w.String t → IsSign s.CloseRound c → Completes 11 p ts rest a →
    Completes l o.place (o ∷ t ∷ c ∷ ts) rest (node o.place (ek.Cast co.Text a))
cast_complete l p o t c ts rest a l11 e1 e2 e3 sub = record {
  by = λ n m h f len.
      let x = finish (sub.by (n - 1) 11 (omega arith) (omega arith) (omega arith)) ((next_gaps rest).2 (omega arith)) in
      record {
        left = n - 1;
        enough = x.1;
        less = omega arith;
        same = start n m o (t ∷ c ∷ ts) rest (node o.place (ek.Cast co.Text a)) (omega arith)
            (of_kind (n - 1) o (t ∷ c ∷ ts) (k.Sign s.OpenRound) e1 ∙ ap (λ y. r.of_sign (within (n - 1)) y o.place (t ∷ c ∷ ts)) round_first
            ∙ ap (λ b. elim (if b && is_sign s.CloseRound c.kind then Some ts else None) [ Some v ↦ r.cast (within (n - 1)) o.place v | None ↦ r.bracketed (within (n - 1)) (t ∷ c ∷ ts) ]) (is_that_word w.String t e2)
            ∙ ap (λ b. elim (if b then Some ts else None) [ Some v ↦ r.cast (within (n - 1)) o.place v | None ↦ r.bracketed (within (n - 1)) (t ∷ c ∷ ts) ]) (is_that_sign s.CloseRound c e3)
            ∙ ap (λ d. d >>= λ y. Some (node o.place (ek.Cast co.Text y.0), y.1)) x.0);
      };
}

unary_complete : (l : ℕ) (sign : Sign) (op : UnaryOp) (p : Place) (t : Token) (ts rest : List Token) (a : Expr) → l ≤ 11 → IsSign sign t → unary_operator sign ≡ Some op → Completes 11 p ts rest a →
    Completes l t.place (t ∷ ts) rest (node t.place (ek.Unary op a))
unary_complete l sign op p t ts rest a l11 e1 e2 sub = record {
  by = λ n m h f len.
      let x = finish (sub.by (n - 1) 11 (omega arith) (omega arith) (omega arith)) ((next_gaps rest).2 (omega arith)) in
      record {
        left = n - 1;
        enough = x.1;
        less = omega arith;
        same = start n m t ts rest (node t.place (ek.Unary op a)) (omega arith)
            (of_kind (n - 1) t ts (k.Sign sign) e1 ∙ ap (λ y. r.of_sign (within (n - 1)) y t.place ts) (operator_sign sign op e2)
            ∙ ap (λ d. d >>= λ y. Some (node t.place (ek.Unary op y.0), y.1)) x.0);
      };
}

none_complete : (c : Token) (rest : List Token) → IsSign s.CloseRound c → ArgumentsDone (c ∷ rest) rest []
none_complete c rest e = record { by = λ n len. (ap (λ o. elim o [ Some v ↦ Some ([], v) | None ↦ r.some_arguments (within n) (c ∷ rest) ]) (after_yes s.CloseRound c rest e), omega arith) }

some_complete : (c : Token) (ts rest : List Token) (bs : List Expr) → IsSign s.CloseRound c → Begins ts → ValuesDone ts (c ∷ rest) bs → ArgumentsDone ts rest bs
some_complete c ts rest bs e b sub = record {
  by = λ n len.
      let x = sub.by n len (omega (arith, quiet s.CloseRound c rest e close_round)) (other_sign s.Comma s.CloseRound c rest e round_no_comma) in (
        ap (λ o. elim o [ Some v ↦ Some ([], v) | None ↦ r.some_arguments (within n) ts ]) b.open_
            ∙ ap (λ o. o >>= λ y. (after s.CloseRound y.1 >>= λ v. Some (y.0, v))) x.0
            ∙ ap (λ o. o >>= λ v. Some (bs, v)) (after_yes s.CloseRound c rest e),
        omega (arith, x.1),
      );
}

record_complete : (l : ℕ) (x : List ℕ) (t n o : Token) (ts rest : List Token) (bs : List Expr) → IsWord w.New t → IsName x n → IsSign s.OpenRound o → ArgumentsDone ts rest bs →
    Completes l t.place (t ∷ n ∷ o ∷ ts) rest (node t.place (ek.New (ident n x) bs))
record_complete l x t n o ts rest bs e1 e2 e3 sub = prefixed l t (n ∷ o ∷ ts) rest (node t.place (ek.New (ident n x) bs)) (λ m len.
    let y = sub.by m (omega arith) in (
      of_kind m t (n ∷ o ∷ ts) (k.Word w.New) e1 ∙ ap (λ z. r.of_word (within m) z t.place (n ∷ o ∷ ts)) new_first
          ∙ ap (λ d. d >>= λ j. (after s.OpenRound j.1 >>= λ v. (r.arguments (within m) v >>= λ z. Some (node t.place (ek.New j.0 z.0), z.1)))) (name_yes x n (o ∷ ts) e2)
          ∙ ap (λ d. d >>= λ v. (r.arguments (within m) v >>= λ z. Some (node t.place (ek.New (ident n x) z.0), z.1))) (after_yes s.OpenRound o ts e3)
          ∙ ap (λ d. d >>= λ z. Some (node t.place (ek.New (ident n x) z.0), z.1)) y.0,
      y.1,
    ))

empty_read : (n : Token) (rest : List Token) → IsName (codes "Empty") n → r.empty (n ∷ rest) ≡ Some rest
empty_read n rest e = ap (λ o. o >>= λ j. if bytes_eq j.0.name (codes "Empty") then Some j.1 else None) (name_yes (codes "Empty") n rest e)

list_complete : (l : ℕ) (t o c d n : Token) (ts rest : List Token) (a : TypeExpr) → IsWord w.ImmutableList t → IsSign s.Less o → WritesType ts (c ∷ d ∷ n ∷ rest) a → IsSign s.Greater c → IsSign s.Dot d → IsName (codes "Empty") n →
    length rest < length ts → Completes l t.place (t ∷ o ∷ ts) rest (node t.place (ek.EmptyList a))
list_complete l t o c d n ts rest a e1 e2 wr e3 e4 e5 sh = prefixed l t (o ∷ ts) rest (node t.place (ek.EmptyList a)) (λ m len. (
  of_kind m t (o ∷ ts) (k.Word w.ImmutableList) e1 ∙ ap (λ z. r.of_word (within m) z t.place (o ∷ ts)) list_first
      ∙ ap (λ b. b >>= λ v. (type_first v >>= λ x. (after s.Greater x.1 >>= λ q. (after s.Dot q >>= λ d. (r.empty d >>= λ e. Some (node t.place (ek.EmptyList x.0), e)))))) (after_yes s.Less o ts e2)
      ∙ ap (λ b. b >>= λ x. (after s.Greater x.1 >>= λ q. (after s.Dot q >>= λ d. (r.empty d >>= λ e. Some (node t.place (ek.EmptyList x.0), e))))) (type_complete ts (c ∷ d ∷ n ∷ rest) a (greater_ends c (d ∷ n ∷ rest) e3) wr)
      ∙ ap (λ b. b >>= λ q. (after s.Dot q >>= λ d. (r.empty d >>= λ e. Some (node t.place (ek.EmptyList a), e)))) (after_yes s.Greater c (d ∷ n ∷ rest) e3)
      ∙ ap (λ b. b >>= λ d. (r.empty d >>= λ e. Some (node t.place (ek.EmptyList a), e))) (after_yes s.Dot d (n ∷ rest) e4)
      ∙ ap (λ b. b >>= λ e. Some (node t.place (ek.EmptyList a), e)) (empty_read n rest e5),
  omega arith,
))

-- the forms that go on with an expression
grown : {n m : ℕ} {p : Place} {ts : List Token} {a : Expr} (t : Token) (us rest : List Token) (b : Expr) (kind : Going) (x : Reached n m p ts a (t ∷ us)) →
    going t.kind ≡ kind → m < strength kind → Done (λ n. r.further (within n) p a kind) (x.left - 1) us b rest → Reached n m p ts b rest
grown {n} {m} {p} {ts} {a} t us rest b kind x i k f = record {
  left = x.left - 1;
  enough = f.1;
  less = omega (arith, x.less);
  same = x.same ∙ loop_goes x.left m p a t us kind (omega (arith, x.enough)) i k ∙ ap (λ o. o >>= λ z. loop_in (x.left - 1) m p z.0 z.1) f.0;
}

conditional_complete : (l : ℕ) (p q v : Place) (t c : Token) (ts us vs rest : List Token) (a b d : Expr) → l ≤ 0 → IsSign s.Question t → IsSign s.Colon c →
    Completes 1 p ts (t ∷ us) a → Completes 0 q us (c ∷ vs) b → Completes 0 v vs rest d → Completes l p ts rest (node p (ek.Conditional a b d))
conditional_complete l p q v t c ts us vs rest a b d l0 e1 e2 sub1 sub2 sub3 = record {
  by = λ n m h f len.
      let i = going_to s.Question go.Conditional t e1 question_goes in
      let x1 = sub1.by n m (omega arith) (omega (arith, ap strength i)) len in
      let z = quiet s.Colon c vs e2 colon in
      let low = (next_gaps rest).0 (omega arith) in
      let x2 = finish (sub2.by (x1.left - 1) 0 (omega arith) (omega (arith, z)) (omega (arith, x1.enough))) (omega (arith, z)) in
      let x3 = finish (sub3.by (x1.left - 1) 0 (omega arith) (omega (arith, low)) (omega (arith, x2.1))) low in
      grown t us rest (node p (ek.Conditional a b d)) go.Conditional x1 i (omega arith) (
        ap (λ o. o >>= λ x. (after s.Colon x.1 >>= λ w'. (expr_in (x1.left - 1) 0 w' >>= λ y. Some (node p (ek.Conditional a x.0 y.0), y.1)))) x2.0
            ∙ ap (λ o. o >>= λ w'. (expr_in (x1.left - 1) 0 w' >>= λ y. Some (node p (ek.Conditional a b y.0), y.1))) (after_yes s.Colon c vs e2)
            ∙ ap (λ o. o >>= λ y. Some (node p (ek.Conditional a b y.0), y.1)) x3.0,
        x3.1,
      );
}

right_stops : (op : BinaryOp) (rest : List Token) → next rest ≤ level op + 1 → next rest ≤ right_level op
right_stops op rest h = elim (levels op).joins [ inl j ↦ let low = (next_gaps rest).1 (omega (arith, j.0)) in omega (arith, low, j.2) | inr j ↦ omega (arith, j.2) ]

binary_complete : (l : ℕ) (sign : Sign) (op : BinaryOp) (p q : Place) (t : Token) (ts us rest : List Token) (a b : Expr) → l ≤ level op → IsSign sign t → operator sign ≡ Some op →
    Completes (left_level op) p ts (t ∷ us) a → Completes (right_level op) q us rest b → Completes l p ts rest (node p (ek.Binary op a b))
binary_complete l sign op p q t ts us rest a b h1 e1 e2 sub1 sub2 = record {
  by = λ n m h f len.
      let v = levels op in
      let i = going_to sign (go.Operator op) t e1 (operator_going sign op e2) in
      let x1 = sub1.by n m (omega (arith, v.left_near)) (omega (arith, ap strength i)) len in
      let low = right_stops op rest (omega arith) in
      let x2 = finish (sub2.by (x1.left - 1) (right_level op) (omega arith) (omega (arith, low)) (omega (arith, x1.enough))) low in
      grown t us rest (node p (ek.Binary op a b)) (go.Operator op) x1 i (omega (arith, v.left_near))
      (ap (λ o. o >>= λ x. Some (node p (ek.Binary op a x.0), x.1)) x2.0, x2.1);
}

with_complete : (l : ℕ) (p : Place) (t o c : Token) (ts us rest : List Token) (a : Expr) (parts : List WithPart) → l ≤ 10 → IsName (codes "with") t → IsSign s.OpenBrace o → IsSign s.CloseBrace c →
    Completes 10 p ts (t ∷ o ∷ us) a → PartsDone us (c ∷ rest) parts → Completes l p ts rest (node p (ek.With a parts))
with_complete l p t o c ts us rest a parts h1 e1 e2 e3 sub1 sub2 = record {
  by = λ n m h f len.
      let i : going t.kind ≡ go.With = ap going e1 in
      let x1 = sub1.by n m (omega arith) (omega (arith, ap strength i)) len in
      let x2 = sub2.by (x1.left - 1) (omega (arith, x1.enough)) (omega (arith, quiet s.CloseBrace c rest e3 close_brace)) (other_sign s.Comma s.CloseBrace c rest e3 brace_no_comma) in
      grown t (o ∷ us) rest (node p (ek.With a parts)) go.With x1 i (omega arith) (
        ap (λ d. d >>= λ v. (with_parts_in (x1.left - 1) v >>= λ x. (after s.CloseBrace x.1 >>= λ q. if nat_lt 11 (next q) then None else Some (node p (ek.With a x.0), q)))) (after_yes s.OpenBrace o us e2)
            ∙ ap (λ d. d >>= λ x. (after s.CloseBrace x.1 >>= λ q. if nat_lt 11 (next q) then None else Some (node p (ek.With a x.0), q))) x2.0
            ∙ ap (λ d. d >>= λ q. if nat_lt 11 (next q) then None else Some (node p (ek.With a parts), q)) (after_yes s.CloseBrace c rest e3)
            ∙ ap (λ d. if d then None else Some (node p (ek.With a parts), rest)) (le-ltb 11 (next rest) (omega arith)),
        omega (arith, x2.1),
      );
}

null_member_complete : (l : ℕ) (x : List ℕ) (p : Place) (d t : Token) (ts rest : List Token) (a : Expr) → l ≤ 11 → IsSign s.QuestionDot d → IsName x t → Completes 12 p ts (d ∷ t ∷ rest) a →
    Completes l p ts rest (node p (ek.NullMember a (ident t x)))
null_member_complete l x p d t ts rest a h1 e1 e2 sub = record {
  by = λ n m h f len.
      let i = going_to s.QuestionDot go.NullMember d e1 question_dot_goes in
      let x1 = sub.by n m (omega arith) (omega (arith, ap strength i)) len in
      grown d (t ∷ rest) rest (node p (ek.NullMember a (ident t x))) go.NullMember x1 i (omega arith) (
        ap (λ o. o >>= λ j. if nat_lt 12 (next j.1) then None else Some (node p (ek.NullMember a j.0), j.1)) (name_yes x t rest e2)
            ∙ ap (λ b. if b then None else Some (node p (ek.NullMember a (ident t x)), rest)) (le-ltb 12 (next rest) (omega arith)),
        omega (arith, x1.enough),
      );
}

member_complete : (l : ℕ) (x : List ℕ) (p : Place) (d t : Token) (ts rest : List Token) (a : Expr) → l ≤ 13 → IsSign s.Dot d → IsName x t → Completes 13 p ts (d ∷ t ∷ rest) a →
    Completes l p ts rest (node p (ek.Member a (ident t x)))
member_complete l x p d t ts rest a h1 e1 e2 sub = record {
  by = λ n m h f len.
      let i = going_to s.Dot go.Member d e1 dot_goes in
      let x1 = sub.by n m (omega arith) (omega (arith, ap strength i)) len in
      grown d (t ∷ rest) rest (node p (ek.Member a (ident t x))) go.Member x1 i (omega arith)
      (ap (λ o. o >>= λ j. Some (node p (ek.Member a j.0), j.1)) (name_yes x t rest e2), omega (arith, x1.enough));
}

call_complete : (l : ℕ) (p : Place) (o : Token) (ts us rest : List Token) (a : Expr) (bs : List Expr) → l ≤ 13 → IsSign s.OpenRound o → Completes 13 p ts (o ∷ us) a → ArgumentsDone us rest bs →
    Completes l p ts rest (node p (ek.Call a bs))
call_complete l p o ts us rest a bs h1 e1 sub1 sub2 = record {
  by = λ n m h f len.
      let i = going_to s.OpenRound go.Call o e1 round_goes in
      let x1 = sub1.by n m (omega arith) (omega (arith, ap strength i)) len in
      let x2 = sub2.by (x1.left - 1) (omega (arith, x1.enough)) in
      grown o us rest (node p (ek.Call a bs)) go.Call x1 i (omega arith) (ap (λ d. d >>= λ x. Some (node p (ek.Call a x.0), x.1)) x2.0, x2.1);
}

index_complete : (l : ℕ) (p q : Place) (o c : Token) (ts us rest : List Token) (a b : Expr) → l ≤ 13 → IsSign s.OpenSquare o → IsSign s.CloseSquare c → Completes 13 p ts (o ∷ us) a → Completes 0 q us (c ∷ rest) b →
    Completes l p ts rest (node p (ek.Index a b))
index_complete l p q o c ts us rest a b h1 e1 e2 sub1 sub2 = record {
  by = λ n m h f len.
      let i = going_to s.OpenSquare go.Index o e1 square_goes in
      let x1 = sub1.by n m (omega arith) (omega (arith, ap strength i)) len in
      let z = quiet s.CloseSquare c rest e2 close_square in
      let x2 = finish (sub2.by (x1.left - 1) 0 (omega arith) (omega (arith, z)) (omega (arith, x1.enough))) (omega (arith, z)) in
      grown o us rest (node p (ek.Index a b)) go.Index x1 i (omega arith) (
        ap (λ d. d >>= λ x. (after s.CloseSquare x.1 >>= λ v. Some (node p (ek.Index a x.0), v))) x2.0
            ∙ ap (λ d. d >>= λ v. Some (node p (ek.Index a b), v)) (after_yes s.CloseSquare c rest e2),
        omega (arith, x2.1),
      );
}

-- lists
one_value_complete : (p : Place) (ts rest : List Token) (a : Expr) → Completes 0 p ts rest a → ValuesDone ts rest (a ∷ [])
one_value_complete p ts rest a sub = record {
  by = λ n len q c.
      let x = finish (sub.by n 0 (omega arith) (omega arith) len) q in (
        values_law n ts (omega arith) ∙ ap (λ o. o >>= λ x. r.more_values (within (n - 1)) x.0 x.1) x.0
            ∙ ap (λ o. elim o [ Some v ↦ values_in (n - 1) v >>= (λ x. Some (a ∷ x.0, x.1)) | None ↦ Some (a ∷ [], rest) ]) c,
        x.1,
      );
}

more_values_complete : (p : Place) (t : Token) (ts us rest : List Token) (a : Expr) (bs : List Expr) → IsSign s.Comma t → Completes 0 p ts (t ∷ us) a → ValuesDone us rest bs → ValuesDone ts rest (a ∷ bs)
more_values_complete p t ts us rest a bs e sub1 sub2 = record {
  by = λ n len q c.
      let z = quiet s.Comma t us e comma in
      let x1 = finish (sub1.by n 0 (omega arith) (omega (arith, z)) len) (omega (arith, z)) in
      let x2 = sub2.by (n - 1) (omega (arith, x1.1)) q c in (
        values_law n ts (omega arith) ∙ ap (λ o. o >>= λ x. r.more_values (within (n - 1)) x.0 x.1) x1.0
            ∙ ap (λ o. elim o [ Some v ↦ values_in (n - 1) v >>= (λ x. Some (a ∷ x.0, x.1)) | None ↦ Some (a ∷ [], t ∷ us) ]) (after_yes s.Comma t us e)
            ∙ ap (λ o. o >>= λ x. Some (a ∷ x.0, x.1)) x2.0,
        omega (arith, x2.1),
      );
}

part_read : (n : ℕ) (x : List ℕ) (i t : Token) (ts rest : List Token) (a : Expr) → IsName x i → IsSign s.Assign t → expr_in n 0 ts ≡ Some (a, rest) →
    r.with_part_by (expr_in n 0) (i ∷ t ∷ ts) ≡ Some (with_part i x a, rest)
part_read n x i t ts rest a e1 e2 e3 =
    ap (λ o. o >>= λ j. (after s.Assign j.1 >>= λ v. (expr_in n 0 v >>= λ y. Some (record { name = j.0; value = y.0 }, y.1)))) (name_yes x i (t ∷ ts) e1)
    ∙ ap (λ o. o >>= λ v. (expr_in n 0 v >>= λ y. Some (with_part i x y.0, y.1))) (after_yes s.Assign t ts e2)
    ∙ ap (λ o. o >>= λ y. Some (with_part i x y.0, y.1)) e3

one_part_complete : (x : List ℕ) (p : Place) (i t : Token) (ts rest : List Token) (a : Expr) → IsName x i → IsSign s.Assign t → Completes 0 p ts rest a → PartsDone (i ∷ t ∷ ts) rest (with_part i x a ∷ [])
one_part_complete x p i t ts rest a e1 e2 sub = record {
  by = λ n len q c.
      let y = finish (sub.by n 0 (omega arith) (omega arith) (omega arith)) q in (
        with_parts_law n (i ∷ t ∷ ts) (omega arith) ∙ ap (λ o. o >>= λ x. r.more_with_parts (within (n - 1)) x.0 x.1) (part_read n x i t ts rest a e1 e2 y.0)
            ∙ ap (λ o. elim o [ Some v ↦ with_parts_in (n - 1) v >>= (λ z. Some (with_part i x a ∷ z.0, z.1)) | None ↦ Some (with_part i x a ∷ [], rest) ]) c,
        y.1,
      );
}

more_parts_complete : (x : List ℕ) (p : Place) (i t c : Token) (ts us rest : List Token) (a : Expr) (parts : List WithPart) → IsName x i → IsSign s.Assign t → IsSign s.Comma c →
    Completes 0 p ts (c ∷ us) a → PartsDone us rest parts → PartsDone (i ∷ t ∷ ts) rest (with_part i x a ∷ parts)
more_parts_complete x p i t c ts us rest a parts e1 e2 e3 sub1 sub2 = record {
  by = λ n len q d.
      let z = quiet s.Comma c us e3 comma in
      let y = finish (sub1.by n 0 (omega arith) (omega (arith, z)) (omega arith)) (omega (arith, z)) in
      let x2 = sub2.by (n - 1) (omega (arith, y.1)) q d in (
        with_parts_law n (i ∷ t ∷ ts) (omega arith) ∙ ap (λ o. o >>= λ x. r.more_with_parts (within (n - 1)) x.0 x.1) (part_read n x i t ts (c ∷ us) a e1 e2 y.0)
            ∙ ap (λ o. elim o [ Some v ↦ with_parts_in (n - 1) v >>= (λ z. Some (with_part i x a ∷ z.0, z.1)) | None ↦ Some (with_part i x a ∷ [], c ∷ us) ]) (after_yes s.Comma c us e3)
            ∙ ap (λ o. o >>= λ z. Some (with_part i x a ∷ z.0, z.1)) x2.0,
        omega (arith, x2.1),
      );
}

no_text_complete : (rest : List Token) → TextsDone rest rest []
no_text_complete rest = record {
  by = λ n len stop. (text_parts_law n rest (omega arith) ∙ ap (λ o. o >>= λ x. r.more_text_parts (within (n - 1)) x rest) (stop n), len);
}

literal_part_complete : (x : List ℕ) (t : Token) (ts rest : List Token) (parts : List TextPart) → t.kind ≡ k.Part x → TextsDone ts rest parts → TextsDone (t ∷ ts) rest (tp.Literal x ∷ parts)
literal_part_complete x t ts rest parts e sub = record {
  by = λ n len stop.
      let y = sub.by (n - 1) (omega arith) stop in (
        text_parts_law n (t ∷ ts) (omega arith)
            ∙ ap (λ kind. r.text_part_of (expr_in n 0) kind ts >>= λ x. r.more_text_parts (within (n - 1)) x (t ∷ ts)) e
            ∙ ap (λ o. o >>= λ z. Some (tp.Literal x ∷ z.0, z.1)) y.0,
        omega (arith, y.1),
      );
}

hole_complete : (p : Place) (o c : Token) (ts us rest : List Token) (a : Expr) (parts : List TextPart) → IsSign s.HoleOpen o → IsSign s.HoleClose c → Completes 0 p ts (c ∷ us) a → TextsDone us rest parts →
    TextsDone (o ∷ ts) rest (tp.Hole a ∷ parts)
hole_complete p o c ts us rest a parts e1 e2 sub1 sub2 = record {
  by = λ n len stop.
      let z = quiet s.HoleClose c us e2 hole_close in
      let x = finish (sub1.by n 0 (omega arith) (omega (arith, z)) (omega arith)) (omega (arith, z)) in
      let y = sub2.by (n - 1) (omega (arith, x.1)) stop in (
        text_parts_law n (o ∷ ts) (omega arith)
            ∙ ap (λ kind. r.text_part_of (expr_in n 0) kind ts >>= λ x. r.more_text_parts (within (n - 1)) x (o ∷ ts)) e1
            ∙ ap (λ b. (if b then r.hole (expr_in n 0) ts else Some None) >>= λ x. r.more_text_parts (within (n - 1)) x (o ∷ ts)) hole_is_hole
            ∙ ap (λ d. (d >>= λ x. (after s.HoleClose x.1 >>= λ v. Some (Some (tp.Hole x.0, v)))) >>= λ x. r.more_text_parts (within (n - 1)) x (o ∷ ts)) x.0
            ∙ ap (λ d. (d >>= λ v. Some (Some (tp.Hole a, v))) >>= λ x. r.more_text_parts (within (n - 1)) x (o ∷ ts)) (after_yes s.HoleClose c us e2)
            ∙ ap (λ d. d >>= λ z. Some (tp.Hole a ∷ z.0, z.1)) y.0,
        omega (arith, y.1),
      );
}

mutual
  complete : (l : ℕ) (p : Place) (ts rest : List Token) (a : Expr) → Spells l p ts rest a → Completes l p ts rest a
  complete l p ts rest a (g.conditional _ _ q v t c _ us vs _ b d f h s1 e1 s2 e2 s3) =
      conditional_complete l p q v t c ts us vs rest b d f h e1 e2 (complete 1 p ts (t ∷ us) b s1) (complete 0 q us (c ∷ vs) d s2) (complete 0 v vs rest f s3)
  complete l p ts rest a (g.binary _ sign op _ q t _ us _ b d h s1 e1 e2 s2) =
      binary_complete l sign op p q t ts us rest b d h e1 e2 (complete (left_level op) p ts (t ∷ us) b s1) (complete (right_level op) q us rest d s2)
  complete l p ts rest a (g.with_parts _ _ t o c _ us _ b parts h s1 e1 e2 s2 e3) =
      with_complete l p t o c ts us rest b parts h e1 e2 e3 (complete 10 p ts (t ∷ o ∷ us) b s1) (parts_complete us (c ∷ rest) parts s2)
  complete l p ts rest a (g.unary _ sign op q t us _ b h e1 e2 s1) = unary_complete l sign op q t us rest b h e1 e2 (complete 11 q us rest b s1)
  complete l p ts rest a (g.cast _ q o t c us _ b h e1 e2 e3 s1) = cast_complete l q o t c us rest b h e1 e2 e3 (complete 11 q us rest b s1)
  complete l p ts rest a (g.null_member _ x _ d t _ _ b h s1 e1 e2) = null_member_complete l x p d t ts rest b h e1 e2 (complete 12 p ts (d ∷ t ∷ rest) b s1)
  complete l p ts rest a (g.member _ x _ d t _ _ b h s1 e1 e2) = member_complete l x p d t ts rest b h e1 e2 (complete 13 p ts (d ∷ t ∷ rest) b s1)
  complete l p ts rest a (g.call _ _ o _ us _ b bs h s1 e1 s2) = call_complete l p o ts us rest b bs h e1 (complete 13 p ts (o ∷ us) b s1) (arguments_complete us rest bs s2)
  complete l p ts rest a (g.index _ _ q o c _ us _ b d h s1 e1 s2 e2) = index_complete l p q o c ts us rest b d h e1 e2 (complete 13 p ts (o ∷ us) b s1) (complete 0 q us (c ∷ rest) d s2)
  complete l p ts rest a (g.number _ n t _ e) = prefixed l t rest rest (node t.place (ek.Int n)) (λ m len. (of_kind m t rest (k.Number n) e, len))
  complete l p ts rest a (g.text _ x t _ e) = prefixed l t rest rest (node t.place (ek.Text x)) (λ m len. (of_kind m t rest (k.Text x) e, len))
  complete l p ts rest a (g.literals _ word kind t _ e1 e2) = literal_complete l word kind t rest e1 e2
  complete l p ts rest a (g.interpolated _ o c us _ parts e1 s1 e2) = interpolated_complete l o c us rest parts e1 e2 (texts_complete us (c ∷ rest) parts s1)
  complete l p ts rest a (g.name _ x t _ e) = prefixed l t rest rest (node t.place (ek.Name x)) (λ m len. (of_kind m t rest (k.Name x) e, len))
  complete l p ts rest a (g.static _ word owner x t d n _ e1 e2 e3 e4) = static_complete l word owner x t d n rest e1 e2 e3 e4
  complete l p ts rest a (g.brackets _ q o c us _ _ e1 s1 e2) = brackets_complete l q o c us rest a e1 e2 (begins 0 q us (c ∷ rest) a s1) (complete 0 q us (c ∷ rest) a s1)
  complete l p ts rest a (g.new_record _ x t n o us _ bs e1 e2 e3 s1) = record_complete l x t n o us rest bs e1 e2 e3 (arguments_complete us rest bs s1)
  complete l p ts rest a (g.empty_list _ t o c d n us _ b e1 e2 wr e3 e4 e5) = list_complete l t o c d n us rest b e1 e2 wr e3 e4 e5 (omega (arith, type_shrinks us (c ∷ d ∷ n ∷ rest) b (greater_ends c (d ∷ n ∷ rest) e3) wr))

  arguments_complete : (ts rest : List Token) (bs : List Expr) → Arguments ts rest bs → ArgumentsDone ts rest bs
  arguments_complete ts rest bs (g.no_argument c _ e) = none_complete c rest e
  arguments_complete ts rest bs (g.some_arguments c _ _ _ vs e) = some_complete c ts rest bs e (begin_values ts (c ∷ rest) bs vs) (values_complete ts (c ∷ rest) bs vs)

  values_complete : (ts rest : List Token) (bs : List Expr) → Values ts rest bs → ValuesDone ts rest bs
  values_complete ts rest bs (g.one_value p _ _ a sp) = one_value_complete p ts rest a (complete 0 p ts rest a sp)
  values_complete ts rest bs (g.more_values p t _ us _ a cs sp e vs) = more_values_complete p t ts us rest a cs e (complete 0 p ts (t ∷ us) a sp) (values_complete us rest cs vs)

  parts_complete : (ts rest : List Token) (parts : List WithPart) → WithParts ts rest parts → PartsDone ts rest parts
  parts_complete ts rest parts (g.one_part x p n t us _ a e1 e2 sp) = one_part_complete x p n t us rest a e1 e2 (complete 0 p us rest a sp)
  parts_complete ts rest parts (g.more_parts x p n t c us vs _ a others e1 e2 sp e3 ws) = more_parts_complete x p n t c us vs rest a others e1 e2 e3 (complete 0 p us (c ∷ vs) a sp) (parts_complete vs rest others ws)

  texts_complete : (ts rest : List Token) (parts : List TextPart) → TextParts ts rest parts → TextsDone ts rest parts
  texts_complete ts rest parts (g.no_text_part _) = no_text_complete rest
  texts_complete ts rest parts (g.literal_part x t us _ others e xs) = literal_part_complete x t us rest others e (texts_complete us rest others xs)
  texts_complete ts rest parts (g.hole p o c us vs _ a others e1 sp e2 xs) = hole_complete p o c us vs rest a others e1 e2 (complete 0 p us (c ∷ vs) a sp) (texts_complete vs rest others xs)

-- what is spelled at a level, and behind which nothing goes on, is read
pub first_complete : (l : ℕ) (p : Place) (ts rest : List Token) (a : Expr) → next rest ≤ l → Spells l p ts rest a → expr_first l ts ≡ Some (a, rest)
unfolding expr_first
first_complete l p ts rest a q sp = (finish ((complete l p ts rest a sp).by (length ts + 1) l (omega arith) (omega arith) (omega arith)) q).0
