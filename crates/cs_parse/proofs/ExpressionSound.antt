-- What is read as an expression is spelled.
use Rattle.std.proofs.Common.{◌≡◌, ℕ, zero, suc, ◌+◌, ◌<◌, ◌≤◌, List, [], ◌∷◌, length, refl, sym, ap, ◌∙◌, arith, subst, inl, inr}
use Rattle.std.specs.Prelude.{Bool, true, false, ◌&&◌, nat_lt, if◌then◌else◌, codes, Option, Some, None}
use Rattle.std.proofs.lemmas.Bool.{ltb-true, ltb-false}
use Rattle.std.specs.Bool.{Decides}
use Rattle.std.proofs.lemmas.Slice.Eq.{bytes_eq-Decides}
use Rattle.std.specs.Str.{bytes_eq}
use Rattle.text_core.specs.declared.place.Place.{Place}
use Rattle.cs_ast.specs.declared.expression.Expr.{Expr}
use Rattle.cs_ast.specs.declared.expression.ExprKind.TheVariants as ek
use Rattle.cs_ast.specs.declared.expression.TextPart.{TextPart}
use Rattle.cs_ast.specs.declared.expression.WithPart.{WithPart}
use Rattle.cs_ast.specs.declared.operators.BinaryOp.{BinaryOp}
use Rattle.cs_ast.specs.declared.operators.StaticType.{StaticType}
use Rattle.cs_ast.specs.declared.operators.UnaryOp.{UnaryOp}
use Rattle.cs_token.specs.declared.token.Token.{Token}
use Rattle.cs_token.specs.declared.token.TokenKind.{TokenKind}
use Rattle.cs_token.specs.declared.token.TokenKind.TheVariants as k
use Rattle.cs_token.specs.declared.token.Sign.{Sign}
use Rattle.cs_token.specs.declared.token.Sign.TheVariants as s
use Rattle.cs_token.specs.declared.token.Word.{Word}
use Rattle.cs_token.specs.declared.token.Word.TheVariants as w
use Rattle.cs_grammar.specs.Tokens.{IsSign, IsWord, IsName}
use Rattle.cs_grammar.specs.Tables.{level, left_level, right_level, operator, unary_operator, static_type}
use Rattle.cs_grammar.specs.Types.{WritesType}
use Rattle.cs_grammar.specs.Expressions.{node, with_part, Spells, Arguments, Values, WithParts, TextParts}
use Rattle.cs_grammar.specs.Expressions as g
use Rattle.cs_parse.specs.declared.tables.Going.{Going}
use Rattle.cs_parse.specs.declared.tables.Going.TheVariants as go
use Rattle.cs_parse.specs.declared.tables.FirstWord.{FirstWord}
use Rattle.cs_parse.specs.declared.tables.FirstWord.TheVariants as fw
use Rattle.cs_parse.specs.declared.tables.FirstSign.{FirstSign}
use Rattle.cs_parse.specs.declared.tables.FirstSign.TheVariants as fs
use Rattle.cs_parse.specs.Reading.{Read, ◌>>=◌, after, is_sign, is_word}
use Rattle.cs_parse.specs.ExpressionReading.{Reads, no_reads, within, going, strength, next, first_word, first_sign, as_cast, expr_first}
use Rattle.cs_parse.specs.ExpressionReading as r
use Rattle.cs_parse.proofs.TokenLemmas.{bind_ok, moved, after_ok, name_ok, sign_is, word_is}
use Rattle.cs_parse.proofs.TypeSound.{type_sound}
use Rattle.cs_parse.proofs.LevelLemmas.{Used, levels, op_level, next_small, used_small, used_below_2, op_of, is_question, is_question_dot, is_dot, is_round, is_square, is_with}
use Rattle.cs_parse.proofs.FirstLemmas.{word_new, word_list, word_static, word_truth, word_null, sign_interpolation, sign_round, sign_operator}

-- what was read, behind which nothing goes on at the level
pub record Front (l : ℕ) (p : Place) (ts rest : List Token) (a : Expr) : Type 0 where
  pub spells : Spells l p ts rest a
  pub stop : next rest ≤ l

pub record Sound (self : List Token → Reads) : Type 0 where
  pub expr : (l : ℕ) (ts : List Token) (a : Expr) (rest : List Token) → Used l → (self ts).expr l ≡ Some (a, rest) → (p : Place) × Front l p ts rest a
  pub loop : (l m : ℕ) (p : Place) (ts us : List Token) (a b : Expr) (rest : List Token) → Used l → l ≤ m → next us ≤ m + 1 → Spells m p ts us a →
      (self us).loop l p a ≡ Some (b, rest) → Front l p ts rest b
  pub values : (ts : List Token) (bs : List Expr) (rest : List Token) → (self ts).values ≡ Some (bs, rest) → Values ts rest bs
  pub with_parts : (ts : List Token) (parts : List WithPart) (rest : List Token) → (self ts).with_parts ≡ Some (parts, rest) → WithParts ts rest parts
  pub text_parts : (ts : List Token) (parts : List TextPart) (rest : List Token) → (self ts).text_parts ≡ Some (parts, rest) → TextParts ts rest parts

no_reads_sound : Sound (λ ts. no_reads)
no_reads_sound = record {
  expr = λ l ts a rest u e. absurd (cc);
  loop = λ l m p ts us a b rest u h1 h2 sp e. absurd (cc);
  values = λ ts bs rest e. absurd (cc);
  with_parts = λ ts parts rest e. absurd (cc);
  text_parts = λ ts parts rest e. absurd (cc);
}

-- a looser level
pub loosen : (l m : ℕ) (p : Place) (ts rest : List Token) (a : Expr) → m ≤ l → Spells l p ts rest a → Spells m p ts rest a
loosen l m p ts rest a h (g.conditional _ _ q v t c _ us vs _ b d f h2 s1 e1 s2 e2 s3) = g.conditional m p q v t c ts us vs rest b d f (omega arith) s1 e1 s2 e2 s3
loosen l m p ts rest a h (g.binary _ sign op _ q t _ us _ b d h2 s1 e1 e2 s2) = g.binary m sign op p q t ts us rest b d (omega arith) s1 e1 e2 s2
loosen l m p ts rest a h (g.with_parts _ _ t o c _ us _ b parts h2 s1 e1 e2 s2 e3) = g.with_parts m p t o c ts us rest b parts (omega arith) s1 e1 e2 s2 e3
loosen l m p ts rest a h (g.unary _ sign op q t us _ b h2 e1 e2 s1) = g.unary m sign op q t us rest b (omega arith) e1 e2 s1
loosen l m p ts rest a h (g.cast _ q o t c us _ b h2 e1 e2 e3 s1) = g.cast m q o t c us rest b (omega arith) e1 e2 e3 s1
loosen l m p ts rest a h (g.null_member _ x _ d t _ _ b h2 s1 e1 e2) = g.null_member m x p d t ts rest b (omega arith) s1 e1 e2
loosen l m p ts rest a h (g.member _ x _ d t _ _ b h2 s1 e1 e2) = g.member m x p d t ts rest b (omega arith) s1 e1 e2
loosen l m p ts rest a h (g.call _ _ o _ us _ b bs h2 s1 e1 s2) = g.call m p o ts us rest b bs (omega arith) s1 e1 s2
loosen l m p ts rest a h (g.index _ _ q o c _ us _ b d h2 s1 e1 s2 e2) = g.index m p q o c ts us rest b d (omega arith) s1 e1 s2 e2
loosen l m p ts rest a h (g.number _ n t _ e) = g.number m n t rest e
loosen l m p ts rest a h (g.text _ x t _ e) = g.text m x t rest e
loosen l m p ts rest a h (g.literals _ word kind t _ e1 e2) = g.literals m word kind t rest e1 e2
loosen l m p ts rest a h (g.interpolated _ o c us _ parts e1 s1 e2) = g.interpolated m o c us rest parts e1 s1 e2
loosen l m p ts rest a h (g.name _ x t _ e) = g.name m x t rest e
loosen l m p ts rest a h (g.static _ word owner x t d n _ e1 e2 e3 e4) = g.static m word owner x t d n rest e1 e2 e3 e4
loosen l m p ts rest a h (g.brackets _ q o c us _ _ e1 s1 e2) = g.brackets m q o c us rest a e1 s1 e2
loosen l m p ts rest a h (g.new_record _ x t n o us _ bs e1 e2 e3 s1) = g.new_record m x t n o us rest bs e1 e2 e3 s1
loosen l m p ts rest a h (g.empty_list _ t o c d n us _ b e1 e2 w e3 e4 e5) = g.empty_list m t o c d n us rest b e1 e2 w e3 e4 e5

-- what goes on with an expression at a level
record Grown (l : ℕ) (p : Place) (ts rest : List Token) (a : Expr) : Type 0 where
  m : ℕ
  low : l ≤ m
  near : next rest ≤ m + 1
  spells : Spells m p ts rest a

-- what an expression begins with
record Begun (t : Token) (ts : List Token) (a : Expr) (rest : List Token) : Type 0 where
  m : ℕ
  high : 11 ≤ m
  stop : next rest ≤ m + 1
  spells : Spells m t.place (t ∷ ts) rest a

begun : (t : Token) (ts : List Token) (a : Expr) (rest : List Token) → Spells 13 t.place (t ∷ ts) rest a → Begun t ts a rest
begun t ts a rest sp = record { m = 13; high = omega arith; stop = next_small rest; spells = sp }

pub used_0 : Used 0
used_0 = inl refl

pub used_11 : Used 11
used_11 = inr (inr (omega arith, omega arith))

empty_sound : (ts rest : List Token) → r.empty ts ≡ Some rest → (n : Token) × (ts ≡ n ∷ rest) × IsName (codes "Empty") n
empty_sound ts rest e =
    let b = bind_ok _ _ _ e in
    let n = name_ok ts b.0.1 b.0.0 b.1 in
    split b.0.0.name b.0.1 (bytes_eq b.0.0.name (codes "Empty")) (bytes_eq-Decides b.0.0.name (codes "Empty")) n.0 (n.3 ∙ ap k.Name (sym (ap (λ j. j.name) n.4))) n.2 b.2
  where
    split : (x : List ℕ) (us : List Token) (d : Bool) → Decides d (x ≡ codes "Empty") → (n : Token) → IsName x n → ts ≡ n ∷ us → (if d then Some us else None) ≡ Some rest → (n : Token) × (ts ≡ n ∷ rest) × IsName (codes "Empty") n
    split x us true m n i whole e = (n, moved (λ z. ts ≡ n ∷ z) e whole, i ∙ ap k.Name (m.0 refl))
    split x us false m n i whole e = absurd (cc)

-- the tokens of a cast
cast_ok : (ts rest : List Token) → as_cast ts ≡ Some rest → (t : Token) × (c : Token) × (ts ≡ t ∷ c ∷ rest) × IsWord w.String t × IsSign s.CloseRound c
cast_ok [] rest e = absurd (cc)
cast_ok (t ∷ []) rest e = absurd (cc)
cast_ok (t ∷ c ∷ us) rest e = split (is_word w.String t.kind) (is_sign s.CloseRound c.kind) refl refl e
  where
    split : (a b : Bool) → is_word w.String t.kind ≡ a → is_sign s.CloseRound c.kind ≡ b → (if a && b then Some us else None) ≡ Some rest →
        (t' : Token) × (c' : Token) × (t ∷ c ∷ us ≡ t' ∷ c' ∷ rest) × IsWord w.String t' × IsSign s.CloseRound c'
    split true true i j e = (t, c, cc, word_is w.String t.kind i, sign_is s.CloseRound c.kind j)
    split true false i j e = absurd (cc)
    split false b i j e = absurd (cc)

some_is : {A : Type 0} {x y : A} → Some x ≡ Some y → x ≡ y
some_is e = cc

module _ (self : List Token → Reads) (h : Sound self) where
  arguments_sound : (ts : List Token) (bs : List Expr) (rest : List Token) → r.arguments self ts ≡ Some (bs, rest) → Arguments ts rest bs
  arguments_sound ts bs rest e = split (after s.CloseRound ts) refl e
    where
      split : (o : Option (List Token)) → after s.CloseRound ts ≡ o → ◌≡◌ {A = Read (List Expr)} (elim o [ Some q ↦ Some ([], q) | None ↦ r.some_arguments self ts ]) (Some (bs, rest)) → Arguments ts rest bs
      split (Some q) m e =
          let c = after_ok s.CloseRound ts q m in
          moved (λ z. Arguments ts z.1 z.0) e (subst (λ l. Arguments l q []) (sym c.1) (g.no_argument c.0 q c.2))
      split None m e =
          let b = bind_ok _ _ _ e in
          let d = bind_ok _ _ _ b.2 in
          let c = after_ok s.CloseRound b.0.1 d.0 d.1 in
          moved (λ z. Arguments ts z.1 z.0) d.2 (g.some_arguments c.0 ts d.0 b.0.0 (subst (λ l. Values ts l b.0.0) c.1 (h.values ts b.0.0 b.0.1 b.1)) c.2)

  record_sound : (t : Token) (ts : List Token) (a : Expr) (rest : List Token) → IsWord w.New t → r.made_record self t.place ts ≡ Some (a, rest) → Begun t ts a rest
  record_sound t ts a rest i e =
      let b = bind_ok _ _ _ e in
      let n = name_ok ts b.0.1 b.0.0 b.1 in
      let d = bind_ok _ _ _ b.2 in
      let o = after_ok s.OpenRound b.0.1 d.0 d.1 in
      let f = bind_ok _ _ _ d.2 in
      let sp = g.new_record 13 n.1 t n.0 o.0 d.0 f.0.1 f.0.0 i n.3 o.2 (arguments_sound d.0 f.0.0 f.0.1 f.1) in
      moved (λ z. Begun t ts z.0 z.1) f.2 (begun t ts _ _
      (subst (λ l. Spells 13 t.place (t ∷ l) f.0.1 (node t.place (ek.New b.0.0 f.0.0))) (sym (n.2 ∙ ap (λ l. n.0 ∷ l) o.1))
      (subst (λ j. Spells 13 t.place (t ∷ n.0 ∷ o.0 ∷ d.0) f.0.1 (node t.place (ek.New j f.0.0))) (sym n.4) sp)))

  list_sound : (t : Token) (ts : List Token) (a : Expr) (rest : List Token) → IsWord w.ImmutableList t → r.empty_list t.place ts ≡ Some (a, rest) → Begun t ts a rest
  list_sound t ts a rest i e =
      let b = bind_ok _ _ _ e in
      let o = after_ok s.Less ts b.0 b.1 in
      let d = bind_ok _ _ _ b.2 in
      let x = type_sound b.0 d.0.0 d.0.1 d.1 in
      let f = bind_ok _ _ _ d.2 in
      let c = after_ok s.Greater d.0.1 f.0 f.1 in
      let j = bind_ok _ _ _ f.2 in
      let dot = after_ok s.Dot f.0 j.0 j.1 in
      let q = bind_ok _ _ _ j.2 in
      let n = empty_sound j.0 q.0 q.1 in
      moved (λ z. Begun t ts z.0 z.1) q.2 (begun t ts _ _
      (subst (λ l. Spells 13 t.place (t ∷ l) q.0 (node t.place (ek.EmptyList d.0.0))) (sym o.1)
      (g.empty_list 13 t o.0 c.0 dot.0 n.0 b.0 q.0 d.0.0 i o.2
      (subst (λ l. WritesType b.0 l d.0.0) (c.1 ∙ ap (λ l. c.0 ∷ l) (dot.1 ∙ ap (λ l. dot.0 ∷ l) n.1)) x) c.2 dot.2 n.2)))

  static_sound : (word : Word) (owner : StaticType) (t : Token) (ts : List Token) (a : Expr) (rest : List Token) → IsWord word t → static_type word ≡ Some owner →
      r.static owner t.place ts ≡ Some (a, rest) → Begun t ts a rest
  static_sound word owner t ts a rest i m e =
      let b = bind_ok _ _ _ e in
      let d = after_ok s.Dot ts b.0 b.1 in
      let f = bind_ok _ _ _ b.2 in
      let n = name_ok b.0 f.0.1 f.0.0 f.1 in
      moved (λ z. Begun t ts z.0 z.1) f.2 (begun t ts _ _
      (subst (λ l. Spells 13 t.place (t ∷ l) f.0.1 (node t.place (ek.Static owner f.0.0))) (sym (d.1 ∙ ap (λ l. d.0 ∷ l) n.2))
      (subst (λ j. Spells 13 t.place (t ∷ d.0 ∷ n.0 ∷ f.0.1) f.0.1 (node t.place (ek.Static owner j))) (sym n.4)
      (g.static 13 word owner n.1 t d.0 n.0 f.0.1 i m d.2 n.3))))

  word_sound : (word : Word) (x : FirstWord) (t : Token) (ts : List Token) (a : Expr) (rest : List Token) → IsWord word t → first_word word ≡ x →
      r.of_word self x t.place ts ≡ Some (a, rest) → Begun t ts a rest
  word_sound word (fw.Truth truth) t ts a rest i m e =
      moved (λ z. Begun t ts z.0 z.1) e (begun t ts _ _ (g.literals 13 word (ek.Bool truth) t ts i (word_truth word truth m)))
  word_sound word fw.Null t ts a rest i m e = moved (λ z. Begun t ts z.0 z.1) e (begun t ts _ _ (g.literals 13 word ek.Null t ts i (word_null word m)))
  word_sound word fw.New t ts a rest i m e = record_sound t ts a rest (i ∙ ap k.Word (word_new word m)) e
  word_sound word fw.List t ts a rest i m e = list_sound t ts a rest (i ∙ ap k.Word (word_list word m)) e
  word_sound word (fw.Static owner) t ts a rest i m e = static_sound word owner t ts a rest i (word_static word owner m) e
  word_sound word fw.Nothing t ts a rest i m e = absurd (cc)

  interpolated_sound : (t : Token) (ts : List Token) (a : Expr) (rest : List Token) → IsSign s.InterpolationStart t → r.interpolated self t.place ts ≡ Some (a, rest) → Begun t ts a rest
  interpolated_sound t ts a rest i e =
      let b = bind_ok _ _ _ e in
      let d = bind_ok _ _ _ b.2 in
      let c = after_ok s.InterpolationEnd b.0.1 d.0 d.1 in
      moved (λ z. Begun t ts z.0 z.1) d.2 (begun t ts _ _
      (g.interpolated 13 t c.0 ts d.0 b.0.0 i (subst (λ l. TextParts ts l b.0.0) c.1 (h.text_parts ts b.0.0 b.0.1 b.1)) c.2))

  bracketed_sound : (t : Token) (ts : List Token) (a : Expr) (rest : List Token) → IsSign s.OpenRound t → r.bracketed self ts ≡ Some (a, rest) → Begun t ts a rest
  bracketed_sound t ts a rest i e =
      let b = bind_ok _ _ _ e in
      let x = h.expr 0 ts b.0.0 b.0.1 used_0 b.1 in
      let d = bind_ok _ _ _ b.2 in
      let c = after_ok s.CloseRound b.0.1 d.0 d.1 in
      moved (λ z. Begun t ts z.0 z.1) d.2 (begun t ts _ _
      (g.brackets 13 x.0 t c.0 ts d.0 b.0.0 i (subst (λ l. Spells 0 x.0 ts l b.0.0) c.1 x.1.spells) c.2))

  unary_sound : (sign : Sign) (op : UnaryOp) (t : Token) (ts : List Token) (a : Expr) (rest : List Token) → IsSign sign t → unary_operator sign ≡ Some op →
      r.unary self op t.place ts ≡ Some (a, rest) → Begun t ts a rest
  unary_sound sign op t ts a rest i m e =
      let b = bind_ok _ _ _ e in
      let x = h.expr 11 ts b.0.0 b.0.1 used_11 b.1 in
      moved (λ z. Begun t ts z.0 z.1) b.2 (record {
        m = 11;
        high = omega arith;
        stop = omega (arith, x.1.stop);
        spells = g.unary 11 sign op x.0 t ts b.0.1 b.0.0 (omega arith) i m x.1.spells;
      })

  cast_sound : (o t c : Token) (ts : List Token) (a : Expr) (rest : List Token) → IsSign s.OpenRound o → IsWord w.String t → IsSign s.CloseRound c →
      r.cast self o.place ts ≡ Some (a, rest) → Begun o (t ∷ c ∷ ts) a rest
  cast_sound o t c ts a rest i1 i2 i3 e =
      let b = bind_ok _ _ _ e in
      let x = h.expr 11 ts b.0.0 b.0.1 used_11 b.1 in
      moved (λ z. Begun o (t ∷ c ∷ ts) z.0 z.1) b.2 (record {
        m = 11;
        high = omega arith;
        stop = omega (arith, x.1.stop);
        spells = g.cast 11 x.0 o t c ts b.0.1 b.0.0 (omega arith) i1 i2 i3 x.1.spells;
      })

  round_sound : (o : Token) (ts : List Token) (a : Expr) (rest : List Token) → IsSign s.OpenRound o → r.round self o.place ts ≡ Some (a, rest) → Begun o ts a rest
  round_sound o ts a rest i e = split (as_cast ts) refl e
    where
      split : (d : Option (List Token)) → as_cast ts ≡ d → ◌≡◌ {A = Read Expr} (elim d [ Some q ↦ r.cast self o.place q | None ↦ r.bracketed self ts ]) (Some (a, rest)) → Begun o ts a rest
      split (Some q) m e =
          let x = cast_ok ts q m in
          subst (λ l. Begun o l a rest) (sym x.2) (cast_sound o x.0 x.1 q a rest i x.3 x.4 e)
      split None m e = bracketed_sound o ts a rest i e

  sign_sound : (sign : Sign) (x : FirstSign) (t : Token) (ts : List Token) (a : Expr) (rest : List Token) → IsSign sign t → first_sign sign ≡ x →
      r.of_sign self x t.place ts ≡ Some (a, rest) → Begun t ts a rest
  sign_sound sign fs.Interpolation t ts a rest i m e = interpolated_sound t ts a rest (i ∙ ap k.Sign (sign_interpolation sign m)) e
  sign_sound sign fs.Round t ts a rest i m e = round_sound t ts a rest (i ∙ ap k.Sign (sign_round sign m)) e
  sign_sound sign (fs.Operator op) t ts a rest i m e = unary_sound sign op t ts a rest i (sign_operator sign op m) e
  sign_sound sign fs.Nothing t ts a rest i m e = absurd (cc)

  prefix_sound : (kind : TokenKind) (t : Token) (ts : List Token) (a : Expr) (rest : List Token) → t.kind ≡ kind → r.prefix self kind t.place ts ≡ Some (a, rest) → Begun t ts a rest
  prefix_sound (k.Number n) t ts a rest i e = moved (λ z. Begun t ts z.0 z.1) e (begun t ts _ _ (g.number 13 n t ts i))
  prefix_sound (k.Text x) t ts a rest i e = moved (λ z. Begun t ts z.0 z.1) e (begun t ts _ _ (g.text 13 x t ts i))
  prefix_sound (k.Name x) t ts a rest i e = moved (λ z. Begun t ts z.0 z.1) e (begun t ts _ _ (g.name 13 x t ts i))
  prefix_sound (k.Part x) t ts a rest i e = absurd (cc)
  prefix_sound (k.Word word) t ts a rest i e = word_sound word (first_word word) t ts a rest i refl e
  prefix_sound (k.Sign sign) t ts a rest i e = sign_sound sign (first_sign sign) t ts a rest i refl e

  expr_sound : (l : ℕ) (ts : List Token) (a : Expr) (rest : List Token) → Used l → r.expr self l ts ≡ Some (a, rest) → (p : Place) × Front l p ts rest a
  expr_sound l [] a rest u e = absurd (cc)
  expr_sound l (t ∷ ts) a rest u e =
      let b = bind_ok _ _ _ e in
      let x = prefix_sound t.kind t ts b.0.0 b.0.1 refl b.1 in
      (t.place, h.loop l x.m t.place (t ∷ ts) b.0.1 b.0.0 a rest u (used_small l x.m u x.high) x.stop x.spells b.2)

  -- What goes on behind ts up to us, which spell a at level m.
  conditional_sound : (l m : ℕ) (p : Place) (ts us : List Token) (t : Token) (a b : Expr) (rest : List Token) → l ≤ 0 → 1 ≤ m → IsSign s.Question t →
      Spells m p ts (t ∷ us) a → r.conditional self p a us ≡ Some (b, rest) → Grown l p ts rest b
  conditional_sound l m p ts us t a b rest h1 h2 i sp e =
      let c = bind_ok _ _ _ e in
      let x = h.expr 0 us c.0.0 c.0.1 used_0 c.1 in
      let d = bind_ok _ _ _ c.2 in
      let colon = after_ok s.Colon c.0.1 d.0 d.1 in
      let f = bind_ok _ _ _ d.2 in
      let y = h.expr 0 d.0 f.0.0 f.0.1 used_0 f.1 in
      moved (λ z. Grown l p ts z.1 z.0) f.2 (record {
        m = 0;
        low = h1;
        near = omega (arith, y.1.stop);
        spells = g.conditional 0 p x.0 y.0 t colon.0 ts us d.0 f.0.1 a c.0.0 f.0.0 (omega arith) (loosen m 1 p ts (t ∷ us) a h2 sp) i
            (subst (λ l. Spells 0 x.0 us l c.0.0) colon.1 x.1.spells) colon.2 y.1.spells;
      })

  binary_sound : (l m : ℕ) (sign : Sign) (op : BinaryOp) (p : Place) (ts us : List Token) (t : Token) (a b : Expr) (rest : List Token) → Used l → l < left_level op + 1 → left_level op ≤ m →
      IsSign sign t → operator sign ≡ Some op → Spells m p ts (t ∷ us) a → r.binary self p a op us ≡ Some (b, rest) → Grown l p ts rest b
  binary_sound l m sign op p ts us t a b rest u h1 h2 i1 i2 sp e =
      let v = levels op in
      let c = bind_ok _ _ _ e in
      let x = h.expr (right_level op) us c.0.0 c.0.1 v.right_used c.1 in
      moved (λ z. Grown l p ts z.1 z.0) c.2 (record {
        m = level op;
        low = op_level op l u h1;
        near = omega (arith, x.1.stop, v.right_near);
        spells = g.binary (level op) sign op p x.0 t ts us c.0.1 a c.0.0 (omega arith) (loosen m (left_level op) p ts (t ∷ us) a h2 sp) i1 i2 x.1.spells;
      })

  with_sound : (l m : ℕ) (p : Place) (ts us : List Token) (t : Token) (a b : Expr) (rest : List Token) → l ≤ 10 → 10 ≤ m → IsName (codes "with") t →
      Spells m p ts (t ∷ us) a → r.with_some self p a us ≡ Some (b, rest) → Grown l p ts rest b
  with_sound l m p ts us t a b rest h1 h2 i sp e =
      let c = bind_ok _ _ _ e in
      let o = after_ok s.OpenBrace us c.0 c.1 in
      let d = bind_ok _ _ _ c.2 in
      let x = h.with_parts c.0 d.0.0 d.0.1 d.1 in
      let f = bind_ok _ _ _ d.2 in
      let close = after_ok s.CloseBrace d.0.1 f.0 f.1 in
      let sp' = g.with_parts 10 p t o.0 close.0 ts c.0 f.0 a d.0.0 (omega arith)
      (loosen m 10 p ts (t ∷ o.0 ∷ c.0) a h2 (subst (λ l. Spells m p ts (t ∷ l) a) o.1 sp)) i o.2 (subst (λ l. WithParts c.0 l d.0.0) close.1 x) close.2 in
      split (nat_lt 11 (next f.0)) refl sp' f.2
    where
      split : (d : Bool) {q : List Token} {c : Expr} → nat_lt 11 (next q) ≡ d → Spells 10 p ts q c → ◌≡◌ {A = Read Expr} (if d then None else Some (c, q)) (Some (b, rest)) → Grown l p ts rest b
      split true i sp e = absurd (cc)
      split false {q} {c} i sp e = moved (λ z. Grown l p ts z.1 z.0) e (record { m = 10; low = h1; near = ltb-false _ _ i; spells = sp })

  null_member_sound : (l m : ℕ) (p : Place) (ts us : List Token) (t : Token) (a b : Expr) (rest : List Token) → l ≤ 11 → 12 ≤ m → IsSign s.QuestionDot t →
      Spells m p ts (t ∷ us) a → r.null_member p a us ≡ Some (b, rest) → Grown l p ts rest b
  null_member_sound l m p ts us t a b rest h1 h2 i sp e =
      let c = bind_ok _ _ _ e in
      let n = name_ok us c.0.1 c.0.0 c.1 in
      let sp' = g.null_member 11 n.1 p t n.0 ts c.0.1 a (omega arith) (loosen m 12 p ts (t ∷ n.0 ∷ c.0.1) a h2 (subst (λ l. Spells m p ts (t ∷ l) a) n.2 sp)) i n.3 in
      split (nat_lt 12 (next c.0.1)) refl (subst (λ j. Spells 11 p ts c.0.1 (node p (ek.NullMember a j))) (sym n.4) sp') c.2
    where
      split : (d : Bool) {q : List Token} {c : Expr} → nat_lt 12 (next q) ≡ d → Spells 11 p ts q c → ◌≡◌ {A = Read Expr} (if d then None else Some (c, q)) (Some (b, rest)) → Grown l p ts rest b
      split true i sp e = absurd (cc)
      split false {q} {c} i sp e = moved (λ z. Grown l p ts z.1 z.0) e (record { m = 11; low = h1; near = ltb-false _ _ i; spells = sp })

  member_sound : (l m : ℕ) (p : Place) (ts us : List Token) (t : Token) (a b : Expr) (rest : List Token) → l ≤ 13 → 13 ≤ m → IsSign s.Dot t →
      Spells m p ts (t ∷ us) a → r.member p a us ≡ Some (b, rest) → Grown l p ts rest b
  member_sound l m p ts us t a b rest h1 h2 i sp e =
      let c = bind_ok _ _ _ e in
      let n = name_ok us c.0.1 c.0.0 c.1 in
      let sp' = g.member 13 n.1 p t n.0 ts c.0.1 a (omega arith) (loosen m 13 p ts (t ∷ n.0 ∷ c.0.1) a h2 (subst (λ l. Spells m p ts (t ∷ l) a) n.2 sp)) i n.3 in
      moved (λ z. Grown l p ts z.1 z.0) c.2 (record { m = 13; low = h1; near = next_small c.0.1; spells = subst (λ j. Spells 13 p ts c.0.1 (node p (ek.Member a j))) (sym n.4) sp' })

  call_sound : (l m : ℕ) (p : Place) (ts us : List Token) (t : Token) (a b : Expr) (rest : List Token) → l ≤ 13 → 13 ≤ m → IsSign s.OpenRound t →
      Spells m p ts (t ∷ us) a → r.call self p a us ≡ Some (b, rest) → Grown l p ts rest b
  call_sound l m p ts us t a b rest h1 h2 i sp e =
      let c = bind_ok _ _ _ e in
      let x = arguments_sound us c.0.0 c.0.1 c.1 in
      moved (λ z. Grown l p ts z.1 z.0) c.2 (record {
        m = 13;
        low = h1;
        near = next_small c.0.1;
        spells = g.call 13 p t ts us c.0.1 a c.0.0 (omega arith) (loosen m 13 p ts (t ∷ us) a h2 sp) i x;
      })

  index_sound : (l m : ℕ) (p : Place) (ts us : List Token) (t : Token) (a b : Expr) (rest : List Token) → l ≤ 13 → 13 ≤ m → IsSign s.OpenSquare t →
      Spells m p ts (t ∷ us) a → r.index self p a us ≡ Some (b, rest) → Grown l p ts rest b
  index_sound l m p ts us t a b rest h1 h2 i sp e =
      let c = bind_ok _ _ _ e in
      let x = h.expr 0 us c.0.0 c.0.1 used_0 c.1 in
      let d = bind_ok _ _ _ c.2 in
      let close = after_ok s.CloseSquare c.0.1 d.0 d.1 in
      moved (λ z. Grown l p ts z.1 z.0) d.2 (record {
        m = 13;
        low = h1;
        near = next_small d.0;
        spells = g.index 13 p x.0 t close.0 ts us d.0 a c.0.0 (omega arith) (loosen m 13 p ts (t ∷ us) a h2 sp) i (subst (λ l. Spells 0 x.0 us l c.0.0) close.1 x.1.spells) close.2;
      })

  further_sound : (kind : Going) (l m : ℕ) (p : Place) (ts us : List Token) (t : Token) (a b : Expr) (rest : List Token) → going t.kind ≡ kind → Used l → l < strength kind → strength kind ≤ m + 1 →
      Spells m p ts (t ∷ us) a → r.further self p a kind us ≡ Some (b, rest) → Grown l p ts rest b
  further_sound go.Conditional l m p ts us t a b rest i u h1 h2 sp e = conditional_sound l m p ts us t a b rest (used_below_2 l u h1) (omega arith) (is_question t i) sp e
  further_sound (go.Operator op) l m p ts us t a b rest i u h1 h2 sp e = let x = op_of t op i in binary_sound l m x.0 op p ts us t a b rest u h1 (omega arith) x.1 x.2 sp e
  further_sound go.With l m p ts us t a b rest i u h1 h2 sp e = with_sound l m p ts us t a b rest (omega arith) (omega arith) (is_with t i) sp e
  further_sound go.NullMember l m p ts us t a b rest i u h1 h2 sp e = null_member_sound l m p ts us t a b rest (used_small l 11 u (omega arith)) (omega arith) (is_question_dot t i) sp e
  further_sound go.Member l m p ts us t a b rest i u h1 h2 sp e = member_sound l m p ts us t a b rest (omega arith) (omega arith) (is_dot t i) sp e
  further_sound go.Call l m p ts us t a b rest i u h1 h2 sp e = call_sound l m p ts us t a b rest (omega arith) (omega arith) (is_round t i) sp e
  further_sound go.Index l m p ts us t a b rest i u h1 h2 sp e = index_sound l m p ts us t a b rest (omega arith) (omega arith) (is_square t i) sp e
  further_sound go.Nothing l m p ts us t a b rest i u h1 h2 sp e = absurd (omega arith)

  longer_sound : (kind : Going) (l m : ℕ) (p : Place) (ts us : List Token) (t : Token) (a b : Expr) (rest : List Token) → going t.kind ≡ kind → Used l → l < strength kind → strength kind ≤ m + 1 →
      Spells m p ts (t ∷ us) a → r.longer self l p a kind us ≡ Some (b, rest) → Front l p ts rest b
  longer_sound kind l m p ts us t a b rest i u h1 h2 sp e =
      let c = bind_ok _ _ _ e in
      let x = further_sound kind l m p ts us t a c.0.0 c.0.1 i u h1 h2 sp c.1 in
      h.loop l x.m p ts c.0.1 c.0.0 b rest u x.low x.near x.spells c.2

  loop_sound : (l m : ℕ) (p : Place) (ts us : List Token) (a b : Expr) (rest : List Token) → Used l → l ≤ m → next us ≤ m + 1 → Spells m p ts us a →
      r.loop self l p a us ≡ Some (b, rest) → Front l p ts rest b
  loop_sound l m p ts [] a b rest u h1 h2 sp e = moved (λ z. Front l p ts z.1 z.0) e (record { spells = loosen m l p ts [] a h1 sp; stop = omega arith })
  loop_sound l m p ts (t ∷ us) a b rest u h1 h2 sp e = split (nat_lt l (strength (going t.kind))) refl e
    where
      split : (d : Bool) → nat_lt l (strength (going t.kind)) ≡ d → (if d then r.longer self l p a (going t.kind) us else Some (a, t ∷ us)) ≡ Some (b, rest) → Front l p ts rest b
      split true i e = longer_sound (going t.kind) l m p ts us t a b rest refl u (ltb-true _ _ i) h2 sp e
      split false i e = moved (λ z. Front l p ts z.1 z.0) e (record { spells = loosen m l p ts (t ∷ us) a h1 sp; stop = ltb-false _ _ i })

  values_sound : (ts : List Token) (bs : List Expr) (rest : List Token) → r.values self ts ≡ Some (bs, rest) → Values ts rest bs
  values_sound ts bs rest e =
      let b = bind_ok _ _ _ e in
      let x = expr_sound 0 ts b.0.0 b.0.1 used_0 b.1 in
      split b.0.0 b.0.1 (after s.Comma b.0.1) refl x.1.spells b.2
    where
      split : (a : Expr) (us : List Token) (o : Option (List Token)) {p : Place} → after s.Comma us ≡ o → Spells 0 p ts us a →
          ◌≡◌ {A = Read (List Expr)} (elim o [ Some q ↦ (self q).values >>= (λ x. Some (a ∷ x.0, x.1)) | None ↦ Some (a ∷ [], us) ]) (Some (bs, rest)) → Values ts rest bs
      split a us (Some q) {p} m sp e =
          let c = after_ok s.Comma us q m in
          let d = bind_ok _ _ _ e in
          moved (λ z. Values ts z.1 z.0) d.2 (g.more_values p c.0 ts q d.0.1 a d.0.0 (subst (λ l. Spells 0 p ts l a) c.1 sp) c.2 (h.values q d.0.0 d.0.1 d.1))
      split a us None {p} m sp e = moved (λ z. Values ts z.1 z.0) e (g.one_value p ts us a sp)

  part_sound : (ts : List Token) (part : WithPart) (us : List Token) → r.with_part_by (r.expr self 0) ts ≡ Some (part, us) →
      (n : Token) × (t : Token) × (x : List ℕ) × (p : Place) × (vs : List Token) × (a : Expr) × (ts ≡ n ∷ t ∷ vs) × IsName x n × IsSign s.Assign t × Spells 0 p vs us a × (part ≡ with_part n x a)
  part_sound ts part us e =
      let b = bind_ok _ _ _ e in
      let n = name_ok ts b.0.1 b.0.0 b.1 in
      let d = bind_ok _ _ _ b.2 in
      let t = after_ok s.Assign b.0.1 d.0 d.1 in
      let f = bind_ok _ _ _ d.2 in
      let x = expr_sound 0 d.0 f.0.0 f.0.1 used_0 f.1 in (
        n.0,
        t.0,
        n.1,
        x.0,
        d.0,
        f.0.0,
        n.2 ∙ ap (λ l. n.0 ∷ l) t.1,
        n.3,
        t.2,
        moved (λ z. Spells 0 x.0 d.0 z.1 f.0.0) f.2 x.1.spells,
        moved (λ z. z.0 ≡ with_part n.0 n.1 f.0.0) f.2 (ap (λ j. record { name = j; value = f.0.0 }) n.4),
      )

  with_parts_sound : (ts : List Token) (parts : List WithPart) (rest : List Token) → r.with_parts self ts ≡ Some (parts, rest) → WithParts ts rest parts
  with_parts_sound ts parts rest e =
      let b = bind_ok _ _ _ e in
      split b.0.0 b.0.1 (after s.Comma b.0.1) refl b.1 b.2
    where
      split : (part : WithPart) (us : List Token) (o : Option (List Token)) → after s.Comma us ≡ o → r.with_part_by (r.expr self 0) ts ≡ Some (part, us) →
          ◌≡◌ {A = Read (List WithPart)} (elim o [ Some q ↦ (self q).with_parts >>= (λ x. Some (part ∷ x.0, x.1)) | None ↦ Some (part ∷ [], us) ]) (Some (parts, rest)) → WithParts ts rest parts
      split part us (Some q) m e1 e =
          let c = after_ok s.Comma us q m in
          let d = bind_ok _ _ _ e in
          let x = part_sound ts part us e1 in
          moved (λ z. WithParts ts z.1 z.0) d.2 (subst (λ j. WithParts ts d.0.1 (j ∷ d.0.0)) (sym x.10) (subst (λ l. WithParts l d.0.1 (with_part x.0 x.2 x.5 ∷ d.0.0)) (sym x.6)
          (g.more_parts x.2 x.3 x.0 x.1 c.0 x.4 q d.0.1 x.5 d.0.0 x.7 x.8 (subst (λ l. Spells 0 x.3 x.4 l x.5) c.1 x.9) c.2 (h.with_parts q d.0.0 d.0.1 d.1))))
      split part us None m e1 e =
          let x = part_sound ts part us e1 in
          moved (λ z. WithParts ts z.1 z.0) e (subst (λ j. WithParts ts us (j ∷ [])) (sym x.10) (subst (λ l. WithParts l us (with_part x.0 x.2 x.5 ∷ [])) (sym x.6)
          (g.one_part x.2 x.3 x.0 x.1 x.4 us x.5 x.7 x.8 x.9)))

  hole_sound : (o : Token) (ts : List Token) (first : Option (TextPart × List Token)) (parts : List TextPart) (rest : List Token) → IsSign s.HoleOpen o →
      r.hole (r.expr self 0) ts ≡ Some first → r.more_text_parts self first (o ∷ ts) ≡ Some (parts, rest) → TextParts (o ∷ ts) rest parts
  hole_sound o ts first parts rest i e1 e2 =
      let b = bind_ok _ _ _ e1 in
      let x = expr_sound 0 ts b.0.0 b.0.1 used_0 b.1 in
      let d = bind_ok _ _ _ b.2 in
      let c = after_ok s.HoleClose b.0.1 d.0 d.1 in
      let f = bind_ok _ _ _ (ap (λ z. r.more_text_parts self z (o ∷ ts)) (some_is d.2) ∙ e2) in
      moved (λ z. TextParts (o ∷ ts) z.1 z.0) f.2
      (g.hole x.0 o c.0 ts d.0 f.0.1 b.0.0 f.0.0 i (subst (λ l. Spells 0 x.0 ts l b.0.0) c.1 x.1.spells) c.2 (h.text_parts d.0 f.0.0 f.0.1 f.1))

  text_parts_by_sound : (kind : TokenKind) (t : Token) (ts : List Token) (parts : List TextPart) (rest : List Token) → t.kind ≡ kind →
      (r.text_part_of (r.expr self 0) kind ts >>= λ x. r.more_text_parts self x (t ∷ ts)) ≡ Some (parts, rest) → TextParts (t ∷ ts) rest parts
  text_parts_by_sound (k.Part x) t ts parts rest i e =
      let b = bind_ok _ _ _ e in
      moved (λ z. TextParts (t ∷ ts) z.1 z.0) b.2 (g.literal_part x t ts b.0.1 b.0.0 i (h.text_parts ts b.0.0 b.0.1 b.1))
  text_parts_by_sound kind t ts parts rest i e = split (is_sign s.HoleOpen kind) refl e
    where
      split : (d : Bool) → is_sign s.HoleOpen kind ≡ d → ((if d then r.hole (r.expr self 0) ts else Some None) >>= λ x. r.more_text_parts self x (t ∷ ts)) ≡ Some (parts, rest) → TextParts (t ∷ ts) rest parts
      split true m e = let b = bind_ok _ _ _ e in hole_sound t ts b.0 parts rest (i ∙ sign_is s.HoleOpen kind m) b.1 b.2
      split false m e = moved (λ z. TextParts (t ∷ ts) z.1 z.0) e (g.no_text_part (t ∷ ts))

  text_parts_sound : (ts : List Token) (parts : List TextPart) (rest : List Token) → r.text_parts self ts ≡ Some (parts, rest) → TextParts ts rest parts
  text_parts_sound [] parts rest e = moved (λ z. TextParts [] z.1 z.0) e (g.no_text_part [])
  text_parts_sound (t ∷ ts) parts rest e = text_parts_by_sound t.kind t ts parts rest refl e

  step_sound : Sound (r.step self)
  step_sound = record {
    expr = λ l ts a rest. expr_sound l ts a rest;
    loop = λ l m p ts us a b rest. loop_sound l m p ts us a b rest;
    values = λ ts bs rest. values_sound ts bs rest;
    with_parts = λ ts parts rest. with_parts_sound ts parts rest;
    text_parts = λ ts parts rest. text_parts_sound ts parts rest;
  }

pub within_sound : (n : ℕ) → Sound (within n)
unfolding within
within_sound zero = no_reads_sound
within_sound (suc n) = step_sound (within n) (within_sound n)

-- what is read is spelled
pub first_sound : (l : ℕ) (ts : List Token) (a : Expr) (rest : List Token) → Used l → expr_first l ts ≡ Some (a, rest) → (p : Place) × Front l p ts rest a
unfolding expr_first
first_sound l ts a rest u e = (within_sound (length ts + 1)).expr l ts a rest u e
