-- What is read doesn't depend on the number of calls that reading may take, where that is above the number of tokens.
use Rattle.std.proofs.Common.{◌≡◌, ℕ, zero, suc, ◌+◌, ◌<◌, ◌≤◌, List, [], ◌∷◌, length, refl, sym, ap, ◌∙◌, arith, subst}
use Rattle.std.specs.Prelude.{Bool, true, false, nat_lt, if◌then◌else◌, codes, Option, Some, None}
use Rattle.std.specs.Str.{bytes_eq}
use Rattle.text_core.specs.declared.place.Place.{Place}
use Rattle.cs_ast.specs.declared.cs_type.TypeExpr.{TypeExpr}
use Rattle.cs_ast.specs.declared.expression.Expr.{Expr}
use Rattle.cs_ast.specs.declared.expression.ExprKind.TheVariants as ek
use Rattle.cs_ast.specs.declared.expression.TextPart.TheVariants as tp
use Rattle.cs_ast.specs.declared.expression.WithPart.{WithPart}
use Rattle.cs_ast.specs.declared.identifier.Ident.{Ident}
use Rattle.cs_ast.specs.declared.operators.CastOp.TheVariants as co
use Rattle.cs_token.specs.declared.token.Token.{Token}
use Rattle.cs_token.specs.declared.token.TokenKind.{TokenKind}
use Rattle.cs_token.specs.declared.token.TokenKind.TheVariants as k
use Rattle.cs_token.specs.declared.token.Sign.TheVariants as s
use Rattle.cs_grammar.specs.Tables.{right_level}
use Rattle.cs_grammar.specs.Expressions.{node}
use Rattle.cs_parse.specs.declared.tables.Going.{Going}
use Rattle.cs_parse.specs.declared.tables.Going.TheVariants as go
use Rattle.cs_parse.specs.declared.tables.FirstWord.{FirstWord}
use Rattle.cs_parse.specs.declared.tables.FirstWord.TheVariants as fw
use Rattle.cs_parse.specs.declared.tables.FirstSign.{FirstSign}
use Rattle.cs_parse.specs.declared.tables.FirstSign.TheVariants as fs
use Rattle.cs_parse.specs.Reading.{Read, ◌>>=◌, after, named, is_sign}
use Rattle.cs_parse.specs.ExpressionReading.{Reads, within, reads, going, strength, next, first_word, first_sign, as_cast}
use Rattle.cs_parse.specs.ExpressionReading as r
use Rattle.cs_parse.proofs.Shorter.{after_shorter, name_shorter, type_shorter, cast_shorter}

-- at most so many tokens are left
abbrev pub Fewer : {A : Type 0} → ℕ → Read A → Type 0
Fewer n None = Unit {0}
Fewer n (Some x) = length x.1 ≤ n

-- the same is read, and at most so many tokens are left
pub record Alike {A : Type 0} (n : ℕ) (o q : Read A) : Type 0 where
  pub same : o ≡ q
  pub fewer : Fewer n o

pub record AlikeReads (n : ℕ) (o q : Reads) : Type 0 where
  pub expr : (l : ℕ) → Alike n (o.expr l) (q.expr l)
  pub loop : (l : ℕ) (p : Place) (a : Expr) → Alike n (o.loop l p a) (q.loop l p a)
  pub values : Alike n o.values q.values
  pub with_parts : Alike n o.with_parts q.with_parts
  pub text_parts : Alike n o.text_parts q.text_parts

itself : {A : Type 0} (n : ℕ) (o : Read A) → Fewer n o → Alike n o o
itself n o h = record { same = refl; fewer = h }

more : {A : Type 0} (n m : ℕ) (o : Read A) → n ≤ m → Fewer n o → Fewer m o
more n m None i h = tt
more n m (Some x) i h = omega arith

weaker : {A : Type 0} {n : ℕ} {o q : Read A} (m : ℕ) → n ≤ m → Alike n o q → Alike m o q
weaker {A} {n} {o} {q} m i a = record { same = a.same; fewer = more n m o i a.fewer }

by_law : {A : Type 0} {n : ℕ} {o q : Read A} {v w : Read A} → v ≡ o → w ≡ q → Alike n o q → Alike n v w
by_law {A} {n} {o} {q} {v} {w} e f a = record { same = e ∙ a.same ∙ sym f; fewer = subst (Fewer n) (sym e) a.fewer }

bind_fewer : {A B : Type 0} (n m : ℕ) (o : Read A) (f : A × List Token → Read B) → Fewer n o → ((x : A × List Token) → length x.1 ≤ n → Fewer m (f x)) → Fewer m (o >>= f)
bind_fewer n m None f h i = tt
bind_fewer n m (Some x) f h i = i x h

bind_same : {A B : Type 0} (n : ℕ) (o : Read A) (f g : A × List Token → Read B) → Fewer n o → ((x : A × List Token) → length x.1 ≤ n → f x ≡ g x) → (o >>= f) ≡ (o >>= g)
bind_same n None f g h i = refl
bind_same n (Some x) f g h i = i x h

bind : {A B : Type 0} {n : ℕ} {o q : Read A} (m : ℕ) (f g : A × List Token → Read B) → Alike n o q → ((x : A × List Token) → length x.1 ≤ n → Alike m (f x) (g x)) →
    Alike m (o >>= f) (q >>= g)
bind {A} {B} {n} {o} {q} m f g a i = record {
  same = bind_same n o f g a.fewer (λ x j. (i x j).same) ∙ ap (λ z. z >>= g) a.same;
  fewer = bind_fewer n m o f a.fewer (λ x j. (i x j).fewer);
}

-- behind a step that takes tokens
behind : {A B : Type 0} (m : ℕ) (o : Option A) (f g : A → Read B) → ((x : A) → o ≡ Some x → Alike m (f x) (g x)) → Alike m (o >>= f) (o >>= g)
behind m None f g i = itself m None tt
behind m (Some x) f g i = i x refl

either : {A B : Type 0} (m : ℕ) (o : Option A) (f g : A → Read B) (v w : Read B) → ((x : A) → o ≡ Some x → Alike m (f x) (g x)) → Alike m v w →
    Alike m (elim o [ Some x ↦ f x | None ↦ v ]) (elim o [ Some x ↦ g x | None ↦ w ])
either m None f g v w i j = j
either m (Some x) f g v w i j = i x refl

test : {A : Type 0} (m : ℕ) (b : Bool) (o q v w : Read A) → Alike m o q → Alike m v w → Alike m (if b then o else v) (if b then q else w)
test m true o q v w i j = i
test m false o q v w i j = j

-- a step and another, as one
pub joined : {A B C : Type 0} (o : Option A) (f : A → Option B) (g : B → Option C) → ((o >>= f) >>= g) ≡ (o >>= λ x. (f x >>= g))
joined None f g = refl
joined (Some x) f g = refl

pub each : {A B : Type 0} (o : Option A) (f g : A → Option B) → ((x : A) → f x ≡ g x) → (o >>= f) ≡ (o >>= g)
each None f g h = refl
each (Some x) f g h = h x

-- a part of a `with` of its name and its value
abbrev pub as_part : Ident → Expr × List Token → Read WithPart
as_part name x = Some (record { name = name; value = x.0 }, x.1)

-- parts of an interpolated text behind a hole
pub hole_law : (self : List Token → Reads) (read : List Token → Read Expr) (ts us : List Token) →
    (r.hole read ts >>= λ z. r.more_text_parts self z us) ≡ (read ts >>= λ x. (after s.HoleClose x.1 >>= λ q. ((self q).text_parts >>= λ y. Some (tp.Hole x.0 ∷ y.0, y.1))))
hole_law self read ts us =
    joined (read ts) (λ x. after s.HoleClose x.1 >>= λ q. Some (Some (tp.Hole x.0, q))) (λ z. r.more_text_parts self z us)
    ∙ each (read ts) (λ x. (after s.HoleClose x.1 >>= λ q. Some (Some (tp.Hole x.0, q))) >>= λ z. r.more_text_parts self z us)
    (λ x. after s.HoleClose x.1 >>= λ q. ((self q).text_parts >>= λ y. Some (tp.Hole x.0 ∷ y.0, y.1)))
    (λ x. joined (after s.HoleClose x.1) (λ q. Some (Some (tp.Hole x.0, q))) (λ z. r.more_text_parts self z us))

empty_alike : (m : ℕ) (p : Place) (ts : List Token) → length ts ≤ m → Alike m (r.empty_list p ts) (r.empty_list p ts)
empty_alike m p ts i =
    behind m _ _ _ (λ a e1. behind {A = TypeExpr × List Token} m _ _ _ (λ x e2. behind m _ _ _ (λ b e3. behind m _ _ _ (λ c e4. behind m _ _ _ (λ d e5.
    itself m (Some (node p (ek.EmptyList x.0), d)) (omega (arith, after_shorter s.Less ts a e1, type_shorter a x.0 x.1 e2, after_shorter s.Greater x.1 b e3, after_shorter s.Dot b c e4, name_empty c d e5)))))))
  where
    name_empty : (ts rest : List Token) → r.empty ts ≡ Some rest → length rest < length ts
    name_empty [] rest e = absurd (cc)
    name_empty (t ∷ ts) rest e = split t.kind e
      where
        test_empty : (b : Bool) → (if b then Some ts else None) ≡ Some rest → length rest < length (t ∷ ts)
        test_empty true e = let same : ts ≡ rest = cc in omega (arith, ap length same)
        test_empty false e = absurd (cc)

        split : (kind : TokenKind) → (named kind t ts >>= λ n. if bytes_eq n.0.name (codes "Empty") then Some n.1 else None) ≡ Some rest → length rest < length (t ∷ ts)
        split (k.Name x) e = test_empty (bytes_eq x (codes "Empty")) e
        split _ e = absurd (cc)

module _ (self other : List Token → Reads) (n : ℕ) (h : (us : List Token) → length us ≤ n → AlikeReads (length us) (self us) (other us)) where
  some_arguments_alike : (ts : List Token) → length ts ≤ n → Alike (length ts) (r.some_arguments self ts) (r.some_arguments other ts)
  some_arguments_alike ts i = bind _ _ _ (h ts i).values (λ x j. behind _ _ _ _ (λ q e. itself _ (Some (x.0, q)) (omega (arith, after_shorter s.CloseRound x.1 q e))))

  arguments_alike : (ts : List Token) → length ts ≤ n → Alike (length ts) (r.arguments self ts) (r.arguments other ts)
  arguments_alike ts i =
      either _ (after s.CloseRound ts) _ _ _ _ (λ q e. itself _ (Some ([], q)) (omega (arith, after_shorter s.CloseRound ts q e))) (some_arguments_alike ts i)

  record_alike : (p : Place) (ts : List Token) → length ts ≤ n → Alike (length ts) (r.made_record self p ts) (r.made_record other p ts)
  record_alike p ts i =
      behind {A = Ident × List Token} _ _ _ _ (λ x e1. behind _ _ _ _ (λ q e2.
      let short : length q < length ts = omega (arith, name_shorter ts x.1 x.0 e1, after_shorter s.OpenRound x.1 q e2) in
      bind _ _ _ (arguments_alike q (omega arith)) (λ y j. itself _ (Some (node p (ek.New x.0 y.0), y.1)) (omega arith))))

  of_word_alike : (word : FirstWord) (p : Place) (ts : List Token) → length ts ≤ n → Alike (length ts) (r.of_word self word p ts) (r.of_word other word p ts)
  of_word_alike (fw.Truth truth) p ts i = itself _ (Some (node p (ek.Bool truth), ts)) (omega arith)
  of_word_alike fw.Null p ts i = itself _ (Some (node p ek.Null, ts)) (omega arith)
  of_word_alike fw.New p ts i = record_alike p ts i
  of_word_alike fw.List p ts i = empty_alike _ p ts (omega arith)
  of_word_alike (fw.Static owner) p ts i =
      behind _ _ _ _ (λ q e1. behind {A = Ident × List Token} _ _ _ _ (λ x e2. itself _ (Some (node p (ek.Static owner x.0), x.1)) (omega (arith, after_shorter s.Dot ts q e1, name_shorter q x.1 x.0 e2))))
  of_word_alike fw.Nothing p ts i = itself _ None tt

  interpolated_alike : (p : Place) (ts : List Token) → length ts ≤ n → Alike (length ts) (r.interpolated self p ts) (r.interpolated other p ts)
  interpolated_alike p ts i =
      bind _ _ _ (h ts i).text_parts (λ x j. behind _ _ _ _ (λ q e. itself _ (Some (node p (ek.Interpolated x.0), q)) (omega (arith, after_shorter s.InterpolationEnd x.1 q e))))

  bracketed_alike : (ts : List Token) → length ts ≤ n → Alike (length ts) (r.bracketed self ts) (r.bracketed other ts)
  bracketed_alike ts i = bind _ _ _ ((h ts i).expr 0) (λ x j. behind _ _ _ _ (λ q e. itself _ (Some (x.0, q)) (omega (arith, after_shorter s.CloseRound x.1 q e))))

  cast_alike : (p : Place) (ts : List Token) → length ts ≤ n → Alike (length ts) (r.cast self p ts) (r.cast other p ts)
  cast_alike p ts i = bind _ _ _ ((h ts i).expr 11) (λ x j. itself _ (Some (node p (ek.Cast co.Text x.0), x.1)) j)

  round_alike : (p : Place) (ts : List Token) → length ts ≤ n → Alike (length ts) (r.round self p ts) (r.round other p ts)
  round_alike p ts i =
      either _ (as_cast ts) _ _ _ _ (λ q e. let short = cast_shorter ts q e in weaker _ (omega arith) (cast_alike p q (omega arith))) (bracketed_alike ts i)

  of_sign_alike : (sign : FirstSign) (p : Place) (ts : List Token) → length ts ≤ n → Alike (length ts) (r.of_sign self sign p ts) (r.of_sign other sign p ts)
  of_sign_alike fs.Interpolation p ts i = interpolated_alike p ts i
  of_sign_alike fs.Round p ts i = round_alike p ts i
  of_sign_alike (fs.Operator op) p ts i = bind _ _ _ ((h ts i).expr 11) (λ x j. itself _ (Some (node p (ek.Unary op x.0), x.1)) j)
  of_sign_alike fs.Nothing p ts i = itself _ None tt

  prefix_alike : (kind : TokenKind) (p : Place) (ts : List Token) → length ts ≤ n → Alike (length ts) (r.prefix self kind p ts) (r.prefix other kind p ts)
  prefix_alike (k.Number x) p ts i = itself _ (Some (node p (ek.Int x), ts)) (omega arith)
  prefix_alike (k.Text x) p ts i = itself _ (Some (node p (ek.Text x), ts)) (omega arith)
  prefix_alike (k.Name x) p ts i = itself _ (Some (node p (ek.Name x), ts)) (omega arith)
  prefix_alike (k.Part x) p ts i = itself _ None tt
  prefix_alike (k.Word word) p ts i = of_word_alike (first_word word) p ts i
  prefix_alike (k.Sign sign) p ts i = of_sign_alike (first_sign sign) p ts i

  expr_alike : (l : ℕ) (t : Token) (ts : List Token) → length ts ≤ n → Alike (length ts) (r.expr self l (t ∷ ts)) (r.expr other l (t ∷ ts))
  expr_alike l t ts i = bind _ _ _ (prefix_alike t.kind t.place ts i) (λ x j. weaker _ j ((h x.1 (omega arith)).loop l t.place x.0))

  conditional_alike : (p : Place) (a : Expr) (ts : List Token) → length ts ≤ n → Alike (length ts) (r.conditional self p a ts) (r.conditional other p a ts)
  conditional_alike p a ts i =
      bind _ _ _ ((h ts i).expr 0) (λ x j. behind _ _ _ _ (λ q e.
      let short = after_shorter s.Colon x.1 q e in
      bind _ _ _ ((h q (omega arith)).expr 0) (λ y j2. itself _ (Some (node p (ek.Conditional a x.0 y.0), y.1)) (omega arith))))

  with_some_alike : (p : Place) (a : Expr) (ts : List Token) → length ts ≤ n → Alike (length ts) (r.with_some self p a ts) (r.with_some other p a ts)
  with_some_alike p a ts i =
      behind _ _ _ _ (λ q e.
      let short = after_shorter s.OpenBrace ts q e in
      bind _ _ _ (h q (omega arith)).with_parts (λ x j. behind _ _ _ _ (λ v e2.
      test _ (nat_lt 11 (next v)) None None (Some (node p (ek.With a x.0), v)) (Some (node p (ek.With a x.0), v)) (itself _ None tt)
      (itself _ (Some (node p (ek.With a x.0), v)) (omega (arith, after_shorter s.CloseBrace x.1 v e2))))))

  further_alike : (p : Place) (a : Expr) (kind : Going) (ts : List Token) → length ts ≤ n → Alike (length ts) (r.further self p a kind ts) (r.further other p a kind ts)
  further_alike p a go.Conditional ts i = conditional_alike p a ts i
  further_alike p a (go.Operator op) ts i = bind _ _ _ ((h ts i).expr (right_level op)) (λ x j. itself _ (Some (node p (ek.Binary op a x.0), x.1)) j)
  further_alike p a go.With ts i = with_some_alike p a ts i
  further_alike p a go.NullMember ts i =
      behind {A = Ident × List Token} _ _ _ _ (λ x e. test _ (nat_lt 12 (next x.1)) None None (Some (node p (ek.NullMember a x.0), x.1)) (Some (node p (ek.NullMember a x.0), x.1)) (itself _ None tt)
      (itself _ (Some (node p (ek.NullMember a x.0), x.1)) (omega (arith, name_shorter ts x.1 x.0 e))))
  further_alike p a go.Member ts i = behind {A = Ident × List Token} _ _ _ _ (λ x e. itself _ (Some (node p (ek.Member a x.0), x.1)) (omega (arith, name_shorter ts x.1 x.0 e)))
  further_alike p a go.Call ts i = bind _ _ _ (arguments_alike ts i) (λ x j. itself _ (Some (node p (ek.Call a x.0), x.1)) j)
  further_alike p a go.Index ts i = bind _ _ _ ((h ts i).expr 0) (λ x j. behind _ _ _ _ (λ q e. itself _ (Some (node p (ek.Index a x.0), q)) (omega (arith, after_shorter s.CloseSquare x.1 q e))))
  further_alike p a go.Nothing ts i = itself _ None tt

  longer_alike : (l : ℕ) (p : Place) (a : Expr) (kind : Going) (ts : List Token) → length ts ≤ n → Alike (length ts) (r.longer self l p a kind ts) (r.longer other l p a kind ts)
  longer_alike l p a kind ts i = bind _ _ _ (further_alike p a kind ts i) (λ x j. weaker _ j ((h x.1 (omega arith)).loop l p x.0))

  loop_alike : (l : ℕ) (p : Place) (a : Expr) (t : Token) (ts : List Token) → length ts ≤ n → Alike (length (t ∷ ts)) (r.loop self l p a (t ∷ ts)) (r.loop other l p a (t ∷ ts))
  loop_alike l p a t ts i =
      test _ (nat_lt l (strength (going t.kind))) (r.longer self l p a (going t.kind) ts) (r.longer other l p a (going t.kind) ts) (Some (a, t ∷ ts)) (Some (a, t ∷ ts))
      (weaker _ (omega arith) (longer_alike l p a (going t.kind) ts i)) (itself _ (Some (a, t ∷ ts)) (omega arith))

  more_values_alike : (a : Expr) (ts : List Token) → length ts ≤ n → Alike (length ts) (r.more_values self a ts) (r.more_values other a ts)
  more_values_alike a ts i =
      either _ (after s.Comma ts) _ _ _ _ (λ q e. let short = after_shorter s.Comma ts q e in bind _ _ _ (h q (omega arith)).values (λ x j. itself _ (Some (a ∷ x.0, x.1)) (omega arith)))
      (itself _ (Some (a ∷ [], ts)) (omega arith))

  values_alike : (t : Token) (ts : List Token) → length ts ≤ n → Alike (length ts) (r.values self (t ∷ ts)) (r.values other (t ∷ ts))
  values_alike t ts i = bind _ _ _ (expr_alike 0 t ts i) (λ x j. weaker _ j (more_values_alike x.0 x.1 (omega arith)))

  more_parts_alike : (part : WithPart) (ts : List Token) → length ts ≤ n → Alike (length ts) (r.more_with_parts self part ts) (r.more_with_parts other part ts)
  more_parts_alike part ts i =
      either _ (after s.Comma ts) _ _ _ _ (λ q e. let short = after_shorter s.Comma ts q e in bind _ _ _ (h q (omega arith)).with_parts (λ x j. itself _ (Some (part ∷ x.0, x.1)) (omega arith)))
      (itself _ (Some (part ∷ [], ts)) (omega arith))

  value_alike : (name : Ident) (ts : List Token) → length ts ≤ n → Alike (length ts)
      (r.expr self 0 ts >>= as_part name) (r.expr other 0 ts >>= as_part name)
  value_alike name [] i = itself _ None tt
  value_alike name (t ∷ ts) i = bind _ _ _ (expr_alike 0 t ts (omega arith)) (λ x j. itself _ (as_part name x) (omega arith))

  part_alike : (t : Token) (ts : List Token) → length ts ≤ n → Alike (length ts) (r.with_part_by (r.expr self 0) (t ∷ ts)) (r.with_part_by (r.expr other 0) (t ∷ ts))
  part_alike t ts i =
      behind {A = Ident × List Token} _ _ _ _ (λ x e. behind _ _ _ _ (λ q e2.
      let short : length q < length ts = omega (arith, name_shorter (t ∷ ts) x.1 x.0 e, after_shorter s.Assign x.1 q e2) in
      weaker _ (omega arith) (value_alike x.0 q (omega arith))))

  parts_alike : (t : Token) (ts : List Token) → length ts ≤ n → Alike (length ts) (r.with_parts self (t ∷ ts)) (r.with_parts other (t ∷ ts))
  parts_alike t ts i = bind _ _ _ (part_alike t ts i) (λ x j. weaker _ j (more_parts_alike x.0 x.1 (omega arith)))

  hole_alike : (ts : List Token) → length ts ≤ n → Alike (length ts)
      (r.expr self 0 ts >>= λ x. (after s.HoleClose x.1 >>= λ q. ((self q).text_parts >>= λ y. Some (tp.Hole x.0 ∷ y.0, y.1))))
      (r.expr other 0 ts >>= λ x. (after s.HoleClose x.1 >>= λ q. ((other q).text_parts >>= λ y. Some (tp.Hole x.0 ∷ y.0, y.1))))
  hole_alike [] i = itself _ None tt
  hole_alike (t ∷ ts) i =
      bind _ _ _ (expr_alike 0 t ts (omega arith)) (λ x j. behind _ _ _ _ (λ q e.
      let short = after_shorter s.HoleClose x.1 q e in
      bind _ _ _ (h q (omega arith)).text_parts (λ y j2. itself _ (Some (tp.Hole x.0 ∷ y.0, y.1)) (omega arith))))

  text_alike : (t : Token) (ts : List Token) → length ts ≤ n → Alike (length (t ∷ ts)) (r.text_parts self (t ∷ ts)) (r.text_parts other (t ∷ ts))
  text_alike t ts i = split t.kind
    where
      open_hole : (b : Bool) → Alike (length (t ∷ ts)) ((if b then r.hole (r.expr self 0) ts else Some None) >>= λ x. r.more_text_parts self x (t ∷ ts))
          ((if b then r.hole (r.expr other 0) ts else Some None) >>= λ x. r.more_text_parts other x (t ∷ ts))
      open_hole true = weaker _ (omega arith) (by_law (hole_law self (r.expr self 0) ts (t ∷ ts)) (hole_law other (r.expr other 0) ts (t ∷ ts)) (hole_alike ts i))
      open_hole false = itself _ (Some ([], t ∷ ts)) (omega arith)

      split : (kind : TokenKind) → Alike (length (t ∷ ts)) (r.text_part_of (r.expr self 0) kind ts >>= λ x. r.more_text_parts self x (t ∷ ts))
          (r.text_part_of (r.expr other 0) kind ts >>= λ x. r.more_text_parts other x (t ∷ ts))
      split (k.Part x) = weaker _ (omega arith) (bind _ _ _ (h ts i).text_parts (λ y j. itself _ (Some (tp.Literal x ∷ y.0, y.1)) j))
      split kind = open_hole (is_sign s.HoleOpen kind)

  step_alike : (t : Token) (ts : List Token) → length ts ≤ n → AlikeReads (length (t ∷ ts)) (r.step self (t ∷ ts)) (r.step other (t ∷ ts))
  step_alike t ts i = record {
    expr = λ l. weaker _ (omega arith) (expr_alike l t ts i);
    loop = λ l p a. loop_alike l p a t ts i;
    values = weaker _ (omega arith) (values_alike t ts i);
    with_parts = weaker _ (omega arith) (parts_alike t ts i);
    text_parts = text_alike t ts i;
  }

nothing_alike : (self other : List Token → Reads) → AlikeReads zero (r.step self []) (r.step other [])
nothing_alike self other = record {
  expr = λ l. itself _ None tt;
  loop = λ l p a. itself _ (Some (a, [])) (omega arith);
  values = itself _ None tt;
  with_parts = itself _ None tt;
  text_parts = itself _ (Some ([], [])) (omega arith);
}

within_alike : (n v w : ℕ) (ts : List Token) → length ts ≤ n → n < v → n < w → AlikeReads (length ts) (within v ts) (within w ts)
unfolding within
within_alike n zero w ts i j q = absurd (omega arith)
within_alike n (suc v) zero ts i j q = absurd (omega arith)
within_alike n (suc v) (suc w) [] i j q = nothing_alike (within v) (within w)
within_alike zero (suc v) (suc w) (t ∷ ts) i j q = absurd (omega arith)
within_alike (suc n) (suc v) (suc w) (t ∷ ts) i j q = step_alike (within v) (within w) n (λ us i2. within_alike n v w us i2 (omega arith) (omega arith)) t ts (omega arith)

one_more : (n : ℕ) → n + 1 ≡ suc n
one_more n = omega arith

-- what is read at the front is one step and what is read at the front of what is left
pub reads_law : (ts : List Token) → AlikeReads (length ts) (reads ts) (r.step reads ts)
unfolding reads within
reads_law [] = nothing_alike (within zero) reads
reads_law (t ∷ ts) =
    subst (λ n. AlikeReads (length (t ∷ ts)) (within n (t ∷ ts)) (r.step reads (t ∷ ts))) (sym (one_more (length (t ∷ ts))))
    (step_alike (within (length (t ∷ ts))) reads (length ts) (λ us i. within_alike (length us) (length (t ∷ ts)) (length us + 1) us (omega arith) (omega arith) (omega arith)) t ts (omega arith))
