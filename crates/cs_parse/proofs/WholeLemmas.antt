-- What whole lists of tokens are read as.
use Rattle.std.proofs.Common.{◌≡◌, List, [], ◌∷◌, refl, sym, ap, ◌∙◌, subst, arith}
use Rattle.std.specs.Prelude.{Bool, true, false, ◌&&◌, if◌then◌else◌, Option, Some, None}
use Rattle.text_core.specs.declared.place.Place.{Place}
use Rattle.cs_ast.specs.declared.expression.Expr.{Expr}
use Rattle.cs_ast.specs.declared.expression.ExprKind.TheVariants as ek
use Rattle.cs_ast.specs.declared.operators.CastOp.TheVariants as co
use Rattle.cs_token.specs.declared.token.Token.{Token}
use Rattle.cs_token.specs.declared.token.Sign.TheVariants as s
use Rattle.cs_token.specs.declared.token.Word.TheVariants as w
use Rattle.cs_grammar.specs.Tokens.{IsSign, IsWord}
use Rattle.cs_grammar.specs.Expressions.{Spells, node}
use Rattle.cs_grammar.specs.Lambdas.{SpelledValue}
use Rattle.cs_grammar.specs.Lambdas as g
use Rattle.cs_parse.specs.Reading.{◌>>=◌, is_sign, is_word}
use Rattle.cs_parse.specs.WholeReading.{if_all, as_markup, markup, chosen, whole_expression, whole_value}
use Rattle.cs_parse.proofs.TokenLemmas.{bind_ok, moved, sign_is, word_is, is_that_sign, is_that_word}
use Rattle.cs_parse.proofs.ExpressionSound.{first_sound, used_0, used_11}
use Rattle.cs_parse.proofs.ExpressionComplete.{first_complete}
use Rattle.cs_parse.proofs.MarkupLemmas.{no_markup}

all_of : {A : Type 0} (a b : A) (rest : List Token) → if_all a rest ≡ Some b → (rest ≡ []) × (a ≡ b)
all_of a b [] e = (refl, cc)
all_of a b (t ∷ ts) e = absurd (cc)

expression_sound : (ts : List Token) (a : Expr) → whole_expression ts ≡ Some a → SpelledValue ts a
expression_sound ts a e =
    let b = bind_ok _ _ _ e in
    let x = first_sound 0 ts b.0.0 b.0.1 used_0 b.1 in
    let y = all_of b.0.0 a b.0.1 b.2 in
    g.expression x.0 ts a (subst (λ c. Spells 0 x.0 ts [] c) y.1 (subst (λ l. Spells 0 x.0 ts l b.0.0) y.0 x.1.spells))

record Marked (ts : List Token) (p : Place) (us : List Token) : Type 0 where
  o : Token
  t : Token
  c : Token
  whole : ts ≡ o ∷ t ∷ c ∷ us
  place : p ≡ o.place
  open_ : IsSign s.OpenRound o
  word : IsWord w.MarkupString t
  close : IsSign s.CloseRound c

marked : (ts : List Token) (p : Place) (us : List Token) → as_markup ts ≡ Some (p, us) → Marked ts p us
marked [] p us e = absurd (cc)
marked (o ∷ []) p us e = absurd (cc)
marked (o ∷ t ∷ []) p us e = absurd (cc)
marked (o ∷ t ∷ c ∷ vs) p us e = split (is_sign s.OpenRound o.kind) (is_word w.MarkupString t.kind) (is_sign s.CloseRound c.kind) refl refl refl e
  where
    split : (x y z : Bool) → is_sign s.OpenRound o.kind ≡ x → is_word w.MarkupString t.kind ≡ y → is_sign s.CloseRound c.kind ≡ z →
        ◌≡◌ {A = Option (Place × List Token)} (if x && (y && z) then Some (o.place, vs) else None) (Some (p, us)) → Marked (o ∷ t ∷ c ∷ vs) p us
    split true true true i j k e = moved (λ q. Marked (o ∷ t ∷ c ∷ vs) q.0 q.1) e (record {
      o = o;
      t = t;
      c = c;
      whole = refl;
      place = refl;
      open_ = sign_is s.OpenRound o.kind i;
      word = word_is w.MarkupString t.kind j;
      close = sign_is s.CloseRound c.kind k;
    })
    split true true false i j k e = absurd (cc)
    split true false z i j k e = absurd (cc)
    split false y z i j k e = absurd (cc)

markup_sound : (ts : List Token) (p : Place) (us : List Token) (a : Expr) → as_markup ts ≡ Some (p, us) → markup p us ≡ Some a → SpelledValue ts a
markup_sound ts p us a m e =
    let x = marked ts p us m in
    let b = bind_ok _ _ _ e in
    let y = first_sound 11 us b.0.0 b.0.1 used_11 b.1 in
    let z = all_of (node p (ek.Cast co.Markup b.0.0)) a b.0.1 b.2 in
    subst (λ c. SpelledValue ts c) z.1 (subst (λ q. SpelledValue ts (node q (ek.Cast co.Markup b.0.0))) (sym x.place)
    (subst (λ l. SpelledValue l (node x.o.place (ek.Cast co.Markup b.0.0))) (sym x.whole)
    (g.markup y.0 x.o x.t x.c us b.0.0 x.open_ x.word x.close (subst (λ l. Spells 11 y.0 us l b.0.0) z.0 y.1.spells))))

pub value_sound : (ts : List Token) (a : Expr) → whole_value ts ≡ Some a → SpelledValue ts a
value_sound ts a e = split (as_markup ts) refl e
  where
    split : (o : Option (Place × List Token)) → as_markup ts ≡ o → chosen o ts ≡ Some a → SpelledValue ts a
    split (Some x) m e = markup_sound ts x.0 x.1 a m e
    split None m e = expression_sound ts a e

pub value_complete : (ts : List Token) (a : Expr) → SpelledValue ts a → whole_value ts ≡ Some a
value_complete ts a (g.expression p _ _ sp) =
    ap (λ o. chosen o ts) (no_markup 0 p ts [] a sp)
    ∙ ap (λ o. o >>= λ x. if_all x.0 x.1) (first_complete 0 p ts [] a (omega arith) sp)
value_complete ts a (g.markup p o t c us b e1 e2 e3 sp) =
    ap (λ d. chosen (if d && (is_word w.MarkupString t.kind && is_sign s.CloseRound c.kind) then Some (o.place, us) else None) (o ∷ t ∷ c ∷ us)) (is_that_sign s.OpenRound o e1)
    ∙ ap (λ d. chosen (if d && is_sign s.CloseRound c.kind then Some (o.place, us) else None) (o ∷ t ∷ c ∷ us)) (is_that_word w.MarkupString t e2)
    ∙ ap (λ d. chosen (if d then Some (o.place, us) else None) (o ∷ t ∷ c ∷ us)) (is_that_sign s.CloseRound c e3)
    ∙ ap (λ d. d >>= λ x. if_all (node o.place (ek.Cast co.Markup x.0)) x.1) (first_complete 11 p us [] b (omega arith) sp)

pub one_value : (ts : List Token) (a b : Expr) → SpelledValue ts a → SpelledValue ts b → a ≡ b
one_value ts a b s t = let e : Some a ≡ Some b = sym (value_complete ts a s) ∙ value_complete ts b t in cc

pub none_spelled : (ts : List Token) → whole_value ts ≡ None → (a : Expr) → SpelledValue ts a → ⊥
none_spelled ts e a s = let n : None ≡ Some a = sym e ∙ value_complete ts a s in absurd (cc)
