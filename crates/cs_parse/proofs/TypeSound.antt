-- What is read as a type is one.
use Rattle.std.proofs.Common.{◌≡◌, ℕ, zero, suc, ◌+◌, List, [], ◌∷◌, length, refl, sym, ap, ◌∙◌, subst}
use Rattle.std.specs.Prelude.{Bool, true, false, if◌then◌else◌, Option, Some, None}
use Rattle.text_core.specs.declared.place.Place.{Place}
use Rattle.cs_ast.specs.declared.cs_type.TypeExpr.{TypeExpr}
use Rattle.cs_ast.specs.declared.cs_type.TypeKind.{TypeKind}
use Rattle.cs_ast.specs.declared.cs_type.TypeKind.TheVariants as ty
use Rattle.cs_token.specs.declared.token.Token.{Token}
use Rattle.cs_token.specs.declared.token.TokenKind.{TokenKind}
use Rattle.cs_token.specs.declared.token.TokenKind.TheVariants as k
use Rattle.cs_token.specs.declared.token.Sign.TheVariants as s
use Rattle.cs_token.specs.declared.token.Word.{Word}
use Rattle.cs_token.specs.declared.token.Word.TheVariants as w
use Rattle.cs_grammar.specs.Tokens.{IsSign, IsWord, IsName}
use Rattle.cs_grammar.specs.Tables.{plain_type}
use Rattle.cs_grammar.specs.Types.{WritesType, WritesCore, type_at}
use Rattle.cs_grammar.specs.Types as g
use Rattle.cs_parse.specs.declared.types.Former.{Former}
use Rattle.cs_parse.specs.declared.types.Former.TheVariants as f
use Rattle.cs_parse.specs.Reading.{Read, ◌>>=◌, after, has_sign}
use Rattle.cs_parse.specs.TypeReading.{former, type_in, type_first, unmarked}
use Rattle.cs_parse.specs.TypeReading as r
use Rattle.cs_parse.proofs.TokenLemmas.{bind_ok, moved, after_ok}

list_word : (word : Word) → former word ≡ Some f.List → word ≡ w.ImmutableList
unfolding former
list_word w.ImmutableList e = refl
list_word _ e = absurd (cc)

callback_word : (word : Word) → former word ≡ Some f.Callback → word ≡ w.EventCallback
unfolding former
callback_word w.EventCallback e = refl
callback_word _ e = absurd (cc)

fragment_word : (word : Word) → former word ≡ Some f.Fragment → word ≡ w.RenderFragment
unfolding former
fragment_word w.RenderFragment e = refl
fragment_word _ e = absurd (cc)

word_at : (word other : Word) (t : Token) → IsWord word t → word ≡ other → IsWord other t
word_at word other t e f = e ∙ ap k.Word f

record Angles (ts : List Token) (a : TypeExpr) (rest : List Token) : Type 0 where
  o : Token
  c : Token
  us : List Token
  whole : ts ≡ o ∷ us
  less : IsSign s.Less o
  inner : WritesType us (c ∷ rest) a
  greater : IsSign s.Greater c

abbrev Sound : (List Token → Read TypeExpr) → Type 0
Sound self = (ts : List Token) (a : TypeExpr) (rest : List Token) → self ts ≡ Some (a, rest) → WritesType ts rest a

module _ (self : List Token → Read TypeExpr) (h : Sound self) where
  angles_sound : (ts : List Token) (a : TypeExpr) (rest : List Token) → r.in_angles self ts ≡ Some (a, rest) → Angles ts a rest
  angles_sound ts a rest e =
      let b = bind_ok _ _ _ e in
      let o = after_ok s.Less ts b.0 b.1 in
      let d = bind_ok _ _ _ b.2 in
      let q = bind_ok _ _ _ d.2 in
      let c = after_ok s.Greater d.0.1 q.0 q.1 in
      moved (λ z. Angles ts z.0 z.1) q.2 (record {
        o = o.0;
        c = c.0;
        us = b.0;
        whole = o.1;
        less = o.2;
        inner = subst (λ l. WritesType b.0 l d.0.0) c.1 (h b.0 d.0.0 d.0.1 d.1);
        greater = c.2;
      })

  list_sound : (word : Word) (t : Token) (ts : List Token) (a : TypeExpr) (n : Bool) (rest : List Token) → IsWord w.ImmutableList t →
      r.formed self f.List t.place ts ≡ Some ((a, n), rest) → WritesCore n (t ∷ ts) rest a
  list_sound word t ts a n rest i e =
      let b = bind_ok _ _ _ e in
      let x = angles_sound ts b.0.0 b.0.1 b.1 in
      moved (λ z. WritesCore z.0.1 (t ∷ ts) z.1 z.0.0) b.2
      (subst (λ l. WritesCore true (t ∷ l) b.0.1 (type_at t.place (ty.List b.0.0))) (sym x.whole) (g.list t x.o x.c x.us b.0.1 b.0.0 i x.less x.inner x.greater))

  maybe_sound : (ts : List Token) (a : Option TypeExpr) (rest : List Token) (P : Option TypeExpr → List Token → Type 0) →
      r.maybe_in_angles self ts ≡ Some (a, rest) → P None ts → ((b : TypeExpr) (us : List Token) → Angles ts b us → P (Some b) us) → P a rest
  maybe_sound ts a rest P e none some = go (has_sign s.Less ts) e
    where
      go : (d : Bool) → ◌≡◌ {A = Read (Option TypeExpr)} (if d then (r.in_angles self ts >>= r.there) else Some (None, ts)) (Some (a, rest)) → P a rest
      go true e = let b = bind_ok _ _ _ e in moved (λ z. P z.0 z.1) b.2 (some b.0.0 b.0.1 (angles_sound ts b.0.0 b.0.1 b.1))
      go false e = moved (λ z. P z.0 z.1) e none

  callback_sound : (t : Token) (ts : List Token) (a : TypeExpr) (n : Bool) (rest : List Token) → IsWord w.EventCallback t →
      r.formed self f.Callback t.place ts ≡ Some ((a, n), rest) → WritesCore n (t ∷ ts) rest a
  callback_sound t ts a n rest i e =
      let b = bind_ok _ _ _ e in
      moved (λ z. WritesCore z.0.1 (t ∷ ts) z.1 z.0.0) b.2
      (maybe_sound ts b.0.0 b.0.1 (λ c us. WritesCore false (t ∷ ts) us (type_at t.place (ty.Callback c))) b.1 (g.callback t ts i)
      (λ c us x. subst (λ l. WritesCore false (t ∷ l) us (type_at t.place (ty.Callback (Some c)))) (sym x.whole) (g.callback_of t x.o x.c x.us us c i x.less x.inner x.greater)))

  fragment_sound : (t : Token) (ts : List Token) (a : TypeExpr) (n : Bool) (rest : List Token) → IsWord w.RenderFragment t →
      r.formed self f.Fragment t.place ts ≡ Some ((a, n), rest) → WritesCore n (t ∷ ts) rest a
  fragment_sound t ts a n rest i e =
      let b = bind_ok _ _ _ e in
      moved (λ z. WritesCore z.0.1 (t ∷ ts) z.1 z.0.0) b.2
      (maybe_sound ts b.0.0 b.0.1 (λ c us. WritesCore true (t ∷ ts) us (type_at t.place (ty.Fragment c))) b.1 (g.fragment t ts i)
      (λ c us x. subst (λ l. WritesCore true (t ∷ l) us (type_at t.place (ty.Fragment (Some c)))) (sym x.whole) (g.fragment_of t x.o x.c x.us us c i x.less x.inner x.greater)))

  formed_sound : (fo : Former) (word : Word) (t : Token) (ts : List Token) (a : TypeExpr) (n : Bool) (rest : List Token) → IsWord word t → former word ≡ Some fo →
      r.formed self fo t.place ts ≡ Some ((a, n), rest) → WritesCore n (t ∷ ts) rest a
  formed_sound f.List word t ts a n rest i m e = list_sound word t ts a n rest (word_at word w.ImmutableList t i (list_word word m)) e
  formed_sound f.Callback word t ts a n rest i m e = callback_sound t ts a n rest (word_at word w.EventCallback t i (callback_word word m)) e
  formed_sound f.Fragment word t ts a n rest i m e = fragment_sound t ts a n rest (word_at word w.RenderFragment t i (fragment_word word m)) e

  word_sound : (word : Word) (t : Token) (ts : List Token) (a : TypeExpr) (n : Bool) (rest : List Token) → IsWord word t →
      r.of_word self word t.place ts ≡ Some ((a, n), rest) → WritesCore n (t ∷ ts) rest a
  word_sound word t ts a n rest i e = go (plain_type word) refl e
    where
      go : (o : Option (TypeKind × Bool)) → plain_type word ≡ o →
          ◌≡◌ {A = r.Core} (elim o [ Some x ↦ Some ((type_at t.place x.0, x.1), ts) | None ↦ former word >>= λ fo. r.formed self fo t.place ts ]) (Some ((a, n), rest)) → WritesCore n (t ∷ ts) rest a
      go (Some x) m e = moved (λ z. WritesCore z.0.1 (t ∷ ts) z.1 z.0.0) e (g.plain x.1 word x.0 t ts i m)
      go None m e = let b = bind_ok (former word) (λ fo. r.formed self fo t.place ts) _ e in formed_sound b.0 word t ts a n rest i b.1 b.2

  kind_sound : (kind : TokenKind) (t : Token) (ts : List Token) (a : TypeExpr) (n : Bool) (rest : List Token) → t.kind ≡ kind →
      r.of_kind self kind t.place ts ≡ Some ((a, n), rest) → WritesCore n (t ∷ ts) rest a
  kind_sound (k.Name x) t ts a n rest i e = moved (λ z. WritesCore z.0.1 (t ∷ ts) z.1 z.0.0) e (g.name x t ts i)
  kind_sound (k.Word word) t ts a n rest i e = word_sound word t ts a n rest i e
  kind_sound _ t ts a n rest i e = absurd (cc)

  core_sound : (ts : List Token) (a : TypeExpr) (n : Bool) (rest : List Token) → r.core self ts ≡ Some ((a, n), rest) → WritesCore n ts rest a
  core_sound [] a n rest e = absurd (cc)
  core_sound (t ∷ ts) a n rest e = kind_sound t.kind t ts a n rest refl e

  unmarked_sound : (ts : List Token) (a : TypeExpr) (n : Bool) (rest : List Token) → WritesCore n ts rest a → WritesType ts (unmarked n rest) a
  unmarked_sound ts a false rest x = g.bare false ts rest a x
  unmarked_sound ts a true rest x = go (after s.Question rest) refl
    where
      go : (o : Option (List Token)) → after s.Question rest ≡ o → WritesType ts (elim o [ Some q ↦ q | None ↦ rest ]) a
      go (Some q) m = let c = after_ok s.Question rest q m in g.marked c.0 ts q a (subst (λ l. WritesCore true ts l a) c.1 x) c.2
      go None m = g.bare true ts rest a x

in_sound : (n : ℕ) → Sound (type_in n)
unfolding type_in
in_sound zero ts a rest e = absurd (cc)
in_sound (suc n) ts a rest e =
    let b = bind_ok _ _ _ e in
    moved (λ z. WritesType ts z.1 z.0) b.2 (unmarked_sound (type_in n) (in_sound n) ts b.0.0.0 b.0.0.1 b.0.1 (core_sound (type_in n) (in_sound n) ts b.0.0.0 b.0.0.1 b.0.1 b.1))

-- what is read is written
pub type_sound : (ts : List Token) (a : TypeExpr) (rest : List Token) → type_first ts ≡ Some (a, rest) → WritesType ts rest a
unfolding type_first
type_sound ts a rest e = in_sound (length ts + 1) ts a rest e
