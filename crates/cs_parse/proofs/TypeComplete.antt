-- What is written as a type is read.
use Rattle.std.proofs.Common.{◌≡◌, ℕ, zero, suc, ◌+◌, ◌-◌, ◌<◌, ◌≤◌, List, [], ◌∷◌, length, refl, sym, ap, ◌∙◌, arith}
use Rattle.std.specs.Prelude.{Bool, true, false, if◌then◌else◌, Option, Some, None}
use Rattle.cs_ast.specs.declared.cs_type.TypeExpr.{TypeExpr}
use Rattle.cs_ast.specs.declared.cs_type.TypeKind.{TypeKind}
use Rattle.cs_ast.specs.declared.cs_type.TypeKind.TheVariants as ty
use Rattle.cs_token.specs.declared.token.Token.{Token}
use Rattle.cs_token.specs.declared.token.TokenKind.TheVariants as k
use Rattle.cs_token.specs.declared.token.Sign.{Sign}
use Rattle.cs_token.specs.declared.token.Sign.TheVariants as s
use Rattle.cs_token.specs.declared.token.Word.{Word}
use Rattle.cs_token.specs.declared.token.Word.TheVariants as w
use Rattle.cs_grammar.specs.Tokens.{IsSign, IsWord, IsName}
use Rattle.cs_grammar.specs.Tables.{plain_type}
use Rattle.cs_grammar.specs.Types.{WritesType, WritesCore, type_at}
use Rattle.cs_grammar.specs.Types as g
use Rattle.cs_parse.specs.Numbers.{sign_number}
use Rattle.cs_parse.specs.declared.types.Former.{Former}
use Rattle.cs_parse.specs.declared.types.Former.TheVariants as f
use Rattle.cs_parse.specs.Reading.{Read, ◌>>=◌, after, has_sign, is_sign}
use Rattle.cs_parse.specs.TypeReading.{former, type_in, type_first, unmarked}
use Rattle.cs_parse.specs.TypeReading as r
use Rattle.cs_parse.proofs.TokenLemmas.{after_yes, after_not, is_that_sign}
use Rattle.cs_parse.proofs.TypeLaws.{type_law}

-- a type ends there: neither `<` nor `?` follows
pub record Ends (rest : List Token) : Type 0 where
  pub no_less : has_sign s.Less rest ≡ false
  pub no_question : after s.Question rest ≡ None

ends_by : (sign : Sign) (t : Token) (rest : List Token) → IsSign sign t → is_sign s.Less (k.Sign sign) ≡ false → is_sign s.Question (k.Sign sign) ≡ false → Ends (t ∷ rest)
ends_by sign t rest e d1 d2 = record { no_less = ap (is_sign s.Less) e ∙ d1; no_question = after_not s.Question t rest (ap (is_sign s.Question) e ∙ d2) }

greater_no_less : is_sign s.Less (k.Sign s.Greater) ≡ false
unfolding sign_number
greater_no_less = refl

greater_no_question : is_sign s.Question (k.Sign s.Greater) ≡ false
unfolding sign_number
greater_no_question = refl

question_no_less : is_sign s.Less (k.Sign s.Question) ≡ false
unfolding sign_number
question_no_less = refl

pub greater_ends : (t : Token) (rest : List Token) → IsSign s.Greater t → Ends (t ∷ rest)
greater_ends t rest e = ends_by s.Greater t rest e greater_no_less greater_no_question

pub name_ends : (x : List ℕ) (t : Token) (rest : List Token) → IsName x t → Ends (t ∷ rest)
name_ends x t rest e = record { no_less = ap (is_sign s.Less) e; no_question = after_not s.Question t rest (ap (is_sign s.Question) e) }

list_forms : former w.ImmutableList ≡ Some f.List
unfolding former
list_forms = refl

callback_forms : former w.EventCallback ≡ Some f.Callback
unfolding former
callback_forms = refl

fragment_forms : former w.RenderFragment ≡ Some f.Fragment
unfolding former
fragment_forms = refl

list_plain : plain_type w.ImmutableList ≡ None
unfolding plain_type
list_plain = refl

callback_plain : plain_type w.EventCallback ≡ None
unfolding plain_type
callback_plain = refl

fragment_plain : plain_type w.RenderFragment ≡ None
unfolding plain_type
fragment_plain = refl

record TypeDone (ts rest : List Token) (a : TypeExpr) : Type 0 where
  by : (n : ℕ) → Ends rest → length ts < n → (type_in n ts ≡ Some (a, rest)) × (length rest < length ts)

record CoreDone (nullable : Bool) (ts rest : List Token) (a : TypeExpr) : Type 0 where
  by : (n : ℕ) → has_sign s.Less rest ≡ false → length ts < n + 1 → (r.core (type_in n) ts ≡ Some ((a, nullable), rest)) × (length rest < length ts)

-- a word that makes a type of another one
formed : (n : ℕ) (word : Word) (fo : Former) (t : Token) (ts : List Token) → IsWord word t → plain_type word ≡ None → former word ≡ Some fo → r.core (type_in n) (t ∷ ts) ≡ r.formed (type_in n) fo t.place ts
formed n word fo t ts e1 e2 e3 =
    ap (λ kind. r.of_kind (type_in n) kind t.place ts) e1
    ∙ ap (λ o. elim o [ Some x ↦ Some ((type_at t.place x.0, x.1), ts) | None ↦ former word >>= λ x. r.formed (type_in n) x t.place ts ]) e2
    ∙ ap (λ o. o >>= λ x. r.formed (type_in n) x t.place ts) e3

angles : (n : ℕ) (o c : Token) (ts rest : List Token) (a : TypeExpr) → IsSign s.Less o → IsSign s.Greater c → type_in n ts ≡ Some (a, c ∷ rest) → r.in_angles (type_in n) (o ∷ ts) ≡ Some (a, rest)
angles n o c ts rest a e1 e2 e3 =
    ap (λ d. d >>= λ v. (type_in n v >>= λ x. (after s.Greater x.1 >>= λ q. Some (x.0, q)))) (after_yes s.Less o ts e1)
    ∙ ap (λ d. d >>= λ x. (after s.Greater x.1 >>= λ q. Some (x.0, q))) e3
    ∙ ap (λ d. d >>= λ q. Some (a, q)) (after_yes s.Greater c rest e2)

maybe_some : (n : ℕ) (o : Token) (ts rest : List Token) (a : TypeExpr) → IsSign s.Less o → r.in_angles (type_in n) (o ∷ ts) ≡ Some (a, rest) → r.maybe_in_angles (type_in n) (o ∷ ts) ≡ Some (Some a, rest)
maybe_some n o ts rest a e1 e2 =
    ap (λ b. if b then (r.in_angles (type_in n) (o ∷ ts) >>= r.there) else Some (None, o ∷ ts)) (is_that_sign s.Less o e1)
    ∙ ap (λ d. d >>= r.there) e2

maybe_none : (n : ℕ) (ts : List Token) → has_sign s.Less ts ≡ false → r.maybe_in_angles (type_in n) ts ≡ Some (None, ts)
maybe_none n ts e = ap (λ b. if b then (r.in_angles (type_in n) ts >>= r.there) else Some (None, ts)) e

type_done : (nullable : Bool) (ts us rest : List Token) (a : TypeExpr) → CoreDone nullable ts us a → (Ends rest → has_sign s.Less us ≡ false) → (Ends rest → unmarked nullable us ≡ rest) →
    length rest ≤ length us → TypeDone ts rest a
type_done nullable ts us rest a sub h1 h2 sh = record {
  by = λ n f len.
      let x = sub.by (n - 1) (h1 f) (omega arith) in
      (type_law n ts (omega arith) ∙ ap (λ o. o >>= λ z. Some (z.0.0, unmarked z.0.1 z.1)) x.0 ∙ ap (λ l. Some (a, l)) (h2 f), omega (arith, x.1));
}

unmarked_none : (nullable : Bool) (rest : List Token) → after s.Question rest ≡ None → unmarked nullable rest ≡ rest
unmarked_none true rest e = ap (λ o. elim o [ Some v ↦ v | None ↦ rest ]) e
unmarked_none false rest e = refl

mutual
  done : (ts rest : List Token) (a : TypeExpr) → WritesType ts rest a → TypeDone ts rest a
  done ts rest a (g.bare nullable _ _ _ x) = type_done nullable ts rest rest a (core_done nullable ts rest a x) (λ f. f.no_less) (λ f. unmarked_none nullable rest f.no_question) (omega arith)
  done ts rest a (g.marked q _ _ _ x e) = type_done true ts (q ∷ rest) rest a (core_done true ts (q ∷ rest) a x) (λ f. ap (is_sign s.Less) e ∙ question_no_less)
      (λ f. ap (λ o. elim o [ Some v ↦ v | None ↦ q ∷ rest ]) (after_yes s.Question q rest e)) (omega arith)

  core_done : (nullable : Bool) (ts rest : List Token) (a : TypeExpr) → WritesCore nullable ts rest a → CoreDone nullable ts rest a
  core_done nullable ts rest a (g.plain _ word kind t _ e1 e2) = record {
    by = λ n h len. (
      ap (λ x. r.of_kind (type_in n) x t.place rest) e1
          ∙ ap (λ o. elim o [ Some x ↦ Some ((type_at t.place x.0, x.1), rest) | None ↦ former word >>= λ x. r.formed (type_in n) x t.place rest ]) e2,
      omega arith,
    );
  }
  core_done nullable ts rest a (g.name x t _ e) = record { by = λ n h len. (ap (λ y. r.of_kind (type_in n) y t.place rest) e, omega arith) }
  core_done nullable ts rest a (g.list t o c us _ b e1 e2 x e3) = record {
    by = λ n h len.
        let y = (done us (c ∷ rest) b x).by n (greater_ends c rest e3) (omega arith) in (
          formed n w.ImmutableList f.List t (o ∷ us) e1 list_plain list_forms
              ∙ ap (λ d. d >>= λ z. Some ((type_at t.place (ty.List z.0), true), z.1)) (angles n o c us rest b e2 e3 y.0),
          omega (arith, y.1),
        );
  }
  core_done nullable ts rest a (g.callback t _ e) = record {
    by = λ n h len. (formed n w.EventCallback f.Callback t rest e callback_plain callback_forms ∙ ap (λ d. d >>= λ z. Some ((type_at t.place (ty.Callback z.0), false), z.1)) (maybe_none n rest h), omega arith);
  }
  core_done nullable ts rest a (g.callback_of t o c us _ b e1 e2 x e3) = record {
    by = λ n h len.
        let y = (done us (c ∷ rest) b x).by n (greater_ends c rest e3) (omega arith) in (
          formed n w.EventCallback f.Callback t (o ∷ us) e1 callback_plain callback_forms
              ∙ ap (λ d. d >>= λ z. Some ((type_at t.place (ty.Callback z.0), false), z.1)) (maybe_some n o us rest b e2 (angles n o c us rest b e2 e3 y.0)),
          omega (arith, y.1),
        );
  }
  core_done nullable ts rest a (g.fragment t _ e) = record {
    by = λ n h len. (formed n w.RenderFragment f.Fragment t rest e fragment_plain fragment_forms ∙ ap (λ d. d >>= λ z. Some ((type_at t.place (ty.Fragment z.0), true), z.1)) (maybe_none n rest h), omega arith);
  }
  core_done nullable ts rest a (g.fragment_of t o c us _ b e1 e2 x e3) = record {
    by = λ n h len.
        let y = (done us (c ∷ rest) b x).by n (greater_ends c rest e3) (omega arith) in (
          formed n w.RenderFragment f.Fragment t (o ∷ us) e1 fragment_plain fragment_forms
              ∙ ap (λ d. d >>= λ z. Some ((type_at t.place (ty.Fragment z.0), true), z.1)) (maybe_some n o us rest b e2 (angles n o c us rest b e2 e3 y.0)),
          omega (arith, y.1),
        );
  }

-- what is written, and ends there, is read
pub type_complete : (ts rest : List Token) (a : TypeExpr) → Ends rest → WritesType ts rest a → type_first ts ≡ Some (a, rest)
unfolding type_first
type_complete ts rest a f x = ((done ts rest a x).by (length ts + 1) f (omega arith)).0

-- a type takes a token or more
pub type_shrinks : (ts rest : List Token) (a : TypeExpr) → Ends rest → WritesType ts rest a → length rest < length ts
type_shrinks ts rest a f x = ((done ts rest a x).by (length ts + 1) f (omega arith)).1
