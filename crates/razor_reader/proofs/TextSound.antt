-- What the text of an attribute is read as is what it spells.
use Rattle.std.proofs.Common.{◌≡◌, ◌⊎◌, ℕ, List, [], ◌∷◌, refl, sym, ap, ◌∙◌, subst, inl, inr}
use Rattle.std.specs.Prelude.{Bool, true, false, map, Option, Some, None}
use Rattle.std.specs.Str.{bytes_eq}
use Rattle.text_core.specs.declared.place.Place.{Place}
use Rattle.cs_ast.specs.declared.expression.Expr.{Expr}
use Rattle.cs_token.specs.declared.fault.Cause.{Cause}
use Rattle.cs_token.specs.declared.token.Token.{Token}
use Rattle.cs_token.specs.declared.token.TokenKind.{TokenKind}
use Rattle.cs_token.specs.declared.token.TokenKind.TheVariants as t
use Rattle.cs_token.specs.Places.{first_place}
use Rattle.cs_token.specs.Spelling.{Spells, GoesWrong}
use Rattle.cs_token.proofs.DecidedLemmas.{Decided, decided}
use Rattle.cs_token.proofs.LawLemmas.{one_list, wrong_spells_nothing}
use Rattle.cs_grammar.specs.Lambdas.{Spelled}
use Rattle.cs_grammar.specs.Nesting.{too_deep_from}
use Rattle.razor_ast.specs.TextValues.{token_from, SpellsTokens, SpellsExpression, IsExpressionOf, IsNameText}
use Rattle.razor_reader.specs.CodeReading.{spelled}
use Rattle.razor_reader.specs.Reading.{◌>>=◌}
use Rattle.razor_reader.specs.TextReading as r
use Rattle.razor_reader.proofs.ReadLemmas.{bind_ok, same_text}
use Rattle.razor_reader.proofs.CodeLemmas.{is_spelled}
use Rattle.razor_reader.proofs.CodeSound as code
use Rattle.razor_reader.proofs.FlatLemmas.{flat_alone}

tokens_sound : (text : List ℕ) (ts : List Token) → r.spelled_tokens text ≡ Some ts → Spells text ts
unfolding r.spelled_tokens
tokens_sound text ts e = go (decided text) e
  where
    go : (d : Decided text) → elim d [ inl x ↦ Some x.0 | inr x ↦ None ] ≡ Some ts → Spells text ts
    go (inl x) e = let same : x.0 ≡ ts = cc in subst (Spells text) same x.1
    go (inr x) e = absurd (cc)

pub tokens_complete : (text : List ℕ) (ts : List Token) → Spells text ts → r.spelled_tokens text ≡ Some ts
unfolding r.spelled_tokens
tokens_complete text ts h = go (decided text)
  where
    go : (d : Decided text) → elim d [ inl x ↦ Some x.0 | inr x ↦ None ] ≡ Some ts
    go (inl x) = ap Some (one_list text x.0 ts x.1 h)
    go (inr x) = absurd (wrong_spells_nothing text x.0 x.1.0 ts x.1.1 h)

some_expression : (around : List ℕ) (begin : Place) (text : List ℕ) (a : Expr) → r.text_expression around begin text ≡ Some a → SpellsExpression around begin text a
some_expression around begin text a e =
    let x = bind_ok (r.text_tokens begin text) _ _ e in
    let y = bind_ok (r.spelled_tokens text) _ _ x.1 in
    let same : map (token_from begin) y.0 ≡ x.0 = cc in
    let z = go x.0 (too_deep_from around x.0) refl x.2 in
    record { tokens = x.0; cut = (y.0, tokens_sound text y.0 y.1, sym same); flat = z.0; spelled = code.is_spelled x.0 a z.1 }
  where
    go : (ts : List Token) (d : Option Place) → too_deep_from around ts ≡ d → elim d [ None ↦ spelled ts | Some p ↦ None ] ≡ Some a →
        (too_deep_from around ts ≡ None) × (spelled ts ≡ Some a)
    go ts None i e = (i, e)
    go ts (Some p) i e = absurd (cc)

pub its_expression : (around : List ℕ) (begin : Place) (text : List ℕ) (a : Expr) → SpellsExpression around begin text a → r.text_expression around begin text ≡ Some a
its_expression around begin text a h =
    let read : r.text_tokens begin text ≡ Some h.tokens =
    ap (λ o. o >>= λ ts. Some (map (token_from begin) ts)) (tokens_complete text h.cut.0 h.cut.1) ∙ ap Some (sym h.cut.2) in
    ap (λ o. o >>= r.flat_expression around) read
    ∙ ap (λ d. elim d [ None ↦ spelled h.tokens | Some p ↦ None ]) h.flat
    ∙ is_spelled h.tokens a (flat_alone around h.tokens h.flat, h.spelled)

pub text_sound : (around : List ℕ) (begin : Place) (text : List ℕ) → IsExpressionOf around begin text (r.text_expression around begin text)
text_sound around begin text = go (r.text_expression around begin text) refl
  where
    go : (o : Option Expr) → r.text_expression around begin text ≡ o → IsExpressionOf around begin text o
    go (Some a) i = some_expression around begin text a i
    go None i = λ a h. let z : None ≡ Some a = sym i ∙ its_expression around begin text a h in absurd (cc)

name_of_kind : (text : List ℕ) (kind : TokenKind) → r.is_name_of text kind ≡ true → kind ≡ t.Name text
name_of_kind text (t.Name x) e = ap t.Name (same_text x text e)
name_of_kind text _ e = absurd (cc)

one_name : (text : List ℕ) (ts : List Token) → r.is_one_name text (map (token_from first_place) ts) ≡ true → Spells text ts → IsNameText text
one_name text [] e h = absurd (cc)
one_name text (n ∷ []) e h = (n, h, name_of_kind text n.kind e)
one_name text (n ∷ o ∷ ts) e h = absurd (cc)

pub name_text_sound : (text : List ℕ) → r.is_name_text text ≡ true → IsNameText text
name_text_sound text e = go (r.spelled_tokens text) refl e
  where
    go : (o : Option (List Token)) → r.spelled_tokens text ≡ o →
        elim (o >>= λ ts. Some (map (token_from first_place) ts)) [ Some ts ↦ r.is_one_name text ts | None ↦ false ] ≡ true → IsNameText text
    go (Some ts) i e = one_name text ts e (tokens_sound text ts i)
    go None i e = absurd (cc)
