-- The expression that a text spells where it stands: there is one, or it is known that there is none, and never a second one.
use Rattle.std.proofs.Common.{◌≡◌, ℕ, List, refl, sym, ap, ◌∙◌, subst, inl, inr}
use Rattle.std.specs.Prelude.{map, Option, Some, None}
use Rattle.text_core.specs.declared.place.Place.{Place}
use Rattle.cs_ast.specs.declared.expression.Expr.{Expr}
use Rattle.cs_token.specs.declared.token.Token.{Token}
use Rattle.cs_token.proofs.DecidedLemmas.{Decided, decided}
use Rattle.cs_token.proofs.LawLemmas.{one_list, wrong_spells_nothing}
use Rattle.cs_grammar.specs.Lambdas.{Spelled}
use Rattle.cs_grammar.specs.Nesting.{too_deep_from}
use Rattle.cs_parse.specs.LambdaReading.{whole_spelled}
use Rattle.cs_parse.proofs.SpelledLemmas.{spelled_sound, none_spelled, one_tree}
use Rattle.razor_ast.specs.TextValues.{token_from, SpellsTokens, SpellsExpression, IsExpressionOf}

-- an answer, and that it is right
abbrev pub Answered : List ℕ → Place → List ℕ → Type 0
Answered around begin text = (a : Option Expr) × IsExpressionOf around begin text a

-- a text that begins at a place spells one list of tokens there
one_cut : (begin : Place) (text : List ℕ) (ts us : List Token) → SpellsTokens begin text ts → SpellsTokens begin text us → ts ≡ us
one_cut begin text ts us x y = x.2 ∙ ap (map (token_from begin)) (one_list text x.0 y.0 x.1 y.1) ∙ sym y.2

-- where it spells these tokens, each expression of it is one of theirs
its_tree : (around : List ℕ) (begin : Place) (text : List ℕ) (ts : List Token) → SpellsTokens begin text ts → (a : Expr) → SpellsExpression around begin text a →
    (too_deep_from around ts ≡ None) × Spelled ts a
its_tree around begin text ts cut a h =
    let same : h.tokens ≡ ts = one_cut begin text h.tokens ts h.cut cut in
    (subst (λ l. too_deep_from around l ≡ None) same h.flat, subst (λ l. Spelled l a) same h.spelled)

-- the answer where these tokens nest nowhere too deep
read_flat : (around : List ℕ) (begin : Place) (text : List ℕ) (ts : List Token) → SpellsTokens begin text ts → too_deep_from around ts ≡ None →
    (o : Option Expr) → whole_spelled ts ≡ o → Answered around begin text
read_flat around begin text ts cut flat (Some a) e = (Some a, record { tokens = ts; cut = cut; flat = flat; spelled = spelled_sound ts a e })
read_flat around begin text ts cut flat None e = (None, λ a h. none_spelled ts e a (its_tree around begin text ts cut a h).1)

-- the answer where the text spells these tokens
read_tokens : (around : List ℕ) (begin : Place) (text : List ℕ) (ts : List Token) → SpellsTokens begin text ts →
    (d : Option Place) → too_deep_from around ts ≡ d → Answered around begin text
read_tokens around begin text ts cut None e = read_flat around begin text ts cut e (whole_spelled ts) refl
read_tokens around begin text ts cut (Some p) e =
    (None, λ a h. let z : None ≡ Some p = sym (its_tree around begin text ts cut a h).0 ∙ e in absurd (cc))

pub answered : (around : List ℕ) (begin : Place) (text : List ℕ) → Answered around begin text
answered around begin text = go (decided text)
  where
    go : Decided text → Answered around begin text
    go (inl x) =
        let ts = map (token_from begin) x.0 in
        read_tokens around begin text ts (x.0, x.1, refl) (too_deep_from around ts) refl
    go (inr x) = (None, λ a h. wrong_spells_nothing text x.0 x.1.0 h.cut.0 x.1.1 h.cut.1)

pub one_answer : (around : List ℕ) (begin : Place) (text : List ℕ) (a b : Option Expr) → IsExpressionOf around begin text a → IsExpressionOf around begin text b → a ≡ b
one_answer around begin text (Some a) (Some b) x y =
    ap Some (one_tree y.tokens a b (its_tree around begin text y.tokens y.cut a x).1 y.spelled)
one_answer around begin text (Some a) None x none = absurd (none a x)
one_answer around begin text None (Some b) none y = absurd (none b y)
one_answer around begin text None None none none_too = refl
