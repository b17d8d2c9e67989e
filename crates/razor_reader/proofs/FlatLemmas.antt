-- Tokens that nest nowhere too deeply with something open round them do so by themselves.
use Rattle.std.proofs.Common.{◌≡◌, ℕ, ◌+◌, ◌<◌, ◌≤◌, List, [], ◌∷◌, ◌++◌, refl, sym, ap, ◌∙◌, subst, arith}
use Rattle.std.specs.Prelude.{Bool, true, false, sum, nat_lt, if◌then◌else◌, Option, Some, None}
use Rattle.std.proofs.lemmas.Bool.{ltb-true, ltb-false}
use Rattle.std.proofs.lemmas.List.Sums.{sum_by-cons}
use Rattle.text_core.specs.declared.place.Place.{Place}
use Rattle.cs_token.specs.declared.token.Token.{Token}
use Rattle.cs_token.specs.declared.token.TokenKind.{TokenKind}
use Rattle.cs_token.specs.declared.token.TokenKind.TheVariants as t
use Rattle.cs_token.specs.declared.token.Sign.{Sign}
use Rattle.cs_token.specs.declared.token.Word.{Word}
use Rattle.cs_grammar.specs.Nesting as n

-- what is open behind a token goes before what is open round it
Over : List ℕ → List ℕ → Type 0
Over inner all = (outer : List ℕ) × (all ≡ inner ++ outer)

over_closed : (inner outer : List ℕ) → Over (n.closed inner) (n.closed (inner ++ outer))
unfolding Over
over_closed [] outer = (n.closed outer, refl)
over_closed (x ∷ inner) outer = (outer, refl)

over_begun : (inner outer : List ℕ) → Over (n.begun inner) (n.begun (inner ++ outer))
unfolding Over
over_begun [] outer = (n.begun outer, refl)
over_begun (x ∷ inner) outer = (outer, refl)

over_counted : (inner outer : List ℕ) → Over (n.counted inner) (n.counted (inner ++ outer))
unfolding Over
over_counted [] outer = (n.counted outer, refl)
over_counted (x ∷ inner) outer = (outer, refl)

over_sign : (sign : Sign) (inner outer : List ℕ) → Over (n.behind_sign sign inner) (n.behind_sign sign (inner ++ outer))
unfolding Over
over_sign sign inner outer = opened (n.opens sign)
  where
    bounded : (b : Bool) → Over (if b then inner else n.counted inner) (if b then inner ++ outer else n.counted (inner ++ outer))
    bounded true = (outer, refl)
    bounded false = over_counted inner outer

    parted : (b : Bool) → Over (if b then n.begun inner else (if n.bounds_text sign then inner else n.counted inner))
        (if b then n.begun (inner ++ outer) else (if n.bounds_text sign then inner ++ outer else n.counted (inner ++ outer)))
    parted true = over_begun inner outer
    parted false = bounded (n.bounds_text sign)

    ended : (b : Bool) → Over (if b then n.closed inner else (if n.parts sign then n.begun inner else (if n.bounds_text sign then inner else n.counted inner)))
        (if b then n.closed (inner ++ outer) else (if n.parts sign then n.begun (inner ++ outer) else (if n.bounds_text sign then inner ++ outer else n.counted (inner ++ outer))))
    ended true = over_closed inner outer
    ended false = parted (n.parts sign)

    opened : (b : Bool) → Over (if b then 1 ∷ inner else (if n.closes sign then n.closed inner else (if n.parts sign then n.begun inner else (if n.bounds_text sign then inner else n.counted inner))))
        (if b then 1 ∷ (inner ++ outer) else (if n.closes sign then n.closed (inner ++ outer) else (if n.parts sign then n.begun (inner ++ outer) else (if n.bounds_text sign then inner ++ outer else n.counted (inner ++ outer)))))
    opened true = (outer, refl)
    opened false = ended (n.closes sign)

over_token : (kind : TokenKind) (inner outer : List ℕ) → Over (n.behind kind inner) (n.behind kind (inner ++ outer))
unfolding Over
over_token (t.Sign sign) inner outer = over_sign sign inner outer
over_token (t.Word word) inner outer = go (n.is_else word)
  where
    go : (b : Bool) → Over (if b then n.counted inner else inner) (if b then n.counted (inner ++ outer) else (inner ++ outer))
    go true = over_counted inner outer
    go false = (outer, refl)
over_token _ inner outer = (outer, refl)

sum_over : (inner outer : List ℕ) → sum inner ≤ sum (inner ++ outer)
sum_over [] outer = omega arith
sum_over (x ∷ inner) outer =
    let y = sum_over inner outer in
    omega (arith, sum_by-cons (λ (z : ℕ). z) x inner, sum_by-cons (λ (z : ℕ). z) x (inner ++ outer))

-- so wherever nothing nests too deeply with more open round it
pub flat_inside : (inner outer : List ℕ) (ts : List Token) → n.too_deep_from (inner ++ outer) ts ≡ None → n.too_deep_from inner ts ≡ None
unfolding Over
flat_inside inner outer [] e = refl
flat_inside inner outer (u ∷ ts) e = split (λ i o e. flat_inside i o ts e) (nat_lt 200 (sum (n.behind u.kind (inner ++ outer)))) refl e
  where
    go : (b : Bool) → nat_lt 200 (sum (n.behind u.kind inner)) ≡ b → sum (n.behind u.kind (inner ++ outer)) ≤ 200 → n.too_deep_from (n.behind u.kind inner) ts ≡ None → ◌≡◌ {A = Option Place} (if b then Some u.place else n.too_deep_from (n.behind u.kind inner) ts) None
    go true i h f =
        let x = over_token u.kind inner outer in
        let y : sum (n.behind u.kind inner) ≤ sum (n.behind u.kind (inner ++ outer)) = subst (λ l. sum (n.behind u.kind inner) ≤ sum l) (sym x.1) (sum_over (n.behind u.kind inner) x.0) in
        let z : 200 < sum (n.behind u.kind inner) = ltb-true _ _ i in
        absurd (omega arith)
    go false i h f = f

    split : ((i o : List ℕ) → n.too_deep_from (i ++ o) ts ≡ None → n.too_deep_from i ts ≡ None) → (b : Bool) → nat_lt 200 (sum (n.behind u.kind (inner ++ outer))) ≡ b → ◌≡◌ {A = Option Place} (if b then Some u.place else n.too_deep_from (n.behind u.kind (inner ++ outer)) ts) None →
        ◌≡◌ {A = Option Place} (if nat_lt 200 (sum (n.behind u.kind inner)) then Some u.place else n.too_deep_from (n.behind u.kind inner) ts) None
    split more true i e = absurd (cc)
    split more false i e =
        let x = over_token u.kind inner outer in
        go (nat_lt 200 (sum (n.behind u.kind inner))) refl (ltb-false _ _ i) (more (n.behind u.kind inner) x.0 (ap (λ l. n.too_deep_from l ts) (sym x.1) ∙ e))

pub flat_alone : (outer : List ℕ) (ts : List Token) → n.too_deep_from outer ts ≡ None → n.too_deep ts ≡ None
unfolding n.too_deep
flat_alone outer ts e = flat_inside [] outer ts e
