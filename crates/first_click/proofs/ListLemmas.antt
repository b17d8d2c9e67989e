-- Lists.
use Rattle.std.proofs.Common.{◌≡◌, ℕ, suc, ◌+◌, ◌<◌, false, List, [], ◌∷◌, ◌++◌, length, take, drop, get_or, eqb, ap, sym, ◌∙◌, arith}
use Rattle.std.proofs.lemmas.Bool.{eqb-false}
use Rattle.std.proofs.lemmas.List.{take-append-drop}
use Rattle.std.proofs.Math.Seq.{take-suc, drop-cons}

pub not_empty : {A : Type 0} (xs : List A) → eqb (length xs) 0 ≡ false → xs ≡ [] → ⊥
not_empty xs e none = let zero_long : length xs ≡ 0 = ap length none in eqb-false _ _ e zero_long

-- the front with one element more
pub take-one : {A : Type 0} (xs : List A) (i : ℕ) (x d : A) → i < length xs → x ≡ get_or xs i d → take (i + 1) xs ≡ take i xs ++ x ∷ []
take-one xs i x d within is =
    let next : i + 1 ≡ suc i = omega arith in
    rw next (take-suc xs i d within ∙ ap (λ y. take i xs ++ y ∷ []) (sym is))

-- the rest with one element less
pub drop-one : {A : Type 0} (xs : List A) (i : ℕ) (x d : A) → i < length xs → x ≡ get_or xs i d → drop i xs ≡ x ∷ drop (i + 1) xs
drop-one xs i x d within is =
    let next : i + 1 ≡ suc i = omega arith in
    rw next (drop-cons xs i d within ∙ ap (λ y. y ∷ drop (suc i) xs) (sym is))

-- what is before an element, the element, and the rest
pub around : {A : Type 0} (xs : List A) (i : ℕ) (x d : A) → i < length xs → x ≡ get_or xs i d → take i xs ++ x ∷ drop (i + 1) xs ≡ xs
around xs i x d within is = ap (λ ys. take i xs ++ ys) (sym (drop-one xs i x d within is)) ∙ take-append-drop i xs
