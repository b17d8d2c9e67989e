-- Lists that are gone through one by one.
use Rattle.std.proofs.Common.{◌≡◌, List, [], ◌∷◌, ◌++◌, length, take, drop, refl, sym, ap, ◌∙◌, inl, inr, append_assoc}
use Rattle.std.specs.Prelude.{Bool, filter}
use Rattle.std.proofs.lemmas.Bool.{cases_Bool}
use Rattle.std.proofs.lemmas.List.{append-nil}

pub filter_more : {A : Type 0} (p : A → Bool) (before : List A) (x : A) (xs : List A) → before ++ filter p (x ∷ xs) ≡ (before ++ filter p (x ∷ [])) ++ filter p xs
filter_more p before x xs = elim (cases_Bool (p x)) [
  | inl h ↦ rw h (sym (append_assoc before (x ∷ []) (filter p xs)))
  | inr h ↦ rw h (ap (λ b. b ++ filter p xs) (sym (append-nil before)))
]

-- what keeps a front that has another front keeps that
pub kept_on : {A : Type 0} (a b c : List A) → take (length a) b ≡ a → take (length b) c ≡ b → take (length a) c ≡ a
kept_on [] b c h k = refl
kept_on (x ∷ a) [] c h k = absurd (cc)
kept_on (x ∷ a) (y ∷ b) [] h k = absurd (cc)
kept_on (x ∷ a) (y ∷ b) (z ∷ c) h k =
    let head : z ≡ x = cc in
    let left : take (length a) b ≡ a = cc in
    let right : take (length b) c ≡ b = cc in
    ap (λ u. u ∷ take (length a) c) head ∙ ap (λ us. x ∷ us) (kept_on a b c left right)

-- a list without its first
pub behind_first : {A : Type 0} (xs : List A) (x : A) (rest : List A) → xs ≡ x ∷ rest → drop 1 xs ≡ rest
behind_first xs x rest is = ap (drop 1) is

pub behind_none : {A : Type 0} (xs : List A) → xs ≡ [] → drop 1 xs ≡ []
behind_none xs is = ap (drop 1) is
