-- Lists of things that are all such.
use Rattle.std.proofs.Common.{◌≡◌, ◌≤◌, ℕ, zero, suc, List, [], ◌∷◌, ◌++◌, length, map, slice_get, Some, None, refl, subst, sym}
use Rattle.schedule_replay.specs.Every.{Every}

pub every-append : {Thing : Type 0} (Is : Thing → Type 0) (xs ys : List Thing) → Every Is xs → Every Is ys → Every Is (xs ++ ys)
every-append Is [] ys first second = second
every-append Is (x ∷ xs) ys first second = (first.0, every-append Is xs ys first.1 second)

pub every-weaker : {Thing : Type 0} (Is Also : Thing → Type 0) → ((x : Thing) → Is x → Also x) → (xs : List Thing) → Every Is xs → Every Also xs
every-weaker Is Also weaker [] all = tt
every-weaker Is Also weaker (x ∷ xs) all = (weaker x all.0, every-weaker Is Also weaker xs all.1)

pub every-map : {Thing Other : Type 0} (Is : Other → Type 0) (f : Thing → Other) (xs : List Thing) → Every (λ x. Is (f x)) xs → Every Is (map f xs)
every-map Is f [] all = tt
every-map Is f (x ∷ xs) all = (all.0, every-map Is f xs all.1)

pub every-any : {Thing : Type 0} (Is : Thing → Type 0) → ((x : Thing) → Is x) → (xs : List Thing) → Every Is xs
every-any Is any [] = tt
every-any Is any (x ∷ xs) = (any x, every-any Is any xs)

pub every-at : {Thing : Type 0} (Is : Thing → Type 0) (xs : List Thing) (place : ℕ) (x : Thing) → Every Is xs → slice_get xs place ≡ Some x → Is x
every-at Is [] place x all found = absurd (cc)
every-at Is (y ∷ xs) zero x all found = let same : y ≡ x = cc in subst Is same all.0
every-at Is (y ∷ xs) (suc place) x all found = every-at Is xs place x all.1 found
