-- What a search through a list finds.
use Rattle.std.proofs.Common.{◌≡◌, Bool, true, List, [], ◌∷◌, Some, None, sym, subst, inl, inr}
use Rattle.std.specs.List.{find, list_all}
use Rattle.std.proofs.lemmas.Bool.{and_parts, cases_Bool}
use Rattle.cs_token.proofs.OptionLemmas.{some_is, some_none}

-- it is an element
pub data Among {X : Type 0} (x : X) : List X → Type 0 where
  here : (xs : List X) → Among x (x ∷ xs)
  there : (y : X) (xs : List X) → Among x xs → Among x (y ∷ xs)

pub find-holds : {X : Type 0} (p : X → Bool) (xs : List X) (x : X) → find p xs ≡ Some x → p x ≡ true
find-holds p [] x e = absurd (some_none x (sym e))
find-holds p (y ∷ xs) x e = elim (cases_Bool (p y)) [
  | inl is ↦ subst (λ z. p z ≡ true) (some_is y x (rw is at e)) is
  | inr fails ↦ find-holds p xs x (rw fails at e)
]

pub find-among : {X : Type 0} (p : X → Bool) (xs : List X) (x : X) → find p xs ≡ Some x → Among x xs
find-among p [] x e = absurd (some_none x (sym e))
find-among p (y ∷ xs) x e = elim (cases_Bool (p y)) [
  | inl is ↦ subst (λ z. Among z (y ∷ xs)) (some_is y x (rw is at e)) (here xs)
  | inr fails ↦ there y xs (find-among p xs x (rw fails at e))
]

pub find-none : {X : Type 0} (p : X → Bool) (x : X) (xs : List X) → find p xs ≡ None → Among x xs → p x ≡ true → ⊥
find-none p x _ e (here xs) is = some_none x (rw is at e)
find-none p x _ e (there y xs among) is = elim (cases_Bool (p y)) [
  | inl first ↦ some_none y (rw first at e)
  | inr fails ↦ find-none p x xs (rw fails at e) among is
]

pub all-among : {X : Type 0} (p : X → Bool) (x : X) (xs : List X) → list_all p xs ≡ true → Among x xs → p x ≡ true
all-among p x _ all (here xs) = (and_parts (p x) (list_all p xs) all).0
all-among p x _ all (there y xs among) = all-among p x xs (and_parts (p y) (list_all p xs) all).1 among
