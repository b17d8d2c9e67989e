-- How what parts of templates come to is put together.
use Rattle.std.proofs.Common.{◌≡◌, ℕ, List, [], ◌∷◌, ◌++◌, refl, sym, ap, subst, ◌∙◌}
use Rattle.std.specs.Prelude.{Bool}
use Rattle.cs_typing.specs.Types.{Types}
use Rattle.cs_rules.specs.Judged.{Judged, fine}
use Rattle.page_meaning.specs.Placed.{Placed}
use Rattle.page_meaning.specs.Resolved.{placing, Resolves, behind_placed, alone, judged, put, each, each_of, ◌>>=◌}
use Rattle.page_typing.specs.Resolving.{Known, AllKnown, Fitting, AllFitting, Resolved}

module _ (types : Types) (components : Bool) where
  known_first : (xs ys : List (ℕ × Placed)) → AllKnown types (xs ++ ys) → AllKnown types xs
  known_first [] ys h = tt
  known_first (x ∷ xs) ys h = (h.0, known_first xs ys h.1)

  known_second : (xs ys : List (ℕ × Placed)) → AllKnown types (xs ++ ys) → AllKnown types ys
  known_second [] ys h = h
  known_second (x ∷ xs) ys h = known_second xs ys h.1

  fitting_both : (xs ys : List (ℕ × Placed)) → AllFitting types components xs → AllFitting types components ys → AllFitting types components (xs ++ ys)
  fitting_both [] ys h g = g
  fitting_both (x ∷ xs) ys h g = (h.0, fitting_both xs ys h.1 g)

  -- what places nothing
  pub alone_resolved : {A : Type 0} (P : A → Type 0) (x : A) → P x → Resolved types components P (alone x)
  alone_resolved P x h = record { it = placing x []; is = refl; fits = λ k. (h, tt) }

  pub judged_resolved : {A : Type 0} (P : A → Type 0) (j : Judged A) (x : A) → j ≡ fine x → P x → Resolved types components P (judged j)
  judged_resolved P j x e h = record { it = placing x []; is = ap judged e; fits = λ k. (h, tt) }

  pub same_resolved : {A : Type 0} (P : A → Type 0) (j k : Resolves A) → j ≡ k → Resolved types components P k → Resolved types components P j
  same_resolved P j k e r = record { it = r.it; is = e ∙ r.is; fits = r.fits }

  pub weaker_resolved : {A : Type 0} (P Q : A → Type 0) (j : Resolves A) → ((x : A) → P x → Q x) → Resolved types components P j → Resolved types components Q j
  weaker_resolved P Q j g r = record { it = r.it; is = r.is; fits = λ k. (g r.it.made (r.fits k).0, (r.fits k).1) }

  -- one after the other
  pub then_resolved : {A B : Type 0} (P : A → Type 0) (R Q : B → Type 0) (j : Resolves A) (n : A → Resolves B) (r : Resolved types components P j) → Resolved types components R (n r.it.made) → ((y : B) → P r.it.made → R y → Q y) → Resolved types components Q (j >>= n)
  then_resolved P R Q j n r k g =
      record {
        it = placing k.it.made (r.it.placed ++ k.it.placed);
        is = ap (λ z. z >>= n) r.is ∙ ap (behind_placed r.it.placed) k.is;
        fits = λ h. let one = r.fits (known_first r.it.placed k.it.placed h) in let two = k.fits (known_second r.it.placed k.it.placed h) in (g k.it.made one.0 two.0, fitting_both r.it.placed k.it.placed one.1 two.1);
      }

  -- what is made of a part
  pub one_resolved : {A B : Type 0} (P : A → Type 0) (Q : B → Type 0) (j : Resolves A) (f : A → B) → Resolved types components P j → ((x : A) → P x → Q (f x)) → Resolved types components Q (j >>= λ x. alone (f x))
  one_resolved P Q j f r g = then_resolved P (λ y. y ≡ f r.it.made) Q j (λ x. alone (f x)) r (alone_resolved (λ y. y ≡ f r.it.made) (f r.it.made) refl) (λ y p e. subst Q (sym e) (g r.it.made p))

  -- what is made of two
  pub two_resolved : {A B C : Type 0} (P : A → Type 0) (R : B → Type 0) (Q : C → Type 0) (j : Resolves A) (k : Resolves B) (f : A → B → C) → Resolved types components P j → Resolved types components R k → ((x : A) (y : B) → P x → R y → Q (f x y)) → Resolved types components Q (j >>= λ x. (k >>= λ y. alone (f x y)))
  two_resolved {A} {B} {C} P R Q j k f r s g =
      then_resolved P (λ z. (y : B) × (z ≡ f r.it.made y) × R y) Q j (λ x. (k >>= λ y. alone (f x y))) r
      (one_resolved R (λ z. (y : B) × (z ≡ f r.it.made y) × R y) k (f r.it.made) s (λ y m. (y, refl, m)))
      (λ z p m. subst Q (sym m.1) (g r.it.made m.0 p m.2))

  -- each of these comes to something
  abbrev pub AllResolve : {A B : Type 0} → (B → Type 0) → (A → Resolves B) → List A → Type 0
  AllResolve P resolve [] = Unit {0}
  AllResolve P resolve (x ∷ xs) = Resolved types components P (resolve x) × AllResolve P resolve xs

  -- what each comes to
  pub each_resolved : {A B : Type 0} (L : List B → Type 0) (resolve : A → Resolves B) (P : B → Type 0) → L [] → ((y : B) (ys : List B) → P y → L ys → L (y ∷ ys)) → (xs : List A) → AllResolve P resolve xs → Resolved types components L (each resolve xs)
  each_resolved L resolve P none more [] h = alone_resolved L [] none
  each_resolved L resolve P none more (x ∷ xs) h = two_resolved P L L (resolve x) (each resolve xs) (λ y ys. y ∷ ys) h.0 (each_resolved L resolve P none more xs h.1) more

  -- one list behind another
  pub each_of_resolved : {A B : Type 0} (L : List B → Type 0) (resolve : A → Resolves (List B)) → L [] → ((xs ys : List B) → L xs → L ys → L (xs ++ ys)) → (xs : List A) → AllResolve L resolve xs → Resolved types components L (each_of resolve xs)
  each_of_resolved L resolve none more [] h = alone_resolved L [] none
  each_of_resolved L resolve none more (x ∷ xs) h = two_resolved L L L (resolve x) (each_of resolve xs) (λ ys zs. ys ++ zs) h.0 (each_of_resolved L resolve none more xs h.1) more

  -- something under a number
  pub put_resolved : (number : ℕ) (placed : Placed) → Fitting types components placed → Resolved types components (λ u. Known types number placed) (put number placed)
  put_resolved number placed h = record { it = placing (tt {0}) ((number, placed) ∷ []); is = refl; fits = λ k. (k.0, (h, tt)) }

  -- behind what is fine and places nothing
  pub after_judged : {A B : Type 0} (R : B → Type 0) (j : Judged A) (x : A) (n : A → Resolves B) → j ≡ fine x → Resolved types components R (n x) → Resolved types components R (judged j >>= n)
  after_judged R j x n e k = record { it = k.it; is = ap (λ z. judged z >>= n) e ∙ ap (behind_placed []) k.is; fits = k.fits }
