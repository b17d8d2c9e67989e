-- What stands at the places of a list after a write to one place, or one more element.
use Rattle.std.proofs.Common.{◌≡◌, ◌≢◌, ℕ, zero, suc, ◌<◌, List, [], ◌∷◌, ◌++◌, length, set, Some, slice_get, refl, ap, arith}

module _ {X : Type 0} where
  pub slice_get-set_same : (xs : List X) (i : ℕ) (y : X) → i < length xs → slice_get (set xs i y) i ≡ Some y
  slice_get-set_same [] i y within = absurd (omega arith)
  slice_get-set_same (x ∷ xs) zero y within = refl
  slice_get-set_same (x ∷ xs) (suc i) y within = slice_get-set_same xs i y (omega arith)

  pub slice_get-set_other : (xs : List X) (i j : ℕ) (y : X) → j ≢ i → slice_get (set xs i y) j ≡ slice_get xs j
  slice_get-set_other [] i j y differs = refl
  slice_get-set_other (x ∷ xs) zero zero y differs = absurd (differs refl)
  slice_get-set_other (x ∷ xs) zero (suc j) y differs = refl
  slice_get-set_other (x ∷ xs) (suc i) zero y differs = refl
  slice_get-set_other (x ∷ xs) (suc i) (suc j) y differs = slice_get-set_other xs i j y (λ e. differs (ap suc e))

  pub slice_get-push_last : (xs : List X) (y : X) (i : ℕ) → i ≡ length xs → slice_get (xs ++ y ∷ []) i ≡ Some y
  slice_get-push_last [] y zero last = refl
  slice_get-push_last [] y (suc i) last = absurd (omega arith)
  slice_get-push_last (x ∷ xs) y zero last = absurd (omega arith)
  slice_get-push_last (x ∷ xs) y (suc i) last = slice_get-push_last xs y i (omega arith)

  pub slice_get-push_other : (xs : List X) (y : X) (j : ℕ) → j ≢ length xs → slice_get (xs ++ y ∷ []) j ≡ slice_get xs j
  slice_get-push_other [] y zero differs = absurd (differs refl)
  slice_get-push_other [] y (suc j) differs = refl
  slice_get-push_other (x ∷ xs) y zero differs = refl
  slice_get-push_other (x ∷ xs) y (suc j) differs = slice_get-push_other xs y j (λ e. differs (ap suc e))
