-- One more of a list, where it passes a test.
use Rattle.std.proofs.Common.{◌≡◌, ◌∙◌, refl, ap, sym, ℕ, zero, suc, ◌+◌, ◌<◌, Bool, true, false, cond, List, [], ◌∷◌, ◌++◌, length, get_or, drop, append_assoc, arith}
use Rattle.std.specs.List.{filter}
use Rattle.item_pairing.proofs.SlotLemmas.{drop-read}

-- within a list the default is of no account
pub same-default : (xs : List ℕ) (i d e : ℕ) → i < length xs → get_or xs i d ≡ get_or xs i e
same-default [] i d e within = absurd (omega arith)
same-default (x ∷ xs) zero d e within = refl
same-default (x ∷ xs) (suc i) d e within = same-default xs i d e (omega arith)

module _ {X : Type 0} (p : X → Bool) (items : List X) (i : ℕ) (x : X) (within : i < length items) (is : x ≡ get_or items i x) (them all : List X) (so_far : them ++ filter p (drop i items) ≡ all) where
  read : (test : Bool) → p x ≡ test → filter p (drop i items) ≡ cond test (x ∷ filter p (drop (i + 1) items)) (filter p (drop (i + 1) items))
  read test told = ap (filter p) (drop-read items i x within is) ∙ ap (λ b. cond b (x ∷ filter p (drop (i + 1) items)) (filter p (drop (i + 1) items))) told

  pub stays_in : (more : List X) → p x ≡ true → more ≡ them ++ x ∷ [] → more ++ filter p (drop (i + 1) items) ≡ all
  stays_in more told longer =
      ap (λ (xs : List X). xs ++ filter p (drop (i + 1) items)) longer
      ∙ append_assoc them (x ∷ []) (filter p (drop (i + 1) items))
      ∙ sym (ap (λ (xs : List X). them ++ xs) (read true told)) ∙ so_far

  pub stays_out : (more : List X) → p x ≡ false → more ≡ them → more ++ filter p (drop (i + 1) items) ≡ all
  stays_out more told same =
      ap (λ (xs : List X). xs ++ filter p (drop (i + 1) items)) same ∙ sym (ap (λ (xs : List X). them ++ xs) (read false told)) ∙ so_far
