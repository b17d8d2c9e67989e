-- One more of a list, where it passes a test.
use Rattle.std.proofs.Common.{◌≡◌, ◌∙◌, ap, sym, ℕ, zero, suc, ◌+◌, ◌<◌, Bool, true, false, cond, List, [], ◌∷◌, ◌++◌, length, get_or, map, drop, append_assoc, arith}
use Rattle.std.specs.List.{filter}
use Rattle.item_pairing.proofs.SlotLemmas.{drop-read}

module _ {X Y : Type 0} (p : X → Bool) (f : X → Y) (items : List X) (i : ℕ) (x : X) (within : i < length items) (is : x ≡ get_or items i x) (edits all : List Y) (so_far : edits ++ map f (filter p (drop i items)) ≡ all) where
  read : (test : Bool) → p x ≡ test → filter p (drop i items) ≡ cond test (x ∷ filter p (drop (i + 1) items)) (filter p (drop (i + 1) items))
  read test told = ap (filter p) (drop-read items i x within is) ∙ ap (λ b. cond b (x ∷ filter p (drop (i + 1) items)) (filter p (drop (i + 1) items))) told

  pub filtered_in : (more : List Y) → p x ≡ true → more ≡ edits ++ f x ∷ [] → more ++ map f (filter p (drop (i + 1) items)) ≡ all
  filtered_in more told longer =
      ap (λ (es : List Y). es ++ map f (filter p (drop (i + 1) items))) longer
      ∙ append_assoc edits (f x ∷ []) (map f (filter p (drop (i + 1) items)))
      ∙ sym (ap (λ (xs : List X). edits ++ map f xs) (read true told)) ∙ so_far

  pub filtered_out : (more : List Y) → p x ≡ false → more ≡ edits → more ++ map f (filter p (drop (i + 1) items)) ≡ all
  filtered_out more told same =
      ap (λ (es : List Y). es ++ map f (filter p (drop (i + 1) items))) same ∙ sym (ap (λ (xs : List X). edits ++ map f xs) (read false told)) ∙ so_far
