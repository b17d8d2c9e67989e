-- One more of a list counted.
use Rattle.std.proofs.Common.{◌≡◌, ◌∙◌, ap, sym, ℕ, zero, suc, ◌+◌, ◌<◌, ◌≤◌, Bool, true, false, cond, List, [], ◌∷◌, length, get_or, map, drop, arith}
use Rattle.pairing_meaning.specs.Labels.{like}
use Rattle.item_pairing.proofs.SlotLemmas.{drop-read}

module _ {X Y : Type 0} (same : Y → Y → Bool) (f : X → Y) (one : Y) (items : List X) (i n total : ℕ) (x : X) (within : i < length items) (is : x ≡ get_or items i x)
    (so_far : (n + like same one (map f (drop i items)) ≡ total) × (n ≤ i)) where
  read : (test : Bool) → same (f x) one ≡ test → like same one (map f (drop i items)) ≡ cond test (like same one (map f (drop (i + 1) items)) + 1) (like same one (map f (drop (i + 1) items)))
  read test told =
      ap (λ (xs : List X). like same one (map f xs)) (drop-read items i x within is)
      ∙ ap (λ b. cond b (like same one (map f (drop (i + 1) items)) + 1) (like same one (map f (drop (i + 1) items)))) told

  pub counted_hit : (m : ℕ) → same (f x) one ≡ true → m ≡ n + 1 → (m + like same one (map f (drop (i + 1) items)) ≡ total) × (m ≤ i + 1)
  counted_hit m told counts = let here = read true told in let all = so_far.0 in let low = so_far.1 in (omega arith, omega arith)

  pub counted_miss : (m : ℕ) → same (f x) one ≡ false → m ≡ n → (m + like same one (map f (drop (i + 1) items)) ≡ total) × (m ≤ i + 1)
  counted_miss m told counts = let here = read false told in let all = so_far.0 in let low = so_far.1 in (omega arith, omega arith)
