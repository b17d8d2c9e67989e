-- Which of an old and a new list pair.
use Rattle.std.specs.Prelude.{◌≡◌, ℕ, Bool, List, length, take, slice_get, Option, Some, None}
use Rattle.pairing_meaning.specs.Labels.{like}

-- the old one at a place and the new one at a place pair: they are the same, and as many of the same stand before the one as
-- before the other. So what has a key, which no sibling of its number shares, pairs by its key, and else the k-th with the k-th
pub record Pair {X : Type 0} (same : X → X → Bool) (olds news : List X) (i j : ℕ) : Type 0 where
  pub one : X
  pub old : slice_get olds i ≡ Some one
  pub new : slice_get news j ≡ Some one
  pub before : like same one (take i olds) ≡ like same one (take j news)

-- for each new one the place of the old one that it pairs with, or none
pub record Tells {X : Type 0} (same : X → X → Bool) (olds news : List X) (from : List (Option ℕ)) : Type 0 where
  pub long : length from ≡ length news
  pub paired : (i j : ℕ) → slice_get from j ≡ Some (Some i) → Pair same olds news i j
  pub alone : (i j : ℕ) → slice_get from j ≡ Some None → Pair same olds news i j → ⊥
