-- The numbers of what is placed rise.
use Rattle.std.specs.Prelude.{◌≡◌, ℕ, ◌+◌, ◌≤◌, List, [], ◌∷◌}
use Rattle.cs_rules.specs.Judged.{fine}
use Rattle.page_meaning.specs.Placed.{Placed}
use Rattle.page_meaning.specs.Resolved.{Placing, Resolves}

-- the numbers rise from the first on, each below the second
abbrev pub Between : ℕ → ℕ → List (ℕ × Placed) → Type 0
Between low high [] = low ≤ high
Between low high (one ∷ others) = (low ≤ one.0) × Between (one.0 + 1) high others

-- the same of what a part places, where it breaks no rule
pub record Rises {A : Type 0} (low high : ℕ) (j : Resolves A) : Type 0 where
  pub between : (it : Placing A) → j ≡ fine it → Between low high it.placed
