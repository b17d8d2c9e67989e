-- The places of pairs as they are found.
use Rattle.std.specs.Prelude.{ℕ, ◌+◌, ◌-◌, ◌==◌, Bool, if◌then◌else◌, List, [], ◌∷◌, ◌++◌, Option, Some, None}
use Rattle.pairing_meaning.specs.Labels.{like}

-- the place, from one on, of the one that is the same and has so many of the same before it
abbrev pub kth : {X : Type 0} → (X → X → Bool) → X → ℕ → ℕ → List X → Option ℕ
kth same one before place [] = None
kth same one before place (x ∷ xs) =
    if same x one then if before == 0 then Some place else kth same one (before - 1) (place + 1) xs else kth same one before (place + 1) xs

-- for each new one, behind those before it, the place that is found
abbrev pub found_for : {X : Type 0} → (X → X → Bool) → List X → List X → List X → List (Option ℕ)
found_for same olds before [] = []
found_for same olds before (x ∷ xs) = kth same x (like same x before) 0 olds ∷ found_for same olds (before ++ x ∷ []) xs
