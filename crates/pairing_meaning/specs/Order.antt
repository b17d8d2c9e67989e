-- In which order the slots of a list come to stand. `from` has for each new slot the place of its pair among the old ones, and `to`
-- for each old slot the place of its pair among the new ones.
use Rattle.std.specs.Prelude.{ℕ, ◌+◌, ◌==◌, if◌then◌else◌, List, [], ◌∷◌, Option, Some, None}

-- how many have no pair
abbrev pub alone : List (Option ℕ) → ℕ
alone [] = 0
alone (None ∷ pairs) = alone pairs + 1
alone (Some place ∷ pairs) = alone pairs

-- the places of the pairs, in order
abbrev pub partners : List (Option ℕ) → List ℕ
partners [] = []
partners (None ∷ pairs) = partners pairs
partners (Some place ∷ pairs) = place ∷ partners pairs

-- the first list where there is no pair, and the second at the other places, each in its order
abbrev pub merged : {X : Type 0} → List (Option ℕ) → List X → List X → List X
merged [] news olds = []
merged (None ∷ from) [] olds = []
merged (None ∷ from) (new ∷ news) olds = new ∷ merged from news olds
merged (Some place ∷ from) [] olds = []
merged (Some place ∷ from) (new ∷ news) [] = []
merged (Some place ∷ from) (new ∷ news) (old ∷ olds) = old ∷ merged from news olds

-- the places from one on, one for each
abbrev pub numbered : {X : Type 0} → ℕ → List X → List ℕ
numbered place [] = []
numbered place (x ∷ xs) = place ∷ numbered (place + 1) xs

-- the list M, each slot as the place in the new list where it belongs: each slot without a pair stands where it belongs, and at
-- the other places stand the old slots that have a pair, in their old order
abbrev pub list_M : List (Option ℕ) → List (Option ℕ) → List ℕ
list_M from to = merged from (numbered 0 from) (partners to)

-- at how many places, from one on, a slot stands that belongs to another
abbrev pub differing : ℕ → List ℕ → ℕ
differing place [] = 0
differing place (belongs ∷ rest) = if belongs == place then differing (place + 1) rest else differing (place + 1) rest + 1

-- how many slots of the new list have to be moved
abbrev pub moved_slots : List (Option ℕ) → List (Option ℕ) → ℕ
moved_slots from to = differing 0 (list_M from to)
