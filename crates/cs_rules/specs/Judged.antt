-- What comes of a tree under the rules.
use Rattle.std.specs.Prelude.{List, [], ◌∷◌, Option, Some, None}
use Rattle.text_core.specs.declared.place.Place.{Place}
use Rattle.cs_rules.specs.declared.rule.Rule.{Rule}
use Rattle.cs_rules.specs.declared.rule.Rule.TheVariants.{TypeMismatch}

-- it is fine and comes to something, or it breaks a rule at a place
pub data Judged (A : Type 0) : Type 0 where
  fine : A → Judged A
  breaks : Rule → Place → Judged A

infixl 10 ◌>>=◌
-- one after the other in reading order: the first that breaks a rule decides
abbrev pub ◌>>=◌ : {A B : Type 0} → Judged A → (A → Judged B) → Judged B
(fine x) >>= next = next x
(breaks rule place) >>= next = breaks rule place

-- all of these, in reading order
abbrev pub each : {A B : Type 0} → (A → Judged B) → List A → Judged (List B)
each judge [] = fine []
each judge (x ∷ xs) = do
  y ← judge x
  ys ← each judge xs
  fine (y ∷ ys)

-- what may be absent
abbrev pub if_there : {A B : Type 0} → (A → Judged B) → Option A → Judged (Option B)
if_there judge None = fine None
if_there judge (Some x) = do
  y ← judge x
  fine (Some y)

-- what has to be there
abbrev pub known : {A : Type 0} → Rule → Place → Option A → Judged A
known rule place (Some x) = fine x
known rule place None = breaks rule place

-- what has no allowed type
abbrev pub mismatch : {A : Type 0} → Place → Judged A
mismatch = breaks TypeMismatch
