-- How what holds of what is fine is put together.
use Rattle.std.proofs.Common.{◌≡◌, refl}
use Rattle.std.specs.Prelude.{Bool, true, false, if◌then◌else◌, Option, Some, None}
use Rattle.text_core.specs.declared.place.Place.{Place}
use Rattle.cs_rules.specs.declared.rule.Rule.{Rule}
use Rattle.cs_rules.specs.Judged.{Judged, fine, breaks, known, ◌>>=◌}
use Rattle.cs_accepted.specs.Accepted.{IfFine}

-- one after the other
pub then_fine : {A B : Type 0} (P : A → Type 0) (Q : B → Type 0) (j : Judged A) (next : A → Judged B) → IfFine P j → ((x : A) → P x → IfFine Q (next x)) → IfFine Q (j >>= next)
then_fine P Q (fine x) next h g = g x h
then_fine P Q (breaks rule place) next h g = tt

-- less is said
pub weaker_fine : {A : Type 0} (P Q : A → Type 0) (j : Judged A) → IfFine P j → ((x : A) → P x → Q x) → IfFine Q j
weaker_fine P Q (fine x) h g = g x h
weaker_fine P Q (breaks rule place) h g = tt

-- what has to be there
pub known_fine : {A : Type 0} (rule : Rule) (place : Place) (o : Option A) → IfFine (λ x. o ≡ Some x) (known rule place o)
known_fine rule place (Some x) = refl
known_fine rule place None = tt

-- where a test is passed
pub tested_fine : {A : Type 0} (P : A → Type 0) (test : Bool) (x : A) (rule : Rule) (place : Place) → (test ≡ true → P x) → IfFine P (if test then fine x else breaks rule place)
tested_fine P true x rule place h = h refl
tested_fine P false x rule place h = tt

-- one of two by a test
pub either_fine : {A : Type 0} (P : A → Type 0) (test : Bool) (one other : Judged A) → (test ≡ true → IfFine P one) → (test ≡ false → IfFine P other) → IfFine P (if test then one else other)
either_fine P true one other h g = h refl
either_fine P false one other h g = g refl
