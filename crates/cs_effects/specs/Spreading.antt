-- How it is found what methods do: marks that spread from method to method. No part of what is promised.
use Rattle.std.specs.Prelude.{◌≡◌, ◌⊎◌, ◌↔◌, IsTrue, ℕ, ◌+◌, List, [], ◌∷◌, map, Bool, true, false, if◌then◌else◌, Option, Some, None, slice_get, slice_set}
use Rattle.cs_ast.specs.declared.member.Member.{Member}
use Rattle.cs_ast.specs.declared.scope.Effect.{Effect}
use Rattle.cs_effects.specs.declared.deed.Deed.{Deed}
use Rattle.cs_effects.specs.declared.deed.Deed.TheVariants.{Runs}
use Rattle.cs_effects.specs.declared.marks.Mark.{Mark}
use Rattle.cs_effects.specs.declared.marks.Mark.TheVariants.{Clear, Waiting, Spread}
use Rattle.cs_effects.specs.Effects.{method_name, does_itself, Does}

abbrev pub is_marked : Mark → Bool
is_marked Clear = false
is_marked Waiting = true
is_marked Spread = true

abbrev pub is_waiting : Mark → Bool
is_waiting Waiting = true
is_waiting _ = false

-- how often a mark may change yet
abbrev pub weight : Mark → ℕ
weight Clear = 2
weight Waiting = 1
weight Spread = 0

abbrev pub weights : List Mark → ℕ
weights [] = 0
weights (mark ∷ marks) = weight mark + weights marks

-- the first marks: of those that do it themselves
abbrev pub first_mark : Deed → Member → Mark
first_mark deed m = if does_itself deed m.kind then Waiting else Clear

-- a method that runs the one of this name is marked
abbrev pub touched : Deed → Member → Mark → Mark
touched runs m Clear = if does_itself runs m.kind then Waiting else Clear
touched runs m Waiting = Waiting
touched runs m Spread = Spread

abbrev pub touch : Deed → List Member → List Mark → List Mark
touch runs [] marks = []
touch runs (m ∷ ms) [] = []
touch runs (m ∷ ms) (mark ∷ marks) = touched runs m mark ∷ touch runs ms marks

-- the marks spread from a method
abbrev pub spread_by : Option (List ℕ) → List Member → List Mark → List Mark
spread_by None members marks = marks
spread_by (Some name) members marks = touch (Runs name) members marks

abbrev pub name_of : Option Member → Option (List ℕ)
name_of None = None
name_of (Some m) = method_name m.kind

unfoldable pub spread : List Member → List Mark → ℕ → List Mark
spread members marks at = spread_by (name_of (slice_get members at)) members (slice_set marks at Spread)

-- the effects that marks tell
abbrev pub with_effect : Option (List ℕ) → Mark → Mark → List Effect → List Effect
with_effect None changes invokes effects = effects
with_effect (Some name) changes invokes effects = record { method = name; changes = is_marked changes; invokes = is_marked invokes } ∷ effects

abbrev pub listed : List Member → List Mark → List Mark → List Effect
listed [] changes invokes = []
listed (m ∷ ms) [] invokes = []
listed (m ∷ ms) (change ∷ changes) [] = []
listed (m ∷ ms) (change ∷ changes) (invoke ∷ invokes) = with_effect (method_name m.kind) change invoke (listed ms changes invokes)

-- as many marks as members
abbrev pub Aligned : List Member → List Mark → Type 0
Aligned [] [] = Unit {0}
Aligned (m ∷ ms) (mark ∷ marks) = Aligned ms marks
Aligned _ _ = ⊥

-- a member and its mark
abbrev pub Stands : Member → Mark → List Member → List Mark → Type 0
Stands m mark [] marks = ⊥
Stands m mark (x ∷ xs) [] = ⊥
Stands m mark (x ∷ xs) (y ∷ ys) = ((m ≡ x) × (mark ≡ y)) ⊎ Stands m mark xs ys

-- exactly those that do it are marked
pub record Found (members : List Member) (deed : Deed) (marks : List Mark) : Type 0 where
  pub aligned : Aligned members marks
  pub exact : (m : Member) (mark : Mark) → Stands m mark members marks → IsTrue (is_marked mark) ↔ Does members deed m.kind
