-- How the checker goes into scopes and fragments and back: no part of what it promises.
use Rattle.std.specs.Prelude.{◌≡◌, ℕ, Bool, List, take}
use Rattle.cs_forbidden.specs.declared.forbidden.Mark.{Mark}
use Rattle.razor_rules.specs.declared.ground.Ground.{Ground}
use Rattle.razor_rules.specs.Grounds.{in_fragment}

-- so many names and marks are kept
abbrev pub cut_to : ℕ → ℕ → Ground → Ground
cut_to names marks g = record g { scope = record g.scope { names = take names g.scope.names }; marks = take marks g.marks }

abbrev pub left_as : List Mark → Bool → Ground → Ground
left_as outside in_switch g = record g { forbidden = record g.forbidden { outside = outside }; in_switch = in_switch }

-- a fragment is entered, and what was there is kept
pub record Entered (outside : List Mark) (in_switch : Bool) (before inner : Ground) : Type 0 where
  pub outside_kept : outside ≡ before.forbidden.outside
  pub switch_kept : in_switch ≡ before.in_switch
  pub entered : inner ≡ in_fragment before
