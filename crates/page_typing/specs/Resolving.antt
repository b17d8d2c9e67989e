-- What parts of templates come to keeps to the types, where these know the bodies and templates that are placed.
use Rattle.std.specs.Prelude.{◌≡◌, ℕ, Bool, List, [], ◌∷◌, Some}
use Rattle.cs_typing.specs.Types.{Types}
use Rattle.cs_typing.specs.Bodies.{BodyHas}
use Rattle.cs_rules.specs.Judged.{fine}
use Rattle.page_meaning.specs.Placed.{Placed, body, template}
use Rattle.page_meaning.specs.Resolved.{Placing, Resolves}
use Rattle.page_typing.specs.Templates.{TemplateHas}

-- the types say its signature
abbrev pub Known : Types → ℕ → Placed → Type 0
Known types number (body s code) = types.bodies number ≡ Some s
Known types number (template s acts) = types.templates number ≡ Some s

abbrev pub AllKnown : Types → List (ℕ × Placed) → Type 0
AllKnown types [] = Unit {0}
AllKnown types (one ∷ others) = Known types one.0 one.1 × AllKnown types others

-- it keeps to its signature
abbrev pub Fitting : Types → Bool → Placed → Type 0
Fitting types components (body s code) = BodyHas types s code
Fitting types components (template s acts) = TemplateHas types components s acts

abbrev pub AllFitting : Types → Bool → List (ℕ × Placed) → Type 0
AllFitting types components [] = Unit {0}
AllFitting types components (one ∷ others) = Fitting types components one.1 × AllFitting types components others

-- a part breaks no rule: what it comes to is so, and what it places keeps to its signatures, where these are those of the types
pub record Resolved {A : Type 0} (types : Types) (components : Bool) (P : A → Type 0) (j : Resolves A) : Type 0 where
  pub it : Placing A
  pub is : j ≡ fine it
  pub fits : AllKnown types it.placed → P it.made × AllFitting types components it.placed
