-- The rules of a whole program: which are broken, which is the first, and which programs are accepted.
use Rattle.std.specs.Prelude.{◌≡◌, ℕ, ◌+◌, ◌<◌, ◌≤◌, ◌&&◌, not, Bool, codes, List, [], ◌∷◌, ◌++◌, length, map, take, Option, Some, None, bytes_eq}
use Rattle.std.specs.List.{list_all, All, AllZip}
use Rattle.cs_ast.specs.declared.scope.Effect.{Effect}
use Rattle.cs_token.specs.declared.characters.Class.TheVariants as class
use Rattle.cs_token.specs.Characters.{is_in}
use Rattle.cs_token.specs.Places.{first_place}
use Rattle.cs_effects.specs.Effects.{Told}
use Rattle.cs_rules.specs.declared.rule.Rule.TheVariants.{DuplicateComponent, BadComponentName}
use Rattle.razor_token.specs.Tags.{is_component}
use Rattle.razor_ast.specs.declared.component.Component.{Component}
use Rattle.razor_ast.specs.Components.{SpellsFile}
use Rattle.razor_rules.specs.declared.finding.Broken.{Broken}
use Rattle.razor_rules.specs.Findings.{broken_unless, first_of}
use Rattle.razor_rules.specs.Names.{is_among}
use Rattle.razor_rules.specs.Numbers.{first_number}
use Rattle.razor_rules.specs.Records.{IsCircular}
use Rattle.razor_rules.specs.Restrictions.{impure_in, invoking_in}
use Rattle.razor_rules.specs.Scopes.{Home, records_of, effects_in}
use Rattle.razor_rules.specs.Grounds.{top}
use Rattle.razor_rules.specs.Declarations.{members_rules}
use Rattle.razor_rules.specs.Parts.{in_order}
use Rattle.razor_rules.specs.Templates.{part_of}

-- a letter A to Z and then letters and digits, and not that of the built-in component
unfoldable pub is_component_name : List ℕ → Bool
is_component_name name = is_component name && list_all (is_in class.Word) name && not (bytes_eq name (codes "CascadingValue"))

-- where the code of the component at a position stands
abbrev pub home_of : List Component → ℕ → Component → Home
home_of components position component =
    record {
      records = records_of components;
      components = components;
      position = position;
      first = first_number components position;
      members = component.members;
    }

-- the rules that a file breaks by its name, behind these files
abbrev pub name_rules : List Component → Component → List Broken
name_rules earlier component =
    broken_unless (not (is_among component.name (map (λ one. one.name) earlier))) DuplicateComponent first_place
    ++ broken_unless (is_component_name component.name) BadComponentName first_place

-- what is told of a program: the effects of the methods of each component, and whether the record of a name contains itself
pub record Facts : Type 0 where
  pub effects : List (List Effect)
  pub circular : List ℕ → Bool

-- the rules that a file breaks, behind these files, where its methods have these effects and such records contain themselves
unfoldable pub file_rules : List Component → Home → Component → List (ℕ × Effect) → (List ℕ → Bool) → List Broken
file_rules earlier home component effects circular =
    name_rules earlier component
    ++ members_rules home (invoking_in effects) circular (records_of earlier)
    ++ in_order (map (part_of home) component.nodes) (top home (impure_in effects))

-- the rules that the file at a position breaks
abbrev pub of_file : List Component → (List ℕ → Bool) → ℕ → Component → List Effect → List Broken
of_file components circular position one effects =
    file_rules (take position components) (home_of components position one) one (effects_in (home_of components position one) effects) circular

-- the same for each file from a position on
abbrev pub files_rules : List Component → (List ℕ → Bool) → ℕ → List Component → List (List Effect) → List (List Broken)
files_rules components circular position [] effects = []
files_rules components circular position (one ∷ others) [] = []
files_rules components circular position (one ∷ others) (effect ∷ effects) =
    of_file components circular position one effect ∷ files_rules components circular (position + 1) others effects

-- a broken rule in the file at a position
pub record Finding : Type 0 where
  pub file : ℕ
  pub first : Broken

abbrev pub finding_or : ℕ → Option Broken → Option Finding → Option Finding
finding_or file None further = further
finding_or file (Some first) further = Some (record { file = file; first = first })

-- the first in the first file that has one, from a position on
abbrev pub first_in : ℕ → List (List Broken) → Option Finding
first_in file [] = None
first_in file (one ∷ others) = finding_or file (first_of one) (first_in (file + 1) others)

-- the first broken rule of a program of which this is told
abbrev pub first_broken : List Component → Facts → Option Finding
first_broken components facts = first_in 0 (files_rules components facts.circular 0 components facts.effects)

-- it is so
pub record AreTrue (components : List Component) (facts : Facts) : Type 0 where
  pub effects : AllZip (λ component effects. Told component.members component.members effects) components facts.effects
  pub circular : IsCircular (records_of components) facts.circular

-- the first broken rule of a program is this one, or it breaks none
abbrev pub BreaksFirst : List Component → Option Finding → Type 0
BreaksFirst components finding = (facts : Facts) × AreTrue components facts × (first_broken components facts ≡ finding)

-- a component that some file spells
abbrev pub IsSpelled : Component → Type 0
IsSpelled component = (name : List ℕ) × (text : List ℕ) × SpellsFile name text component

-- an accepted program: one to 256 components, each spelled by its file, that break no rule
pub record IsAccepted (components : List Component) : Type 0 where
  pub some : 0 < length components
  pub few : length components ≤ 256
  pub spelled : All IsSpelled components
  pub sound : BreaksFirst components None
