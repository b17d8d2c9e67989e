-- How the checker goes from file to file: no part of what it promises.
use Rattle.std.specs.Prelude.{◌≡◌, ℕ, Bool, false, List, [], ◌++◌, map, length}
use Rattle.std.specs.List.{list_all, AllZip}
use Rattle.cs_ast.specs.declared.cs_type.CsType.TheVariants as t
use Rattle.cs_ast.specs.declared.member.Member.{Member}
use Rattle.cs_ast.specs.declared.scope.Effect.{Effect}
use Rattle.cs_token.specs.declared.characters.Class.TheVariants as class
use Rattle.cs_token.specs.Characters.{is_in}
use Rattle.cs_effects.specs.Effects.{Told}
use Rattle.razor_ast.specs.declared.component.Component.{Component}
use Rattle.razor_rules.specs.declared.finding.Broken.{Broken}
use Rattle.razor_rules.specs.declared.ground.Ground.{Ground}
use Rattle.razor_rules.specs.Grounds.{top}
use Rattle.razor_rules.specs.Restrictions.{in_template, impure_in, invoking_in}
use Rattle.razor_rules.specs.Members.{numbered_effects}
use Rattle.razor_rules.specs.Scopes.{Home, records_of}
use Rattle.razor_rules.specs.Declarations.{members_rules}
use Rattle.razor_rules.specs.Parts.{in_order}
use Rattle.razor_rules.specs.Templates.{part_of}
use Rattle.razor_rules.specs.Programs as programs
use Rattle.razor_rules.specs.Programs.{name_rules}
use Rattle.razor_parts.specs.declared.home.Home as homes
use Rattle.razor_parts.specs.Views.{home_of}
use Rattle.razor_parts.specs.Circles.{AreCircular}
use Rattle.razor_check.specs.Members.{among}
use Rattle.razor_check.specs.declared.programs.Facts.{Facts}
use Rattle.razor_check.specs.declared.programs.Finding.{Finding}

abbrev pub are_word : List ℕ → Bool
are_word text = list_all (is_in class.Word) text

-- at the top of some template, over these records
abbrev pub IsTop : List Member → Ground → Type 0
IsTop records g = g ≡ record { scope = record { names = g.scope.names; records = records; result = t.Nothing }; marks = []; forbidden = in_template [] g.forbidden.bodies; in_switch = false }

-- the rules that a file breaks, where these bodies invoke callbacks, and these change fields too
abbrev pub rules_by : List Component → Home → Component → List ℕ → List ℕ → (List ℕ → Bool) → List Broken
rules_by earlier home component invoking impure circular =
    name_rules earlier component
    ++ members_rules home invoking circular (records_of earlier)
    ++ in_order (map (part_of home) component.nodes) (top home impure)

-- a component stands in its program
pub record Stands (components : List Component) (records : List Member) (position first : ℕ) (component : Component) (effects : List Effect) (home : homes.Home) : Type 0 where
  pub view : home_of home ≡ record { records = records; components = components; position = position; first = first; members = component.members }
  pub impure : home.impure ≡ impure_in (numbered_effects first component.members effects)
  pub invoking : home.invoking ≡ invoking_in (numbered_effects first component.members effects)

-- what the checker is told of a program
pub record AreTold (components : List Component) (facts : Facts) : Type 0 where
  pub records : facts.records ≡ records_of components
  pub circular : AreCircular facts.records facts.circular
  pub effects : AllZip (λ component told. Told component.members component.members told) components facts.effects

abbrev pub facts : Facts → programs.Facts
facts it = record { effects = it.effects; circular = among it.circular }

abbrev pub finding : Finding → programs.Finding
finding it = record { file = it.file; first = it.first }
