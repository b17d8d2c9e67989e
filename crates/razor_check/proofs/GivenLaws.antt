-- What components are given.
use Rattle.std.proofs.Common.{◌≡◌, ℕ, List, refl, ap}
use Rattle.text_core.specs.declared.place.Place.{Place}
use Rattle.cs_ast.specs.declared.member.Member.{Member}
use Rattle.razor_ast.specs.declared.attribute.Given.{Given}
use Rattle.razor_rules.specs.declared.ground.Ground.{Ground}
use Rattle.razor_rules.specs.Findings.{found}
use Rattle.razor_rules.specs.Parameters.{cascading_value, component, takes_in, taken_rules, cascading_rules, parameter_rules}
use Rattle.razor_parts.specs.Taken.{written_as}
use Rattle.razor_parts.proofs.TakenLaws.{by_written}
use Rattle.razor_check.specs.Given.{written_rules}

pub built_in_given : (g : Ground) (name : List ℕ) (at : Place) (given : Given) → parameter_rules g cascading_value name at given ≡ found (cascading_rules g name at given)
unfolding parameter_rules
built_in_given g name at given = refl

pub component_given : (g : Ground) (records members : List Member) (name : List ℕ) (at : Place) (given : Given) →
    parameter_rules g (component (takes_in records members)) name at given ≡ found (written_rules records g (written_as members name) at given)
unfolding parameter_rules
component_given g records members name at given =
    ap found (by_written records (λ takes. taken_rules g takes at given) (λ written. written_rules records g written at given) refl (λ n w. refl) members name)
