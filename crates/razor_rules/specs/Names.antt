-- Names that stand twice where each may stand once.
use Rattle.std.specs.Prelude.{ℕ, not, Bool, List, [], ◌∷◌, ◌++◌, bytes_eq}
use Rattle.std.specs.List.{list_any}
use Rattle.cs_ast.specs.declared.identifier.Ident.{Ident}
use Rattle.text_core.specs.declared.place.Place.{Place}
use Rattle.cs_rules.specs.declared.rule.Rule.{Rule}
use Rattle.razor_rules.specs.declared.finding.Broken.{Broken}
use Rattle.razor_rules.specs.Findings.{broken_unless}

abbrev pub is_among : List ℕ → List (List ℕ) → Bool
is_among name names = list_any (bytes_eq name) names

-- a name at a place
abbrev pub name_at : Place → List ℕ → Ident
name_at place name = record { place = place; name = name }

-- each name that stands among these before it breaks a rule
abbrev pub repeated : Rule → List (List ℕ) → List Ident → List Broken
repeated rule before [] = []
repeated rule before (one ∷ others) = broken_unless (not (is_among one.name before)) rule one.place ++ repeated rule (before ++ one.name ∷ []) others
