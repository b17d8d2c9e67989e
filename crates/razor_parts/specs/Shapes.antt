-- How the content of a component's tag is taken.
use Rattle.std.specs.Prelude.{ℕ, Bool, List, [], ◌∷◌, if◌then◌else◌}
use Rattle.std.specs.List.{flat_map}
use Rattle.text_core.specs.declared.place.Place.{Place}
use Rattle.cs_ast.specs.declared.identifier.Ident.{Ident}
use Rattle.razor_rules.specs.Names.{name_at}
use Rattle.razor_rules.specs.Parts.{Part}
use Rattle.razor_rules.specs.Tags.{first_place, if_named}
use Rattle.razor_parts.specs.declared.tags.Shape.{Shape}
use Rattle.razor_parts.specs.declared.tags.Shape.TheVariants as shape

-- by whether all of its parts are tags of fragments, and whether any is
abbrev pub shape_by : Bool → Bool → Shape
shape_by all any = if all then shape.Fragments else if any then shape.Mixed else shape.Loose

-- the names that content of such a shape counts as, where loose content has this one
abbrev pub names_by : Shape → List Part → Place → List ℕ → List Ident
names_by shape.Fragments parts place loose = flat_map (λ one. if_named one.place one.tag) parts
names_by shape.Mixed parts place loose = []
names_by shape.Loose parts place loose = name_at (first_place parts place) loose ∷ []
