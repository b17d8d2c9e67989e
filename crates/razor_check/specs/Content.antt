-- The tag of a component by the shape of its content: no part of what the checker promises.
use Rattle.std.specs.Prelude.{[], List, ◌++◌, codes, Option}
use Rattle.std.specs.List.{flat_map, list_all, list_any}
use Rattle.text_core.specs.declared.place.Place.{Place}
use Rattle.cs_ast.specs.declared.identifier.Ident.{Ident}
use Rattle.cs_rules.specs.declared.rule.Rule.TheVariants.{DuplicateAttribute}
use Rattle.razor_ast.specs.declared.attribute.Attribute.{Attribute}
use Rattle.razor_rules.specs.declared.finding.Broken.{Broken}
use Rattle.razor_rules.specs.declared.ground.Ground.{Ground}
use Rattle.razor_rules.specs.Names.{repeated}
use Rattle.razor_rules.specs.Parameters.{Tagged, fragment_taken, needed_rules}
use Rattle.razor_rules.specs.Parts.{Part}
use Rattle.razor_rules.specs.Tags.{attribute_names, attribute_rules, context_in, counted, is_fragment_tag, loose_rules, mixed_rules, tags_rules}
use Rattle.razor_parts.specs.declared.tags.Shape.{Shape}
use Rattle.razor_parts.specs.declared.tags.Shape.TheVariants as shape
use Rattle.razor_parts.specs.Shapes.{shape_by, names_by}

-- how the content of a tag is to be taken
abbrev pub shape_in : Tagged → List Part → Shape
shape_in tag parts = shape_by (list_all (is_fragment_tag tag) (counted parts)) (list_any (is_fragment_tag tag) (counted parts))

abbrev pub shaped_rules : Shape → Tagged → List Part → Place → Ground → Option Ident → List Broken
shaped_rules shape.Fragments tag parts place g outer = tags_rules tag (counted parts) g outer
shaped_rules shape.Mixed tag parts place g outer = mixed_rules tag (counted parts) ++ tags_rules tag (counted parts) g outer
shaped_rules shape.Loose tag parts place g outer = loose_rules (fragment_taken tag (codes "ChildContent")) parts place g outer

abbrev pub tag_rules : Tagged → Place → List Attribute → List Part → Ground → List Broken
tag_rules tag place attributes parts g =
    needed_rules tag attributes place
    ++ repeated DuplicateAttribute [] (attribute_names attributes ++ names_by (shape_in tag parts) (counted parts) place (codes "ChildContent"))
    ++ flat_map (λ one. attribute_rules tag g one one.kind) attributes
    ++ shaped_rules (shape_in tag parts) tag parts place g (context_in attributes)
