-- The tags of components by the shape of their content.
use Rattle.std.proofs.Common.{◌≡◌, ℕ, List, [], ◌++◌, refl, ap, ◌∙◌, inl, inr}
use Rattle.std.specs.Prelude.{Bool, true, false, codes, Option, Some}
use Rattle.std.specs.List.{flat_map, list_all, list_any}
use Rattle.std.proofs.lemmas.Bool.{cases_Bool}
use Rattle.text_core.specs.declared.place.Place.{Place}
use Rattle.cs_ast.specs.declared.identifier.Ident.{Ident}
use Rattle.cs_rules.specs.declared.rule.Rule.TheVariants.{DuplicateAttribute}
use Rattle.razor_ast.specs.declared.attribute.Attribute.{Attribute}
use Rattle.razor_rules.specs.declared.ground.Ground.{Ground}
use Rattle.razor_rules.specs.Names.{repeated}
use Rattle.razor_rules.specs.Parameters.{Tagged, needed_rules}
use Rattle.razor_rules.specs.Parts.{Part}
use Rattle.razor_rules.specs.Tags as tags
use Rattle.razor_rules.specs.Tags.{attribute_names, attribute_rules, content_names, content_rules, context_in, counted, is_fragment_tag}
use Rattle.razor_parts.specs.Shapes.{names_by}
use Rattle.razor_check.specs.Content.{shape_in, shaped_rules, tag_rules}

names_same : (tag : Tagged) (parts : List Part) (place : Place) → content_names tag (counted parts) place ≡ names_by (shape_in tag parts) (counted parts) place (codes "ChildContent")
names_same tag parts place = elim (cases_Bool (list_all (is_fragment_tag tag) (counted parts))) [
  | inl all ↦ rw all refl
  | inr all ↦ elim (cases_Bool (list_any (is_fragment_tag tag) (counted parts))) [
    | inl any ↦ rw (all, any) refl
    | inr any ↦ rw (all, any) refl
  ]
]

rules_same : (tag : Tagged) (parts : List Part) (place : Place) (g : Ground) (outer : Option Ident) → content_rules tag parts place g outer ≡ shaped_rules (shape_in tag parts) tag parts place g outer
rules_same tag parts place g outer = elim (cases_Bool (list_all (is_fragment_tag tag) (counted parts))) [
  | inl all ↦ rw all refl
  | inr all ↦ elim (cases_Bool (list_any (is_fragment_tag tag) (counted parts))) [
    | inl any ↦ rw (all, any) refl
    | inr any ↦ rw (all, any) refl
  ]
]

pub tag_law : (tag : Tagged) (place : Place) (name : Ident) (attributes : List Attribute) (parts : List Part) (g : Ground) →
    tags.tag_rules (Some tag) place name attributes parts g ≡ tag_rules tag place attributes parts g
tag_law tag place name attributes parts g =
    ap (λ names. needed_rules tag attributes place ++ repeated DuplicateAttribute [] (attribute_names attributes ++ names)
    ++ flat_map (λ one. attribute_rules tag g one one.kind) attributes ++ content_rules tag parts place g (context_in attributes)) (names_same tag parts place)
    ∙ ap (λ z. needed_rules tag attributes place ++ repeated DuplicateAttribute [] (attribute_names attributes ++ names_by (shape_in tag parts) (counted parts) place (codes "ChildContent"))
    ++ flat_map (λ one. attribute_rules tag g one one.kind) attributes ++ z) (rules_same tag parts place g (context_in attributes))
