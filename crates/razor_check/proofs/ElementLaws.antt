-- The rules of the attributes of elements, each by itself.
use Rattle.std.proofs.Common.{◌≡◌, ℕ, List, [], ◌∷◌, ◌++◌, refl, ap, ◌∙◌}
use Rattle.std.specs.List.{flat_map}
use Rattle.razor_ast.specs.declared.attribute.Attribute.{Attribute}
use Rattle.razor_ast.specs.declared.attribute.AttributeKind.{AttributeKind}
use Rattle.razor_ast.specs.declared.attribute.AttributeKind.TheVariants as ak
use Rattle.razor_ast.specs.declared.attribute.ValuePart.{ValuePart}
use Rattle.razor_ast.specs.declared.attribute.ValuePart.TheVariants as part
use Rattle.cs_rules.specs.declared.rule.Rule.TheVariants.{DuplicateAttribute}
use Rattle.razor_rules.specs.declared.finding.Broken.{Broken}
use Rattle.razor_rules.specs.declared.ground.Ground.{Ground}
use Rattle.razor_rules.specs.Names.{repeated}
use Rattle.razor_rules.specs.Scopes.{Home}
use Rattle.razor_rules.specs.Elements as spec
use Rattle.razor_check.specs.Elements.{part_rules, attribute_rules}

module _ (home : Home) (element : List ℕ) (all : List Attribute) (g : Ground) where
  parts : (value : List ValuePart) → flat_map (spec.part_rules home element all g) value ≡ flat_map (part_rules g) value
  parts [] = refl
  parts (part.Literal text ∷ others) = parts others
  parts (part.Shown a ∷ others) = ap (λ z. part_rules g (part.Shown a) ++ z) (parts others)

  of_kind : (kind : AttributeKind) (name : List ℕ) → spec.attribute_rules home element all g kind name ≡ attribute_rules home.members g kind name
  unfolding spec.attribute_rules
  of_kind (ak.Mixed number value) name = parts value
  of_kind (ak.Key a) name = refl
  of_kind (ak.Event number a) name = refl
  of_kind (ak.Bind number field) name = refl
  of_kind ak.BindEvent name = refl
  of_kind (ak.Parameter number given) name = refl
  of_kind (ak.Context number said) name = refl

  each : (attributes : List Attribute) →
      flat_map (λ one. spec.attribute_rules home element all g one.kind one.name) attributes ≡ flat_map (λ one. attribute_rules home.members g one.kind one.name) attributes
  each [] = refl
  each (one ∷ others) = ap (λ z. z ++ flat_map (λ one. spec.attribute_rules home element all g one.kind one.name) others) (of_kind one.kind one.name) ∙ ap (λ z. attribute_rules home.members g one.kind one.name ++ z) (each others)

pub element_law : (home : Home) (element : List ℕ) (attributes : List Attribute) (g : Ground) → spec.element_rules home element attributes g
    ≡ repeated DuplicateAttribute [] (spec.names home element attributes) ++ flat_map (λ one. attribute_rules home.members g one.kind one.name) attributes
unfolding spec.element_rules
element_law home element attributes g = ap (λ z. repeated DuplicateAttribute [] (spec.names home element attributes) ++ z) (each home element attributes g attributes)
