-- The rules of the tags of components and fragments.
use Rattle.std.specs.Prelude.{ℕ, not, Bool, codes, is_some, List, [], ◌∷◌, ◌++◌, map, filter, if◌then◌else◌, Option, Some, None}
use Rattle.std.specs.List.{flat_map, list_any, list_all}
use Rattle.std.specs.Option.{option_or}
use Rattle.text_core.specs.declared.place.Place.{Place}
use Rattle.cs_ast.specs.declared.cs_type.CsType.{CsType}
use Rattle.cs_ast.specs.declared.identifier.Ident.{Ident}
use Rattle.cs_rules.specs.declared.rule.Rule.TheVariants.{UnknownComponent, UnknownParameter, DuplicateAttribute, MixedContent}
use Rattle.razor_ast.specs.declared.attribute.Attribute.{Attribute}
use Rattle.razor_ast.specs.declared.attribute.AttributeKind.{AttributeKind}
use Rattle.razor_ast.specs.declared.attribute.AttributeKind.TheVariants as ak
use Rattle.razor_rules.specs.declared.finding.Broken.{Broken}
use Rattle.razor_rules.specs.Findings.{broken, found, found_then}
use Rattle.razor_rules.specs.Names.{name_at, repeated}
use Rattle.razor_rules.specs.declared.ground.Ground.{Ground}
use Rattle.razor_rules.specs.Grounds.{in_fragment, with_new}
use Rattle.razor_rules.specs.Values.{key}
use Rattle.razor_rules.specs.TemplateDeeds.{changing}
use Rattle.razor_rules.specs.Parameters.{Tagged, fragment_taken, parameter_rules, needed_rules}
use Rattle.razor_rules.specs.Parts.{Part, in_order, any_does}

-- the name that `Context` gives, if it is there
abbrev pub context_of : AttributeKind → Option Ident
context_of (ak.Context number name) = Some name
context_of _ = None

abbrev pub context_in : List Attribute → Option Ident
context_in [] = None
context_in (one ∷ others) = option_or (context_of one.kind) (context_in others)

-- the name of the argument of a fragment: what its tag says, or else the tag round it, or else `context` at a place
abbrev pub context_name : Option Ident → Option Ident → Place → Ident
context_name (Some own) outer place = own
context_name None (Some outer) place = outer
context_name None None place = name_at place (codes "context")

-- the content of a fragment with such an argument of this name
abbrev pub fragment_rules : List Part → Option CsType → Ident → Ground → List Broken
fragment_rules parts argument name g = found_then (with_new argument name (any_does parts (changing name.name)) (in_fragment g)) (in_order parts)

-- attributes by their names
abbrev pub attribute_names : List Attribute → List Ident
attribute_names attributes = map (λ one. name_at one.place one.name) attributes

-- the tag of a fragment has no attribute but `Context`
abbrev pub fragment_attribute : Attribute → List Broken
fragment_attribute one = if is_some (context_of one.kind) then [] else broken UnknownParameter one.place ∷ []

-- the tag of a fragment
abbrev pub fragment_tag : Place → List Attribute → List Part → Ground → Option CsType → Option Ident → List Broken
fragment_tag place attributes parts g argument outer =
    flat_map fragment_attribute attributes
    ++ repeated DuplicateAttribute [] (attribute_names attributes)
    ++ fragment_rules parts argument (context_name (context_in attributes) outer place) g

-- the argument of the fragment that a part is the tag of, if it is the tag of one
abbrev pub fragment_by : Tagged → Option (List ℕ) → Option (Option CsType)
fragment_by tag None = None
fragment_by tag (Some name) = fragment_taken tag name

abbrev pub is_fragment_tag : Tagged → Part → Bool
is_fragment_tag tag one = is_some (fragment_by tag one.tag)

-- the parts that count: all but white space alone
abbrev pub counted : List Part → List Part
counted parts = filter (λ one. not one.blank) parts

abbrev pub first_place : List Part → Place → Place
first_place [] place = place
first_place (one ∷ others) place = one.place

abbrev pub if_named : Place → Option (List ℕ) → List Ident
if_named at None = []
if_named at (Some name) = name_at at name ∷ []

-- the names that content counts as among the attributes of a tag: those of its fragments' tags, or `ChildContent`; none where it is mixed
abbrev pub content_names : Tagged → List Part → Place → List Ident
content_names tag parts place =
    if list_all (is_fragment_tag tag) parts then flat_map (λ one. if_named one.place one.tag) parts
    else if list_any (is_fragment_tag tag) parts then []
    else name_at (first_place parts place) (codes "ChildContent") ∷ []

abbrev pub by_tag : Option (Option CsType) → Ground → Option Ident → Part → List Broken
by_tag None g outer one = one.rules (in_fragment g)
by_tag (Some argument) g outer one = one.as_fragment g argument outer

-- content that is the tags of fragments, or these beside other content
abbrev pub tags_rules : Tagged → List Part → Ground → Option Ident → List Broken
tags_rules tag parts g outer = flat_map (λ one. by_tag (fragment_by tag one.tag) g outer one) parts

-- the first part that is no tag of a fragment
abbrev pub mixed_rules : Tagged → List Part → List Broken
mixed_rules tag [] = []
mixed_rules tag (one ∷ others) = if is_fragment_tag tag one then mixed_rules tag others else broken MixedContent one.place ∷ []

-- content that is `ChildContent`
abbrev pub loose_rules : Option (Option CsType) → List Part → Place → Ground → Option Ident → List Broken
loose_rules None parts place g outer = broken UnknownParameter place ∷ []
loose_rules (Some argument) parts place g outer = fragment_rules parts argument (context_name outer None place) g

-- the content of a component's tag
abbrev pub content_rules : Tagged → List Part → Place → Ground → Option Ident → List Broken
content_rules tag parts place g outer =
    if list_all (is_fragment_tag tag) (counted parts) then tags_rules tag (counted parts) g outer
    else if list_any (is_fragment_tag tag) (counted parts) then mixed_rules tag (counted parts) ++ tags_rules tag (counted parts) g outer
    else loose_rules (fragment_taken tag (codes "ChildContent")) parts place g outer

abbrev pub attribute_rules : Tagged → Ground → Attribute → AttributeKind → List Broken
attribute_rules tag g one (ak.Parameter number given) = parameter_rules g tag one.name one.place given
attribute_rules tag g one (ak.Key a) = found (key g a)
attribute_rules tag g one _ = []

-- the tag of a component
abbrev pub tag_rules : Option Tagged → Place → Ident → List Attribute → List Part → Ground → List Broken
tag_rules None place name attributes parts g = broken UnknownComponent name.place ∷ []
tag_rules (Some tag) place name attributes parts g =
    needed_rules tag attributes place
    ++ repeated DuplicateAttribute [] (attribute_names attributes ++ content_names tag (counted parts) place)
    ++ flat_map (λ one. attribute_rules tag g one one.kind) attributes
    ++ content_rules tag parts place g (context_in attributes)
