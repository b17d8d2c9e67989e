-- The tag of a component without content comes to a component of the program with what fits its parameters.
use Rattle.std.proofs.Common.{◌≡◌, ℕ, List, [], ◌∷◌, ◌++◌, refl, sym, ap, subst, ◌∙◌}
use Rattle.std.specs.Prelude.{Bool, true, if◌then◌else◌, Some}
use Rattle.std.specs.List.{flat_map, list_all}
use Rattle.text_core.specs.declared.place.Place.{Place}
use Rattle.cs_ast.specs.declared.cs_type.CsType.{CsType}
use Rattle.cs_ast.specs.declared.identifier.Ident.{Ident}
use Rattle.cs_rules.specs.declared.rule.Rule.TheVariants.{UnknownComponent, DuplicateAttribute}
use Rattle.cs_rules.specs.Judged.{known}
use Rattle.cs_typing.specs.Expressions.{Surroundings}
use Rattle.cs_typing.specs.Types.{Types}
use Rattle.drawing_meaning.specs.Acts.{Act}
use Rattle.drawing_meaning.specs.Tags as act
use Rattle.drawing_meaning.specs.Tags.{Gives}
use Rattle.frame_core.specs.declared.made.Made.TheVariants as made
use Rattle.razor_ast.specs.declared.attribute.Attribute.{Attribute}
use Rattle.razor_rules.specs.declared.ground.Ground.{Ground}
use Rattle.razor_rules.specs.Names.{repeated}
use Rattle.razor_rules.specs.Parameters.{Takes, component, tagged, needed_rules}
use Rattle.razor_rules.specs.Parts as rule
use Rattle.razor_rules.specs.Scopes.{Home}
use Rattle.razor_rules.specs.Tags.{tag_rules, attribute_names, attribute_rules, content_names, content_rules, context_in}
use Rattle.razor_rules.specs.Tags as rule_tags
use Rattle.razor_rules.specs.Templates.{option_list}
use Rattle.page_meaning.specs.Parts as page
use Rattle.page_meaning.specs.Parts.{Inside, Tag, tags_of, loose, content_of, inside, is_fragment_tag, component_of, fragment_gift}
use Rattle.page_meaning.specs.Resolved.{each}
use Rattle.page_meaning.specs.Tags.{component_at, target_of, attribute_gifts}
use Rattle.page_typing.specs.Acts.{ActsHave}
use Rattle.page_typing.specs.Acts as acts
use Rattle.page_typing.specs.Homes.{surroundings, HomeFits}
use Rattle.page_typing.specs.Resolving.{Resolved}
use Rattle.page_typing.specs.TemplateScopes.{TemplateScope}
use Rattle.page_typing.proofs.ResolvedParts.{alone_resolved, two_resolved, after_judged}
use Rattle.page_typing.proofs.TemplateValues.{no_first, no_second, one_act}
use Rattle.program_typing.specs.Tags.{GivesFit, AttributesFormed, IsTargetOf, IsComponent}
use Rattle.program_typing.proofs.Gifts.{gifts_resolved}
use Rattle.program_typing.proofs.Supplying.{gives_have}

append_nil : {A : Type 0} (xs : List A) → xs ≡ xs ++ []
append_nil [] = refl
append_nil (x ∷ xs) = ap (λ z. x ∷ z) (append_nil xs)

-- what is the component of a tag has types
pub component_has : (at : Surroundings) (breaks : Bool) (locals : List CsType) (number position : ℕ) (all : List Act) → IsComponent at locals number position all → ActsHave at true breaks locals locals all
component_has at breaks locals number position all h =
    subst (λ z. ActsHave at true breaks locals locals z) (sym h.is)
    (one_act at true breaks locals locals (act.component number (made.Component position) h.gives) (acts.component breaks locals number (made.Component position) h.gives refl (gives_have at locals (λ place. at.types.parameters position place) h.gives h.fit)))

module _ (home : Home) (types : Types) (fits : HomeFits types home) (g : Ground) (locals : List CsType) (scope : TemplateScope home g.scope locals) where
  abbrev at : Surroundings
  at = surroundings types home

  -- the rules of attributes among those of a tag
  attributes_kept : (takes : List Takes) (place : Place) (name : Ident) (attributes : List Attribute) (parts : List rule.Part) → tag_rules (Some (component takes)) place name attributes parts g ≡ [] → flat_map (λ (one : Attribute). attribute_rules (component takes) g one one.kind) attributes ≡ []
  attributes_kept takes place name attributes parts e =
      let needed = needed_rules (component takes) attributes place in
      let names = repeated DuplicateAttribute [] (attribute_names attributes ++ content_names (component takes) (rule_tags.counted parts) place) in
      let own = flat_map (λ (one : Attribute). attribute_rules (component takes) g one one.kind) attributes in
      let content = content_rules (component takes) parts place g (context_in attributes) in
      let broken : needed ++ names ++ own ++ content ≡ [] = e in
      no_second (needed ++ names) own (no_first (needed ++ names ++ own) content broken)

  module _ (number : ℕ) (place : Place) (name : Ident) (attributes : List Attribute) (takes : List Takes) (target : IsTargetOf home.components types g.scope name.name attributes takes) where
    abbrev Component : List Act → Type 0
    Component all = IsComponent at locals number target.position all

    nothing_inside : AttributesFormed attributes → flat_map (λ (one : Attribute). attribute_rules (component takes) g one one.kind) attributes ≡ []
        → Resolved types true Component (component_of (component takes) (component_at target.position target.one) home g.scope number place attributes (tags_of []))
    nothing_inside formed e =
        two_resolved types true (GivesFit at locals (λ z. types.parameters target.position z)) (λ (more : List Gives). more ≡ []) Component
        (attribute_gifts home g.scope (component_at target.position target.one) attributes)
        (each (fragment_gift (component takes) (component_at target.position target.one) home g.scope (context_in attributes)) [])
        (λ first more. act.component number (made.Component target.position) (first ++ more) ∷ [])
        (gifts_resolved home types true fits g locals scope takes (component_at target.position target.one) (λ z. types.parameters target.position z) target.fit attributes formed e)
        (alone_resolved types true (λ (more : List Gives). more ≡ []) [] refl)
        (λ first more h none. record {
          gives = first ++ more;
          is = refl;
          fit = subst (λ z. GivesFit at locals (λ n. types.parameters target.position n) z) (append_nil first ∙ ap (λ z. first ++ z) (sym none)) h;
        })

    pub tag_resolved : (parts : List page.Part) (rule_parts : List rule.Part) → tagged home name.name ≡ Some (component takes) → AttributesFormed attributes → page.counted parts ≡ [] → tag_rules (tagged home name.name) place name attributes rule_parts g ≡ []
        → Resolved types true Component (page.component number place name attributes parts home g.scope)
    unfolding page.component
    tag_resolved parts rule_parts is formed none e =
        let kept = attributes_kept takes place name attributes rule_parts (sym (ap (λ o. tag_rules o place name attributes rule_parts g) is) ∙ e) in
        let within : inside (component takes) parts ≡ tags_of [] = ap (λ z. if list_all (is_fragment_tag (component takes)) z then tags_of (flat_map (λ (one : page.Part). option_list one.tag) z) else loose (content_of parts)) none in
        after_judged types true Component (known UnknownComponent name.place (tagged home name.name)) (component takes) _ (ap (known UnknownComponent name.place) is)
        (after_judged types true Component (known UnknownComponent name.place (target_of home.components g.scope name.name attributes)) (component_at target.position target.one) _ (ap (known UnknownComponent name.place) target.known)
        (subst (λ z. Resolved types true Component (component_of (component takes) (component_at target.position target.one) home g.scope number place attributes z)) (sym within) (nothing_inside formed kept)))
