-- The tag of a component is that of a component of the program, whose parameters fit what the tag takes.
use Rattle.std.proofs.Common.{◌≡◌, ℕ, suc, ◌+◌, List, [], ◌∷◌, ◌++◌, map, refl, ap, subst, ◌∙◌, arith}
use Rattle.std.specs.Prelude.{Bool, true, false, codes, filter, slice_get, if◌then◌else◌, bytes_eq, Option, Some, None, option_map}
use Rattle.std.specs.List.{flat_map}
use Rattle.cs_ast.specs.declared.member.Member.{Member}
use Rattle.cs_ast.specs.declared.scope.Scope.{Scope}
use Rattle.cs_rules.specs.declared.rule.Rule.TheVariants.{DuplicateName}
use Rattle.cs_typing.specs.Types.{Types}
use Rattle.razor_ast.specs.declared.attribute.Attribute.{Attribute}
use Rattle.razor_ast.specs.declared.component.Component.{Component}
use Rattle.razor_rules.specs.Declarations.{member_rules, members_rules}
use Rattle.razor_rules.specs.Members.{name_of, is_record}
use Rattle.razor_rules.specs.Names.{repeated}
use Rattle.razor_rules.specs.Parameters.{Takes, cascading_value, component, takes_in, tagged, tagged_component, component_named}
use Rattle.razor_rules.specs.Programs.{home_of}
use Rattle.razor_rules.specs.Scopes.{Home, records_of}
use Rattle.page_meaning.specs.ProgramTypes.{program_types, declared_at, parameter_of}
use Rattle.page_meaning.specs.Tags.{component_at, position_from, bound_to, provider, given_in, expression_in, type_if_fine, target_of}
use Rattle.page_typing.proofs.TemplateValues.{no_first, no_second}
use Rattle.program_typing.specs.Tags.{AllFit, KeepsRules, IsTargetOf}
use Rattle.program_typing.proofs.Declared.{found_declared}

-- the first component of a name, and where it stands
pub record Standing (components : List Component) (name : List ℕ) (number : ℕ) (one : Component) : Type 0 where
  pub behind_it : ℕ
  pub known : position_from components name number ≡ Some (number + behind_it)
  pub there : slice_get components behind_it ≡ Some one

standing_by : (first : Component) (others : List Component) (name : List ℕ) (number : ℕ) (one : Component) (b : Bool) → bytes_eq first.name name ≡ b → (if b then Some first else component_named others name) ≡ Some one
    → (component_named others name ≡ Some one → Standing others name (number + 1) one) → Standing (first ∷ others) name number one
standing_by first others name number one true is e further =
    record {
      behind_it = 0;
      known = ap (λ (b : Bool). if b then Some number else position_from others name (number + 1)) is ∙ ap (λ (n : ℕ). Some n) (omega arith);
      there = e;
    }
standing_by first others name number one false is e further =
    let it = further e in
    record {
      behind_it = suc it.behind_it;
      known = ap (λ (b : Bool). if b then Some number else position_from others name (number + 1)) is ∙ it.known ∙ ap (λ (n : ℕ). Some n) (omega arith);
      there = it.there;
    }

standing : (components : List Component) (name : List ℕ) (number : ℕ) (one : Component) → component_named components name ≡ Some one → Standing components name number one
standing [] name number one e = absurd (cc)
standing (first ∷ others) name number one e = standing_by first others name number one (bytes_eq first.name name) refl e (λ e1. standing others name (number + 1) one e1)

module _ (components : List Component) (instances : ℕ → Option ℕ) (rules : KeepsRules components) where
  abbrev types : Types
  types = program_types components instances

  -- the parameters of a component fit what its tags take
  pub parameters_fit : (position : ℕ) (one : Component) → slice_get components position ≡ Some one → AllFit (takes_in (records_of components) one.members) (component_at position one) (λ place. types.parameters position place)
  unfolding members_rules program_types
  parameters_fit position one there name takes e =
      let home : Home = home_of components position one in
      let kept = rules position one there in
      let own = repeated DuplicateName [] (map (λ (it : Member). name_of it.kind) one.members) in
      let records = repeated DuplicateName (map (λ (it : Member). (name_of it.kind).name) kept.earlier) (map (λ (it : Member). name_of it.kind) (filter (λ (it : Member). is_record it.kind) one.members)) in
      let all = flat_map (λ (it : Member). member_rules home kept.invoking kept.circular it.kind) one.members in
      let broken : own ++ records ++ all ≡ [] = kept.broken in
      let distinct = no_first own records (no_first (own ++ records) all broken) in
      let each = no_second (own ++ records) all broken in
      let it = found_declared home kept.invoking kept.circular name [] one.members 0 takes distinct each e in
      let place_is : 0 + it.behind_it ≡ it.behind_it = omega arith in
      record {
        is_type = it.is_type;
        stands = refl;
        place = it.behind_it;
        known = it.known ∙ ap (λ (n : ℕ). Some (n, takes.cs_type)) place_is;
        declared = ap (λ (o : Option Component). declared_at parameter_of o it.behind_it) there ∙ it.declared;
      }

  module _ (position : ℕ) (own : Component) (s : Scope) (name : List ℕ) (attributes : List Attribute) (takes : List Takes) where
    pub target_fits : tagged (home_of components position own) name ≡ Some (component takes) → IsTargetOf components types s name attributes takes
    unfolding tagged target_of
    target_fits e = by (bytes_eq name (codes "CascadingValue")) refl e
      where
        named : (o : Option Component) → component_named components name ≡ o → tagged_component (records_of components) o ≡ Some (component takes) → bytes_eq name (codes "CascadingValue") ≡ false → IsTargetOf components types s name attributes takes
        named None is e1 other = absurd (cc)
        named (Some one) is e1 other =
            let it = standing components name 0 one is in
            let place_is : 0 + it.behind_it ≡ it.behind_it = omega arith in
            let same : takes_in (records_of components) one.members ≡ takes = cc in
            record {
              position = it.behind_it;
              one = one;
              there = it.there;
              known =
                  ap (λ (b : Bool). if b then option_map (provider attributes) (bound_to (bound_to (given_in attributes (codes "Value")) expression_in) (type_if_fine s))
                  else bound_to (component_named components name) (λ z. option_map (λ n. component_at n z) (position_from components name 0))) other
                  ∙ ap (λ (o : Option Component). bound_to o (λ z. option_map (λ n. component_at n z) (position_from components name 0))) is
                  ∙ ap (λ (o : Option ℕ). option_map (λ n. component_at n one) o) (it.known ∙ ap (λ (n : ℕ). Some n) place_is);
              fit = subst (λ z. AllFit z (component_at it.behind_it one) (λ place. types.parameters it.behind_it place)) same (parameters_fit it.behind_it one it.there);
            }

        by : (b : Bool) → bytes_eq name (codes "CascadingValue") ≡ b → (if b then Some cascading_value else tagged_component (records_of components) (component_named components name)) ≡ Some (component takes) → IsTargetOf components types s name attributes takes
        by true is e1 = absurd (cc)
        by false is e1 = named (component_named components name) refl e1 is
