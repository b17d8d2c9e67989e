-- The rules that the file of a component by itself breaks: none.
use Rattle.std.proofs.Common.{◌≡◌, ℕ, List, [], ◌∷◌, ◌++◌, map, refl}
use Rattle.std.specs.Prelude.{Bool, None}
use Rattle.std.specs.List.{flat_map, AllZip}
use Rattle.cs_ast.specs.declared.member.Member.{Member}
use Rattle.cs_ast.specs.declared.scope.Effect.{Effect}
use Rattle.cs_effects.specs.Effects.{Told}
use Rattle.razor_ast.specs.declared.component.Component.{Component}
use Rattle.razor_rules.specs.declared.finding.Broken.{Broken}
use Rattle.razor_rules.specs.Restrictions.{impure_in, invoking_in}
use Rattle.razor_rules.specs.Scopes.{Home, records_of, effects_in}
use Rattle.razor_rules.specs.Grounds.{top}
use Rattle.razor_rules.specs.Declarations.{member_rules, members_rules}
use Rattle.razor_rules.specs.Parts.{in_order}
use Rattle.razor_rules.specs.Templates.{part_of}
use Rattle.razor_rules.specs.Programs.{home_of, name_rules, file_rules, files_rules, first_in, BreaksFirst}
use Rattle.page_typing.proofs.TemplateValues.{no_first, no_second}

-- where its code stands
abbrev pub alone_home : Component → Home
alone_home component = home_of (component ∷ []) 0 component

-- its members and its template break no rule
pub record Sound (component : Component) : Type 0 where
  pub invoking : List ℕ
  pub impure : List ℕ
  pub circular : List ℕ → Bool
  pub members : flat_map (λ (one : Member). member_rules (alone_home component) invoking circular one.kind) component.members ≡ []
  pub nodes : in_order (map (part_of (alone_home component)) component.nodes) (top (alone_home component) impure) ≡ []

none_first : (rules : List Broken) (others : List (List Broken)) → first_in 0 (rules ∷ others) ≡ None → rules ≡ []
none_first [] others e = refl
none_first (one ∷ more) others e = absurd (cc)

last_members : (home : Home) (invoking : List ℕ) (circular : List ℕ → Bool) (earlier : List Member) → members_rules home invoking circular earlier ≡ [] → flat_map (λ (one : Member). member_rules home invoking circular one.kind) home.members ≡ []
unfolding members_rules
last_members home invoking circular earlier e = no_second _ (flat_map (λ (one : Member). member_rules home invoking circular one.kind) home.members) e

sound_file : (earlier : List Component) (component : Component) (effects : List (ℕ × Effect)) (circular : List ℕ → Bool) → file_rules earlier (alone_home component) component effects circular ≡ [] → Sound component
unfolding file_rules
sound_file earlier component effects circular e =
    let home : Home = alone_home component in
    let members = members_rules home (invoking_in effects) circular (records_of earlier) in
    let nodes = in_order (map (part_of home) component.nodes) (top home (impure_in effects)) in
    record {
      invoking = invoking_in effects;
      impure = impure_in effects;
      circular = circular;
      members = last_members home (invoking_in effects) circular (records_of earlier) (no_second (name_rules earlier component) members (no_first (name_rules earlier component ++ members) nodes e));
      nodes = no_second (name_rules earlier component ++ members) nodes e;
    }

pub is_sound : (component : Component) → BreaksFirst (component ∷ []) None → Sound component
is_sound component h = by h.0.effects h.1.effects h.2
  where
    by : (effects : List (List Effect)) → AllZip (λ (one : Component) (effect : List Effect). Told one.members one.members effect) (component ∷ []) effects → first_in 0 (files_rules (component ∷ []) h.0.circular 0 (component ∷ []) effects) ≡ None → Sound component
    by [] told e = absurd told
    by (effect ∷ others) told e = sound_file [] component (effects_in (alone_home component) effect) h.0.circular (none_first (file_rules [] (alone_home component) component (effects_in (alone_home component) effect) h.0.circular) (files_rules (component ∷ []) h.0.circular 1 [] others) e)
