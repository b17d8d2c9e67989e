-- A program whose first broken rule is none breaks none in any of its components.
use Rattle.std.proofs.Common.{◌≡◌, ℕ, zero, suc, ◌+◌, List, [], ◌∷◌, ◌++◌, map, refl, subst, arith}
use Rattle.std.specs.Prelude.{Bool, slice_get, take, Option, Some, None}
use Rattle.std.specs.List.{flat_map, AllZip}
use Rattle.cs_ast.specs.declared.member.Member.{Member}
use Rattle.cs_ast.specs.declared.scope.Effect.{Effect}
use Rattle.cs_effects.specs.Effects.{Told}
use Rattle.razor_ast.specs.declared.component.Component.{Component}
use Rattle.razor_rules.specs.declared.finding.Broken.{Broken}
use Rattle.razor_rules.specs.Declarations.{member_rules, members_rules}
use Rattle.razor_rules.specs.Grounds.{top}
use Rattle.razor_rules.specs.Parts.{in_order}
use Rattle.razor_rules.specs.Programs.{BreaksFirst, home_of, name_rules, file_rules, of_file, files_rules, first_in}
use Rattle.razor_rules.specs.Restrictions.{impure_in, invoking_in}
use Rattle.razor_rules.specs.Scopes.{Home, records_of, effects_in}
use Rattle.razor_rules.specs.Templates.{part_of}
use Rattle.page_meaning.specs.ProgramTypes.{program_types}
use Rattle.page_typing.proofs.TemplateValues.{no_first, no_second}
use Rattle.program_typing.specs.Programs.{ComponentKeeps, AllKeep, AreFormed, AreSound, ProgramHas}
use Rattle.program_typing.specs.Tags.{KeepsRules}
use Rattle.program_typing.proofs.Counting.{comes}
use Rattle.program_typing.proofs.Programs.{program_has}

none_first : (file : ℕ) (rules : List Broken) (others : List (List Broken)) → first_in file (rules ∷ others) ≡ None → rules ≡ []
none_first file [] others e = refl
none_first file (one ∷ more) others e = absurd (cc)

none_behind : (file : ℕ) (rules : List Broken) (others : List (List Broken)) → first_in file (rules ∷ others) ≡ None → first_in (file + 1) others ≡ None
none_behind file [] others e = e
none_behind file (one ∷ more) others e = absurd (cc)

last_members : (home : Home) (invoking : List ℕ) (circular : List ℕ → Bool) (earlier : List Member) → members_rules home invoking circular earlier ≡ [] → flat_map (λ (one : Member). member_rules home invoking circular one.kind) home.members ≡ []
unfolding members_rules
last_members home invoking circular earlier e = no_second _ (flat_map (λ (one : Member). member_rules home invoking circular one.kind) home.members) e

module _ (components : List Component) (circular : List ℕ → Bool) where
  file_keeps : (position : ℕ) (one : Component) (effects : List (ℕ × Effect)) → file_rules (take position components) (home_of components position one) one effects circular ≡ [] → ComponentKeeps components position one
  unfolding file_rules
  file_keeps position one effects e =
      let home : Home = home_of components position one in
      let names = name_rules (take position components) one in
      let members = members_rules home (invoking_in effects) circular (records_of (take position components)) in
      let nodes = in_order (map (part_of home) one.nodes) (top home (impure_in effects)) in
      let broken : names ++ members ++ nodes ≡ [] = e in
      record {
        invoking = invoking_in effects;
        impure = impure_in effects;
        circular = circular;
        earlier = records_of (take position components);
        members = no_second names members (no_first (names ++ members) nodes broken);
        template = no_second (names ++ members) nodes broken;
      }

  kept : (file position : ℕ) (others : List Component) (effects : List (List Effect)) → AllZip (λ (one : Component) (effect : List Effect). Told one.members one.members effect) others effects → first_in file (files_rules components circular position others effects) ≡ None
      → (i : ℕ) (one : Component) → slice_get others i ≡ Some one → ComponentKeeps components (position + i) one
  kept file position [] effects told e i one there = absurd (nothing i there)
    where
      nothing : (n : ℕ) → slice_get {X = Component} [] n ≡ Some one → ⊥
      nothing n k = absurd (cc)
  kept file position (first ∷ others) [] told e i one there = absurd told
  kept file position (first ∷ others) (effect ∷ effects) told e zero one there =
      let same : first ≡ one = cc in
      let here : ComponentKeeps components position first = file_keeps position first (effects_in (home_of components position first) effect) (none_first file (of_file components circular position first effect) (files_rules components circular (position + 1) others effects) e) in
      subst (λ (n : ℕ). ComponentKeeps components n one) (omega arith) (subst (λ (z : Component). ComponentKeeps components position z) same here)
  kept file position (first ∷ others) (effect ∷ effects) told e (suc i) one there =
      subst (λ (n : ℕ). ComponentKeeps components n one) (omega arith)
      (kept (file + 1) (position + 1) others effects told.1 (none_behind file (of_file components circular position first effect) (files_rules components circular (position + 1) others effects) e) i one there)

pub all_keep : (components : List Component) → BreaksFirst components None → AllKeep components
all_keep components h position one there =
    let at_first : 0 + position ≡ position = omega arith in
    subst (λ (n : ℕ). ComponentKeeps components n one) at_first (kept components h.0.circular 0 0 components h.0.effects h.1.effects h.2 position one there)

pub keeps_rules : (components : List Component) → AllKeep components → KeepsRules components
keeps_rules components h position one there =
    let k = h position one there in record { invoking = k.invoking; circular = k.circular; earlier = k.earlier; broken = k.members }

pub are_sound : (components : List Component) → AllKeep components → AreFormed components → AreSound components
are_sound components h g position one there =
    let k = h position one there in
    let f = g position one there in
    record {
      invoking = k.invoking;
      circular = k.circular;
      members = last_members (home_of components position one) k.invoking k.circular k.earlier k.members;
      methods = f.methods;
      template = comes (home_of components position one) k.impure f.numbers one.nodes f.content k.template;
    }

pub accepted_has : (components : List Component) (instances : ℕ → Option ℕ) → BreaksFirst components None → AreFormed components → ProgramHas (program_types components instances) components
accepted_has components instances h g = program_has components instances (are_sound components (all_keep components h) g)
