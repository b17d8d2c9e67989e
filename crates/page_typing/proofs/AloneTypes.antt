-- The types of a component by itself: what it places keeps to them.
use Rattle.std.proofs.Common.{◌≡◌, ℕ, ◌+◌, List, [], ◌∷◌, ◌++◌, map, length, refl, sym, ap, subst, ◌∙◌, arith}
use Rattle.std.specs.Prelude.{Bool, false, slice_get, Some, option_map}
use Rattle.std.specs.List.{flat_map}
use Rattle.std.specs.BTreeMap.{is_at}
use Rattle.std.specs.Map.{lookup}
use Rattle.std.specs.Ordering.{nat_cmp}
use Rattle.cs_ast.specs.declared.expression.Body.TheVariants as bo
use Rattle.cs_ast.specs.declared.member.Member.{Member}
use Rattle.cs_ast.specs.declared.member.MemberKind.{MemberKind}
use Rattle.cs_ast.specs.declared.member.MemberKind.TheVariants.{Field, Parameter, Method, Getter, RecordDef}
use Rattle.cs_rules.specs.Judged.{fine}
use Rattle.cs_rules.specs.Written.{Declared, record_named}
use Rattle.cs_typing.specs.Types.{Types}
use Rattle.cs_typing.specs.Bodies.{BodiesHave}
use Rattle.cs_accepted.specs.Scopes.{ScopeFits, record_type}
use Rattle.cs_accepted.proofs.BodyLemmas.{accepted_as_has}
use Rattle.drawing_meaning.specs.Acts.{Act}
use Rattle.razor_ast.specs.declared.component.Component.{Component}
use Rattle.razor_rules.specs.Grounds.{top}
use Rattle.razor_rules.specs.Members.{none_before}
use Rattle.razor_rules.specs.Scopes.{Home, records_of, member_scope}
use Rattle.page_meaning.specs.Bodies.{method_signature}
use Rattle.page_meaning.specs.Items.{component_acts, placed_by, placed, bodies, templates}
use Rattle.page_meaning.specs.Parts as page
use Rattle.page_meaning.specs.Placed.{Placed, bodies_in, templates_in, with_entries}
use Rattle.page_meaning.specs.ProgramTypes.{program_types, field_of, parameter_of, declared_at, body_signature, template_signature, signature_at}
use Rattle.page_meaning.specs.Resolved.{Placing, placing, Resolves, behind_placed, ◌>>=◌}
use Rattle.page_typing.specs.Acts.{ActsHave}
use Rattle.page_typing.specs.Formed.{MethodFormed, MethodsFormed}
use Rattle.page_typing.specs.Homes.{surroundings, HomeFits}
use Rattle.page_typing.specs.Numbering.{Between}
use Rattle.page_typing.specs.Pages.{IsAlone, one_instance}
use Rattle.page_typing.specs.Resolving.{AllKnown, AllFitting, Resolved}
use Rattle.page_typing.specs.Templates.{TemplatesHave}
use Rattle.page_typing.specs.TemplateScopes as scope
use Rattle.page_typing.proofs.AloneRules.{alone_home, Sound}
use Rattle.page_typing.proofs.ProgramMembers.{MethodJudged, MethodsJudged, all_judged, entry_of, entries, members_are, Declares, numbered, members_fit, field_found, method_fits, methods_fit, Numbered, no_block}
use Rattle.page_typing.proofs.ProgramNumbers.{all_known, bodies_are, templates_are, code_found, template_found}
use Rattle.page_typing.proofs.RisingNumbers.{between_both, between_wider, rises_members, rises_content}
use Rattle.page_typing.proofs.TemplateNodes.{nodes_fit}

-- the types of the component, where it places these
abbrev pub alone_types : Component → List (ℕ × Placed) → Types
alone_types component xs =
    record {
      records = λ name. option_map record_type (record_named (records_of (component ∷ [])) name);
      fields = λ position number. declared_at field_of (slice_get (component ∷ []) position) number;
      parameters = λ position number. declared_at parameter_of (slice_get (component ∷ []) position) number;
      bodies = signature_at body_signature xs;
      templates = signature_at template_signature xs;
      instances = one_instance;
    }

fitting_both : (types : Types) (components : Bool) (xs ys : List (ℕ × Placed)) → AllFitting types components xs → AllFitting types components ys → AllFitting types components (xs ++ ys)
fitting_both types components [] ys h g = g
fitting_both types components (x ∷ xs) ys h g = (h.0, fitting_both types components xs ys h.1 g)

known_second : (types : Types) (xs ys : List (ℕ × Placed)) → AllKnown types (xs ++ ys) → AllKnown types ys
known_second types [] ys h = h
known_second types (x ∷ xs) ys h = known_second types xs ys h.1

-- bodies of methods keep to their signatures
module _ (home : Home) (types : Types) (fits : ScopeFits (surroundings types home) [] (member_scope home)) where
  entry_fits : (n : ℕ) (m : MemberKind) (j : MethodJudged home m) → MethodFormed m → AllFitting types false (entry_of home n m j)
  entry_fits n (Method result name arguments of) j jumps = (accepted_as_has types (method_signature home result arguments) j.0 (method_fits home types result arguments of j fits jumps), tt)
  entry_fits n (Getter result name value) j jumps = (accepted_as_has types (method_signature home (Some result) []) j.0 (method_fits home types (Some result) [] (bo.Value value) j fits (λ statements e. absurd (no_block value statements e))), tt)
  entry_fits n (Field cs_type name initial) j jumps = tt
  entry_fits n (Parameter cascading source cs_type name initial) j jumps = tt
  entry_fits n (RecordDef name parts) j jumps = tt

  entries_fit : (n : ℕ) (members : List Member) (j : MethodsJudged home members) → MethodsFormed members → AllFitting types false (entries home n members j)
  entries_fit n [] j jumps = tt
  entries_fit n (one ∷ others) j jumps = fitting_both types false (entry_of home n one.kind j.0) (entries home (n + 1) others j.1) (entry_fits n one.kind j.0 jumps.0) (entries_fit (n + 1) others j.1 jumps.1)

append_nil : {A : Type 0} (xs : List A) → xs ++ [] ≡ xs
append_nil [] = refl
append_nil (x ∷ xs) = ap (λ z. x ∷ z) (append_nil xs)

-- what a program of one component comes to
module _ (component : Component) (sound : Sound component) (formed : IsAlone component) where
  abbrev home : Home
  home = alone_home component

  abbrev judged_members : MethodsJudged home component.members
  judged_members = all_judged home sound.invoking sound.circular component.members sound.members

  abbrev methods : List (ℕ × Placed)
  methods = entries home home.first component.members judged_members

  known_records : (rest : List (ℕ × Placed)) (name : List ℕ) (it : Declared) → record_named home.records name ≡ Some it → (alone_types component (methods ++ rest)).records name ≡ Some (record_type it)
  known_records rest name it e = ap (option_map record_type) e

  declares : (rest : List (ℕ × Placed)) → Declares home (alone_types component (methods ++ rest)) none_before component.members
  declares rest =
      record {
        fields = λ i. ap (slice_get (flat_map (λ (one : Member). field_of one.kind) component.members)) (omega arith);
        parameters = λ i. ap (slice_get (flat_map (λ (one : Member). parameter_of one.kind) component.members)) (omega arith);
      }

  is_numbered : (rest : List (ℕ × Placed)) → Numbered home (alone_types component (methods ++ rest)) none_before component.members
  is_numbered rest =
      numbered home (alone_types component (methods ++ rest)) home.first none_before component.members judged_members rest (omega arith) (declares rest)
      (record { bodies = λ n h. refl; templates = λ n h. refl })

  scope_fits : (rest : List (ℕ × Placed)) → ScopeFits (surroundings (alone_types component (methods ++ rest)) home) [] (member_scope home)
  scope_fits rest = members_fit home (alone_types component (methods ++ rest)) (is_numbered rest) (known_records rest)

  home_fits : (rest : List (ℕ × Placed)) → HomeFits (alone_types component (methods ++ rest)) home
  home_fits rest =
      record {
        members = scope_fits rest;
        fields = λ name found e. field_found home (alone_types component (methods ++ rest)) name none_before component.members found (is_numbered rest) e;
        methods = methods_fit home (alone_types component (methods ++ rest)) component.members judged_members formed.methods (scope_fits rest);
      }

  abbrev ActsFit : List (ℕ × Placed) → List Act → Type 0
  ActsFit rest all = ActsHave (surroundings (alone_types component (methods ++ rest)) home) false false [] [] all

  abbrev template : Resolves (List Act)
  template = page.in_order (map page.part_of component.nodes) home (member_scope home)

  pub walked : (rest : List (ℕ × Placed)) → Resolved (alone_types component (methods ++ rest)) false (ActsFit rest) template
  walked rest = nodes_fit home (alone_types component (methods ++ rest)) false (home_fits rest) 0 formed.numbers component.nodes (top home sound.impure) formed.content scope.top sound.nodes

  -- the template, and what it places
  abbrev made : Placing (List Act)
  made = (walked []).it

  abbrev pub all_placed : List (ℕ × Placed)
  all_placed = methods ++ made.placed

  abbrev pub types : Types
  types = alone_types component all_placed

  rising : Between home.first (home.first + length component.members + formed.numbers) all_placed
  rising =
      between_both home.first (home.first + length component.members) (home.first + length component.members + formed.numbers) methods made.placed
      ((rises_members home home.first component.members).between (placing tt methods) (members_are home home.first component.members judged_members))
      (between_wider (home.first + length component.members) (home.first + length component.members + 0) (home.first + length component.members + formed.numbers) made.placed (omega arith)
      ((rises_content home 0 formed.numbers component.nodes (member_scope home) formed.content).between made (walked []).is))

  all_are_known : AllKnown types all_placed
  all_are_known = all_known types home.first (home.first + length component.members + formed.numbers) all_placed rising (record { bodies = λ n h. refl; templates = λ n h. refl })

  same_made : (x : Placing (List Act)) → template ≡ fine x → x ≡ made
  same_made x e = let k : fine x ≡ fine made = sym e ∙ (walked []).is in cc

  template_fits : ActsFit made.placed made.made × AllFitting types false made.placed
  template_fits =
      let again = walked made.placed in
      let same : again.it ≡ made = same_made again.it again.is in
      subst (λ (z : Placing (List Act)). AllKnown types z.placed → ActsFit made.placed z.made × AllFitting types false z.placed) same again.fits (known_second types methods made.placed all_are_known)

  all_fit : AllFitting types false all_placed
  all_fit = fitting_both types false methods made.placed (entries_fit home types (scope_fits made.placed) home.first component.members judged_members formed.methods) template_fits.1

  pub acts_are : component_acts home component ≡ fine (placing made.made all_placed)
  unfolding component_acts
  acts_are = ap (λ z. z >>= λ u. template) (members_are home home.first component.members judged_members) ∙ ap (behind_placed methods) (walked []).is

  placed_is : placed (component ∷ []) ≡ all_placed
  unfolding placed
  placed_is = ap (λ z. placed_by z ++ []) acts_are ∙ append_nil all_placed

  pub bodies_have : BodiesHave types (bodies (component ∷ []))
  unfolding bodies
  bodies_have =
      let is : with_entries [] (bodies_in (placed (component ∷ []))) ≡ bodies_in all_placed = ap (λ xs. with_entries [] (bodies_in xs)) placed_is ∙ bodies_are _ _ all_placed rising in
      subst (λ z. BodiesHave types z) (sym is) (record { has = λ number s e. code_found types false all_placed number s all_fit e })

  pub templates_have : TemplatesHave types false (templates (component ∷ []))
  unfolding templates
  templates_have =
      let is : with_entries [] (templates_in (placed (component ∷ []))) ≡ templates_in all_placed = ap (λ xs. with_entries [] (templates_in xs)) placed_is ∙ templates_are _ _ all_placed rising in
      record { has = λ number s e. let k = template_found types false all_placed number s all_fit e in (k.0, ap (λ z. lookup (is_at (nat_cmp number)) z) is ∙ k.1, k.2) }

  pub made_fits : ActsFit made.placed made.made
  made_fits = template_fits.0

  -- the types of the program
  pub types_are : program_types (component ∷ []) one_instance ≡ types
  unfolding program_types
  types_are = ap (alone_types component) placed_is
