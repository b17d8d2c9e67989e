-- Programs of sound components keep to their types: from component to component, behind the numbers of those before.
use Rattle.std.proofs.Common.{◌≡◌, ℕ, zero, suc, ◌+◌, List, [], ◌∷◌, ◌++◌, refl, sym, ap, subst, ◌∙◌, arith}
use Rattle.std.specs.Prelude.{true, slice_get, Option, Some}
use Rattle.std.specs.BTreeMap.{is_at}
use Rattle.std.specs.Map.{lookup}
use Rattle.std.specs.Ordering.{nat_cmp}
use Rattle.cs_typing.specs.Bodies.{BodiesHave}
use Rattle.cs_typing.specs.Types.{Types}
use Rattle.razor_ast.specs.declared.component.Component.{Component}
use Rattle.razor_rules.specs.Numbers.{span, first_number}
use Rattle.razor_rules.specs.Programs.{home_of}
use Rattle.page_meaning.specs.Items.{component_acts, placed_by, placed_from, placed, bodies, templates}
use Rattle.page_meaning.specs.Placed.{Placed, bodies_in, templates_in, with_entries}
use Rattle.page_meaning.specs.ProgramTypes.{program_types}
use Rattle.page_meaning.specs.Resolved.{placing}
use Rattle.page_typing.specs.Numbering.{Between}
use Rattle.page_typing.specs.Resolving.{AllKnown, AllFitting}
use Rattle.page_typing.specs.Templates.{TemplatesHave}
use Rattle.page_typing.proofs.ProgramNumbers.{From, all_known, bodies_are, templates_are, code_found, template_found}
use Rattle.page_typing.proofs.RisingNumbers.{between_both}
use Rattle.program_typing.specs.Programs.{AreSound, HasTemplate, ProgramHas}
use Rattle.program_typing.proofs.Components.{types_of, made, all_placed, acts_are, rising, acts_have, all_fit}
use Rattle.program_typing.proofs.Numbers.{first_next, behind_entries, known_first, known_second, fitting_both}

module _ (components : List Component) (instances : ℕ → Option ℕ) (sound : AreSound components) where
  -- these stand there from a position on
  abbrev Behind : ℕ → List Component → Type 0
  Behind position others = (i : ℕ) → slice_get components (position + i) ≡ slice_get others i

  first_of : (position : ℕ) (one : Component) (others : List Component) → Behind position (one ∷ others) → slice_get components position ≡ Some one
  first_of position one others h = ap (slice_get components) (omega arith) ∙ h 0

  next_of : (position : ℕ) (one : Component) (others : List Component) → Behind position (one ∷ others) → Behind (position + 1) others
  next_of position one others h i = ap (slice_get components) (omega arith) ∙ h (suc i)

  abbrev placed_at : (position : ℕ) (one : Component) (there : slice_get components position ≡ Some one) → List (ℕ × Placed)
  placed_at position one there = all_placed components instances position one there (sound position one there)

  -- what the component at a position places
  placed_is : (position : ℕ) (one : Component) (there : slice_get components position ≡ Some one) → placed_by (component_acts (home_of components position one) one) ≡ placed_at position one there
  placed_is position one there = ap placed_by (acts_are components instances position one there (sound position one there))

  -- numbers from that of a component on rise
  rise_from : (position : ℕ) (others : List Component) → Behind position others → (high : ℕ) × Between (first_number components position) high (placed_from components position others)
  rise_from position [] h = (first_number components position, omega arith)
  rise_from position (one ∷ others) h =
      let there = first_of position one others h in
      let more = rise_from (position + 1) others (next_of position one others h) in
      let next : first_number components (position + 1) ≡ first_number components position + span one = first_next components position one there in (
        more.0,
        between_both (first_number components position) (first_number components position + span one) more.0 (placed_by (component_acts (home_of components position one) one)) (placed_from components (position + 1) others)
            (subst (λ z. Between (first_number components position) (first_number components position + span one) z) (sym (placed_is position one there)) (rising components instances position one there (sound position one there)))
            (subst (λ n. Between n more.0 (placed_from components (position + 1) others)) next more.1),
      )

  -- types of what these place, and of the program
  module _ (xs : List (ℕ × Placed)) where
    abbrev these : Types
    these = types_of components instances xs

    -- the component at a position among those from it on
    abbrev Placing : ℕ → Component → List (ℕ × Placed) → Type 0
    Placing position one rest = From these (first_number components position) (placed_by (component_acts (home_of components position one) one) ++ rest) × AllKnown these (placed_by (component_acts (home_of components position one) one) ++ rest)

    one_fits : (position : ℕ) (one : Component) (rest : List (ℕ × Placed)) → slice_get components position ≡ Some one → Placing position one rest → AllFitting these true (placed_by (component_acts (home_of components position one) one)) × HasTemplate these components position one
    one_fits position one rest there h =
        let own = sound position one there in
        let is = placed_is position one there in
        let from : From these (first_number components position) (placed_at position one there ++ rest) = subst (λ z. From these (first_number components position) (z ++ rest)) is h.0 in
        let known : AllKnown these (placed_at position one there) = known_first these (placed_at position one there) rest (subst (λ z. AllKnown these (z ++ rest)) is h.1) in (
          subst (λ z. AllFitting these true z) (sym is) (all_fit components instances position one there own xs rest from known),
          record {
            it = placing (made components instances position one there own).made (placed_at position one there);
            comes = acts_are components instances position one there own;
            inner = [];
            has = acts_have components instances position one there own xs rest from known;
          },
        )

    behind_one : (position : ℕ) (one : Component) (rest : List (ℕ × Placed)) → slice_get components position ≡ Some one → Placing position one rest → From these (first_number components (position + 1)) rest × AllKnown these rest
    behind_one position one rest there h =
        let own = sound position one there in
        let is = placed_is position one there in
        let next : first_number components (position + 1) ≡ first_number components position + span one = first_next components position one there in (
          subst (λ n. From these n rest) (sym next)
              (behind_entries these (first_number components position) (first_number components position + span one) (placed_by (component_acts (home_of components position one) one)) rest
              (subst (λ z. Between (first_number components position) (first_number components position + span one) z) (sym is) (rising components instances position one there own)) h.0),
          known_second these (placed_by (component_acts (home_of components position one) one)) rest h.1,
        )

    -- all from a position on
    all_fitting : (position : ℕ) (others : List Component) → Behind position others → From these (first_number components position) (placed_from components position others) → AllKnown these (placed_from components position others) → AllFitting these true (placed_from components position others)
    all_fitting position [] h from known = tt
    all_fitting position (one ∷ others) h from known =
        let there = first_of position one others h in
        let rest = placed_from components (position + 1) others in
        let more = behind_one position one rest there (from, known) in
        fitting_both these (placed_by (component_acts (home_of components position one) one)) rest (one_fits position one rest there (from, known)).0 (all_fitting (position + 1) others (next_of position one others h) more.0 more.1)

    -- the one so many places further
    template_at : (position : ℕ) (others : List Component) → Behind position others → From these (first_number components position) (placed_from components position others) → AllKnown these (placed_from components position others) → (i : ℕ) (one : Component) → slice_get others i ≡ Some one → HasTemplate these components (position + i) one
    template_at position [] h from known i one e = absurd (none i e)
      where
        none : (n : ℕ) → slice_get {X = Component} [] n ≡ Some one → ⊥
        none n k = absurd (cc)
    template_at position (first ∷ others) h from known zero one e =
        let same : first ≡ one = cc in
        let here : HasTemplate these components position first = (one_fits position first (placed_from components (position + 1) others) (first_of position first others h) (from, known)).1 in
        subst (λ (n : ℕ). HasTemplate these components n one) (omega arith) (subst (λ (z : Component). HasTemplate these components position z) same here)
    template_at position (first ∷ others) h from known (suc i) one e =
        let more = behind_one position first (placed_from components (position + 1) others) (first_of position first others h) (from, known) in
        subst (λ (n : ℕ). HasTemplate these components n one) (omega arith) (template_at (position + 1) others (next_of position first others h) more.0 more.1 i one e)

  abbrev every : List (ℕ × Placed)
  every = placed_from components 0 components

  abbrev types : Types
  types = types_of components instances every

  whole : Behind 0 components
  whole i = ap (slice_get components) (omega arith)

  rises : (high : ℕ) × Between 0 high every
  rises = rise_from 0 components whole

  is_from : From types 0 every
  is_from = record { bodies = λ n h. refl; templates = λ n h. refl }

  are_known : AllKnown types every
  are_known = all_known types 0 rises.0 every rises.1 is_from

  every_fits : AllFitting types true every
  every_fits = all_fitting every 0 components whole is_from are_known

  every_is : placed components ≡ every
  unfolding placed
  every_is = refl

  bodies_have : BodiesHave types (bodies components)
  unfolding bodies
  bodies_have =
      let is : with_entries [] (bodies_in (placed components)) ≡ bodies_in every = ap (λ xs. with_entries [] (bodies_in xs)) every_is ∙ bodies_are _ _ every rises.1 in
      subst (λ z. BodiesHave types z) (sym is) (record { has = λ number s e. code_found types true every number s every_fits e })

  templates_have : TemplatesHave types true (templates components)
  unfolding templates
  templates_have =
      let is : with_entries [] (templates_in (placed components)) ≡ templates_in every = ap (λ xs. with_entries [] (templates_in xs)) every_is ∙ templates_are _ _ every rises.1 in
      record { has = λ number s e. let k = template_found types true every number s every_fits e in (k.0, ap (λ z. lookup (is_at (nat_cmp number)) z) is ∙ k.1, k.2) }

  types_are : program_types components instances ≡ types
  unfolding program_types
  types_are = ap (types_of components instances) every_is

  each_has : (position : ℕ) (one : Component) → slice_get components position ≡ Some one → HasTemplate types components position one
  each_has position one there =
      let from_none : 0 + position ≡ position = omega arith in
      subst (λ (n : ℕ). HasTemplate types components n one) from_none (template_at every 0 components whole is_from are_known position one there)

  pub program_has : ProgramHas (program_types components instances) components
  program_has =
      subst (λ (z : Types). ProgramHas z components) (sym types_are)
      (record { bodies = bodies_have; fragments = templates_have; each = each_has })
