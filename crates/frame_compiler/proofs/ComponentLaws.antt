-- What components come to.
use Rattle.std.proofs.Common.{◌≡◌, ℕ, List, codes, map, ap, ◌∙◌}
use Rattle.std.specs.Prelude.{Option}
use Rattle.std.specs.Str.{chars}
use Rattle.frame_program.specs.declared.compiled.CompiledField.{CompiledField}
use Rattle.frame_program.specs.declared.operation.Operation.{Operation}
use Rattle.frame_program.specs.Operations.{act_of}
use Rattle.razor_ast.specs.declared.component.Component.{Component}
use Rattle.razor_rules.specs.Scopes.{Home, member_scope}
use Rattle.page_meaning.specs.Bodies.{member_bodies}
use Rattle.page_meaning.specs.Items.{component_acts}
use Rattle.page_meaning.specs.Parts.{part_of, in_order}
use Rattle.page_meaning.specs.Resolved as resolved
use Rattle.page_meaning.specs.Resolved.{◌>>=◌ as ◌>>~◌}
use Rattle.frame_parts.specs.Components.{Meaning, component_meaning, declared, field_in, meaning, method_number, parameter_in}
use Rattle.frame_parts.specs.Methods as methods
use Rattle.frame_parts.specs.Order as order
use Rattle.frame_compiler.specs.Programs as programs
use Rattle.frame_parts.specs.Steps as steps
use Rattle.frame_parts.specs.Steps.{Numbered, step, ◌>>=◌}
use Rattle.frame_parts.proofs.MethodLaws.{member_bodies_law}
use Rattle.frame_parts.proofs.OrderLaws.{in_order_law}
use Rattle.frame_parts.proofs.StepLaws.{step_judged, then_by, then_made}
use Rattle.frame_parts.proofs.WordLaws.{initialized_word, parameters_set_word, dispose_word}

pub acts_law : (home : Home) (component : Component) (before : Numbered) → step (component_acts home component) before ≡ programs.acts home component before
unfolding component_acts
acts_law home component before =
    then_by (member_bodies home home.first component.members) (λ bodies. in_order (map part_of component.nodes) home (member_scope home))
    (methods.member_bodies home home.first component.members) (λ bodies. order.in_order home (map part_of component.nodes) (member_scope home))
    (member_bodies_law home home.first component.members) (λ bodies now. in_order_law home (map part_of component.nodes) (member_scope home) now) before

pub meaning_law : (home : Home) (component : Component) (before : Numbered) → step (component_meaning home component) before ≡ programs.meant home component before
unfolding component_meaning
meaning_law home component before =
    then_by (resolved.judged (declared (field_in home) component.members))
    (λ fields. resolved.judged (declared (parameter_in home) component.members) >>~ (λ parameters. component_acts home component >>~ (λ acts. resolved.alone (meaning home component fields parameters acts))))
    (steps.judged (declared (field_in home) component.members))
    (λ fields. steps.judged (declared (parameter_in home) component.members) >>= (λ parameters. programs.acts home component >>= (λ acts. steps.alone (meaning home component fields parameters acts))))
    (step_judged (declared (field_in home) component.members))
    (λ fields now. then_by (resolved.judged (declared (parameter_in home) component.members))
    (λ parameters. component_acts home component >>~ (λ acts. resolved.alone (meaning home component fields parameters acts)))
    (steps.judged (declared (parameter_in home) component.members)) (λ parameters. programs.acts home component >>= (λ acts. steps.alone (meaning home component fields parameters acts)))
    (step_judged (declared (parameter_in home) component.members))
    (λ parameters later. then_made (component_acts home component) (programs.acts home component) (λ acts. meaning home component fields parameters acts) (acts_law home component) later)
    now)
    before

-- a component of parts that were found one by one
module _ (home : Home) (component : Component) (operations : List Operation) where
  abbrev of_parts : List ℕ → List CompiledField → List CompiledField → Option ℕ → Option ℕ → Option ℕ → Meaning
  of_parts name fields parameters initialized parameters_set dispose =
      record {
        name = name;
        disposes = component.disposes;
        fields = fields;
        parameters = parameters;
        initialized = initialized;
        parameters_set = parameters_set;
        dispose = dispose;
        acts = map act_of operations;
      }

  number_law : (written word : List ℕ) (number : Option ℕ) → written ≡ word → home.members ≡ component.members → number ≡ method_number home.first written home.members → number ≡ method_number home.first word component.members
  number_law written word number spelled members is =
      is ∙ ap (λ w. method_number home.first w home.members) spelled ∙ ap (λ ms. method_number home.first word ms) members

  pub assembled_law : (fields parameters : List CompiledField) (name : List ℕ) (fs ps : List CompiledField) (a b d : Option ℕ) → home.members ≡ component.members → name ≡ component.name → fs ≡ fields → ps ≡ parameters
      → a ≡ method_number home.first (chars (codes "OnInitialized")) home.members → b ≡ method_number home.first (chars (codes "OnParametersSet")) home.members → d ≡ method_number home.first (chars (codes "Dispose")) home.members
      → of_parts name fs ps a b d ≡ meaning home component fields parameters (map act_of operations)
  assembled_law fields parameters name fs ps a b d members named fields_are parameters_are a_is b_is d_is =
      ap (λ x. of_parts x fs ps a b d) named
      ∙ ap (λ x. of_parts component.name x ps a b d) fields_are
      ∙ ap (λ x. of_parts component.name fields x a b d) parameters_are
      ∙ ap (λ x. of_parts component.name fields parameters x b d) (number_law (chars (codes "OnInitialized")) (codes "OnInitialized") a initialized_word members a_is)
      ∙ ap (λ x. of_parts component.name fields parameters (method_number home.first (codes "OnInitialized") component.members) x d) (number_law (chars (codes "OnParametersSet")) (codes "OnParametersSet") b parameters_set_word members b_is)
      ∙ ap (λ x. of_parts component.name fields parameters (method_number home.first (codes "OnInitialized") component.members) (method_number home.first (codes "OnParametersSet") component.members) x)
      (number_law (chars (codes "Dispose")) (codes "Dispose") d dispose_word members d_is)
