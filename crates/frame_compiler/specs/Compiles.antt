-- What a compiled program is, of the components that it was compiled from.
use Rattle.std.specs.Prelude.{◌≡◌, ℕ, ◌+◌, List, [], ◌∷◌, map, Option, Some, None}
use Rattle.text_core.specs.declared.place.Place.{Place}
use Rattle.cs_rules.specs.declared.rule.Rule.{Rule}
use Rattle.cs_rules.specs.Judged.{Judged, fine, breaks, ◌>>=◌}
use Rattle.frame_program.specs.Frames.{templates_in}
use Rattle.frame_program.specs.Operations.{act_of}
use Rattle.frame_program.specs.declared.compiled.Compiled.{Compiled}
use Rattle.frame_program.specs.declared.compiled.CompiledComponent.{CompiledComponent}
use Rattle.razor_ast.specs.declared.component.Component.{Component}
use Rattle.razor_rules.specs.Programs.{home_of}
use Rattle.page_meaning.specs.Items.{bodies, templates}
use Rattle.page_meaning.specs.Resolved.{Resolves}
use Rattle.frame_parts.specs.Components.{Meaning, component_meaning}

-- what a compiled component means: its operations, act by act
abbrev pub meaning_of : CompiledComponent → Meaning
meaning_of it =
    record {
      name = it.name;
      disposes = it.disposes;
      fields = it.fields;
      parameters = it.parameters;
      initialized = it.initialized;
      parameters_set = it.parameters_set;
      dispose = it.dispose;
      acts = map act_of it.operations;
    }

-- what something comes to, whatever is placed besides
abbrev pub made_by : {A : Type 0} → Resolves A → Judged A
made_by (fine it) = fine it.made
made_by (breaks rule place) = breaks rule place

-- what the components from a position on come to, in their order
abbrev pub meanings_from : List Component → ℕ → List Component → Judged (List Meaning)
meanings_from components position [] = fine []
meanings_from components position (one ∷ others) = do
  first ← made_by (component_meaning (home_of components position one) one)
  more ← meanings_from components (position + 1) others
  fine (first ∷ more)

-- the components mean what they come to, the bodies are those of the program, and so is what fragments do under each number
pub record Compiles (components : List Component) (compiled : Compiled) : Type 0 where
  pub meanings : meanings_from components 0 components ≡ fine (map meaning_of compiled.components)
  pub bodies : compiled.bodies ≡ bodies components
  pub fragments : (number : ℕ) → templates_in compiled.fragments number ≡ templates components number

-- a rule that the component at a position breaks
pub record Finding : Type 0 where
  pub file : ℕ
  pub rule : Rule
  pub place : Place

abbrev pub finding_or : {A : Type 0} → ℕ → Judged A → Option Finding → Option Finding
finding_or file (fine x) further = further
finding_or file (breaks rule place) further = Some (record { file = file; rule = rule; place = place })

-- the first that does not come to something, among those from a position on
abbrev pub first_broken : List Component → ℕ → List Component → Option Finding
first_broken components position [] = None
first_broken components position (one ∷ others) =
    finding_or position (component_meaning (home_of components position one) one) (first_broken components (position + 1) others)
