-- How programs are compiled component by component: no part of what is promised.
use Rattle.std.specs.Prelude.{◌≡◌, ℕ, ◌+◌, List, [], ◌∷◌, map, Result, Ok, Err}
use Rattle.cs_rules.specs.Judged.{fine, breaks}
use Rattle.razor_ast.specs.declared.component.Component.{Component}
use Rattle.drawing_meaning.specs.Acts.{Act}
use Rattle.razor_rules.specs.Programs.{home_of}
use Rattle.razor_rules.specs.Scopes.{Home, member_scope}
use Rattle.page_meaning.specs.Parts.{part_of}
use Rattle.page_meaning.specs.Resolved.{Resolves}
use Rattle.frame_program.specs.declared.compiled.CompiledComponent.{CompiledComponent}
use Rattle.frame_compiler.specs.Compiles.{meaning_of}
use Rattle.frame_parts.specs.Components.{Meaning, component_meaning, declared, field_in, meaning, parameter_in}
use Rattle.frame_parts.specs.Methods.{member_bodies}
use Rattle.frame_parts.specs.Order.{in_order}
use Rattle.frame_parts.specs.Steps.{Numbered, Steps, step, alone, judged, ◌>>=◌}
use Rattle.frame_compiler.specs.declared.fault.CompileFault.{CompileFault}
use Rattle.frame_compiler.specs.declared.fault.CompileFault.TheVariants as fault

-- the template of a component, behind the bodies of its members
abbrev pub acts : Home → Component → Steps (List Act)
acts home component = do
  bodies ← member_bodies home home.first component.members
  in_order home (map part_of component.nodes) (member_scope home)

abbrev pub meant : Home → Component → Steps Meaning
meant home component = do
  fields ← judged (declared (field_in home) component.members)
  parameters ← judged (declared (parameter_in home) component.members)
  them ← acts home component
  alone (meaning home component fields parameters them)

-- the answer for the component at a position that comes to this
abbrev pub IsCompiled : ℕ → Resolves Meaning → Numbered → Numbered → Result CompiledComponent CompileFault → Type 0
IsCompiled position meaning before behind (Ok it) = step meaning before ≡ fine (meaning_of it, behind)
IsCompiled position meaning before behind (Err (fault.Broken file rule place)) = (file ≡ position) × (step meaning before ≡ breaks rule place)
IsCompiled position meaning before behind (Err fault.Oom) = Unit {0}

-- the components from a position on, one after another
abbrev pub components_from : List Component → ℕ → List Component → Steps (List Meaning)
components_from components position [] = alone []
components_from components position (one ∷ others) = do
  first ← step (component_meaning (home_of components position one) one)
  more ← components_from components (position + 1) others
  alone (first ∷ more)

abbrev pub AreCompiled : List Component → Numbered → Numbered → List CompiledComponent → Type 0
AreCompiled components before behind all = components_from components 0 components before ≡ fine (map meaning_of all, behind)
