-- The items of one rendering of one instance of a program.
use Rattle.std.specs.Prelude.{ℕ, List, map, slice_get, Option, Some, None, option_map}
use Rattle.cs_meaning.specs.State.{Fields}
use Rattle.cs_meaning.specs.declared.fuel.Fuel.{Fuel}
use Rattle.drawing_meaning.specs.Acts.{Act, all_siblings}
use Rattle.drawing_meaning.specs.Drawing.{Drawn, Draws, stuck}
use Rattle.drawing_meaning.specs.Shows.{stage_at, at_first}
use Rattle.drawing_meaning.specs.Stages.{Stage}
use Rattle.frame_core.specs.declared.item.Item.{Item}
use Rattle.frame_program.specs.declared.compiled.Compiled.{Compiled}
use Rattle.frame_program.specs.declared.compiled.CompiledComponent.{CompiledComponent}
use Rattle.frame_program.specs.declared.compiled.RunScope.{RunScope}
use Rattle.frame_program.specs.declared.operation.Operation.{Operation}
use Rattle.frame_program.specs.Fragments.{operations_at}
use Rattle.frame_program.specs.Operations.{act_of}

-- what the fragments of a program do, by their numbers
abbrev pub templates_in : List (ℕ × List Operation) → ℕ → Option (List Act)
templates_in fragments number = option_map (map act_of) (operations_at fragments number)

abbrev pub component_items : Option CompiledComponent → Stage → Draws (List Item)
component_items None stage d = stuck
component_items (Some component) stage d = all_siblings (map act_of component.operations) stage d

-- the items of an instance, with these own fields and parameters of all instances, on so much fuel; or the first fault
abbrev pub frames_of : Compiled → RunScope → Fields → Fields → Fuel → Drawn (List Item)
frames_of compiled scope fields parameters fuel =
    component_items (slice_get compiled.components scope.component)
    (stage_at parameters compiled.bodies (templates_in compiled.fragments) scope.who fuel.depth scope.depth)
    (at_first fields fuel.left)
