-- What the first rendering of a compiled program of one component comes to.
use Rattle.std.specs.Prelude.{ℕ, List, [], ◌∷◌, slice_get, Option, Some, None}
use Rattle.cs_ast.specs.declared.code.Code.{Code}
use Rattle.cs_ast.specs.declared.cs_type.CsType.{CsType}
use Rattle.cs_ast.specs.declared.value.Value.{Value}
use Rattle.cs_meaning.specs.State.{State, state}
use Rattle.cs_meaning.specs.Outcome as code
use Rattle.cs_meaning.specs.Outcome.{Outcome, and_then}
use Rattle.cs_meaning.specs.Meaning.{body_meaning, setting}
use Rattle.drawing_meaning.specs.declared.fault.PageFault.{PageFault}
use Rattle.drawing_meaning.specs.declared.fault.PageFault.TheVariants as fault
use Rattle.drawing_meaning.specs.Drawing as drawing
use Rattle.drawing_meaning.specs.Drawing.{Drawn}
use Rattle.frame_core.specs.declared.item.Item.{Item}
use Rattle.frame_program.specs.declared.compiled.Compiled.{Compiled}
use Rattle.frame_program.specs.declared.compiled.CompiledComponent.{CompiledComponent}
use Rattle.frame_program.specs.declared.compiled.CompiledField.{CompiledField}
use Rattle.frame_program.specs.Frames.{frames_of}
use Rattle.page_meaning.specs.Fresh as fresh
use Rattle.page_meaning.specs.Fresh.{First, items_shown, nodes_of}
use Rattle.page_meaning.specs.Initial.{default_of, fields_of, no_fields}

-- nothing is there but so many units
abbrev pub alone : ℕ → State
alone left = state [] no_fields [] left

-- the value of code that runs by itself
abbrev pub own_value : Code → ℕ → Outcome Value
own_value code left = body_meaning (setting 1 no_fields [] 1) code (alone left)

-- the initial value of a field of a type, on so many units: that of its code, if it has any
abbrev pub initial_value : CsType → Option Code → ℕ → Outcome Value
initial_value cs_type None left = code.gives (default_of cs_type) (alone left)
initial_value cs_type (Some code) left = own_value code left

-- those of fields, in their order, each on the units that are left
abbrev pub initial_values : List CompiledField → ℕ → Outcome (List Value)
initial_values [] left = code.gives [] (alone left)
initial_values (one ∷ others) left = and_then (initial_value one.cs_type one.initial left) (λ x s. and_then (initial_values others s.left) (λ xs s1. code.gives (x ∷ xs) s1))

abbrev pub fields_in : Option CompiledComponent → Outcome (List Value)
fields_in None = code.stuck
fields_in (Some component) = initial_values component.fields 1000000

-- those of the first component
abbrev pub first_fields : Compiled → Outcome (List Value)
first_fields compiled = fields_in (slice_get compiled.components 0)

-- what a first rendering makes: items, or the fault that ends it
pub data FirstItems : Type 0 where
  made : List Item → FirstItems
  ended : PageFault → FirstItems
  stuck : FirstItems

abbrev pub of_drawn : Drawn (List Item) → FirstItems
of_drawn (drawing.gives items d) = made items
of_drawn (drawing.faults met d) = ended met
of_drawn drawing.stuck = stuck

-- behind initial values
abbrev pub behind_fields : Outcome (List Value) → (List Value → FirstItems) → FirstItems
behind_fields (code.gives values s) next = next values
behind_fields (code.faults met s) next = ended (fault.Code met)
behind_fields _ next = stuck

-- the items of the instance 1 over these own fields, at the top of the page
abbrev pub instance_items : Compiled → List Value → FirstItems
instance_items compiled values =
    of_drawn (frames_of compiled (record { who = 1; component = 0; depth = 1 }) (fields_of 1 values) no_fields (record { left = 1000000; depth = 1 }))

abbrev pub first_items : Compiled → FirstItems
first_items compiled = behind_fields (first_fields compiled) (instance_items compiled)

-- the page of the items
abbrev pub page_of : FirstItems → First
page_of (made items) = nodes_of (items_shown 1 items 0)
page_of (ended met) = fresh.ended met
page_of stuck = fresh.stuck

abbrev pub first_page : Compiled → First
first_page compiled = page_of (first_items compiled)
