-- What the answers of the code say. Memory may run out anywhere.
use Rattle.std.specs.Prelude.{◌≡◌, ℕ, List, Option, Some, None, Result, Ok, Err}
use Rattle.cs_ast.specs.declared.value.Value.{Value}
use Rattle.cs_meaning.specs.declared.fault.Fault.{Fault}
use Rattle.cs_meaning.specs.declared.fault.Fault.TheVariants as fault
use Rattle.cs_meaning.specs.State.{State}
use Rattle.cs_meaning.specs.Outcome.{Outcome, gives, faults, stuck}
use Rattle.drawing_meaning.specs.declared.fault.PageFault.{PageFault}
use Rattle.drawing_meaning.specs.declared.fault.PageFault.TheVariants as met
use Rattle.frame_core.specs.declared.item.Item.{Item}
use Rattle.page_core.specs.declared.node.Node.{Node}
use Rattle.page_meaning.specs.Fresh as fresh
use Rattle.page_meaning.specs.Fresh.{First}
use Rattle.first_rendering.specs.First as first
use Rattle.first_rendering.specs.First.{FirstItems}

-- a value with so many units left behind it, a fault, or nothing where code is stuck
abbrev pub Comes : Result (Option Value) Fault → ℕ → Outcome Value → Type 0
Comes (Ok (Some x)) left outcome = (s : State) × (outcome ≡ gives x s) × (s.left ≡ left)
Comes (Ok None) left outcome = outcome ≡ stuck
Comes (Err fault.Oom) left outcome = Unit {0}
Comes (Err f) left outcome = (s : State) × (outcome ≡ faults f s)

-- the same of several values, whatever units are left
abbrev pub Come : Result (Option (List Value)) Fault → Outcome (List Value) → Type 0
Come (Ok (Some xs)) outcome = (s : State) × (outcome ≡ gives xs s)
Come (Ok None) outcome = outcome ≡ stuck
Come (Err fault.Oom) outcome = Unit {0}
Come (Err f) outcome = (s : State) × (outcome ≡ faults f s)

-- the items of a first rendering, or the fault that ends it
abbrev pub TriesItems : Result (Option (List Item)) PageFault → FirstItems → Type 0
TriesItems (Ok (Some items)) it = it ≡ first.made items
TriesItems (Ok None) it = it ≡ first.stuck
TriesItems (Err (met.Code fault.Oom)) it = Unit {0}
TriesItems (Err f) it = it ≡ first.ended f

-- its page
abbrev pub TriesPage : Result (Option (List Node)) PageFault → First → Type 0
TriesPage (Ok (Some nodes)) it = it ≡ fresh.page nodes
TriesPage (Ok None) it = it ≡ fresh.stuck
TriesPage (Err (met.Code fault.Oom)) it = Unit {0}
TriesPage (Err f) it = it ≡ fresh.ended f
