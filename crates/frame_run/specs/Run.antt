-- What a rendering answers.
use Rattle.std.specs.Prelude.{◌≡◌, ℕ, List, Option, Some, None, Result, Ok, Err}
use Rattle.cs_meaning.specs.declared.fault.Fault.TheVariants.{Oom}
use Rattle.drawing_meaning.specs.declared.fault.PageFault.{PageFault}
use Rattle.drawing_meaning.specs.declared.fault.PageFault.TheVariants.{Code}
use Rattle.drawing_meaning.specs.Drawing.{Drawing, Drawn, gives, faults, stuck}
use Rattle.frame_core.specs.declared.item.Item.{Item}

-- the answer, with so many units left, is what is drawn; memory may run out anywhere
abbrev pub Means : Result (List Item) PageFault → ℕ → Drawn (List Item) → Type 0
Means (Ok items) left drawn = (d : Drawing) × (d.state.left ≡ left) × (drawn ≡ gives items d)
Means (Err (Code Oom)) left drawn = Unit {0}
Means (Err fault) left drawn = (d : Drawing) × (d.state.left ≡ left) × (drawn ≡ faults fault d)

-- the same of a rendering that may be stuck, and then gives nothing
abbrev pub Tries : Result (Option (List Item)) PageFault → ℕ → Drawn (List Item) → Type 0
Tries (Ok (Some items)) left drawn = Means (Ok items) left drawn
Tries (Ok None) left drawn = drawn ≡ stuck
Tries (Err fault) left drawn = Means (Err fault) left drawn
