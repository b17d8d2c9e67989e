-- What fragments show, and the items of a whole template.
use Rattle.std.specs.Prelude.{ℕ, zero, suc, ◌-◌, List, [], Option, Some, None}
use Rattle.cs_ast.specs.declared.code.Code.{Code}
use Rattle.cs_ast.specs.declared.value.Value.{Value}
use Rattle.cs_meaning.specs.State.{Fields, state}
use Rattle.cs_meaning.specs.declared.fault.Fault.TheVariants.{CallDepth}
use Rattle.cs_meaning.specs.Meaning.{setting}
use Rattle.frame_core.specs.declared.item.Item.{Item}
use Rattle.drawing_meaning.specs.declared.fault.PageFault.TheVariants.{Code as CodeFault}
use Rattle.drawing_meaning.specs.Drawing.{Drawing, Draws, faults, stuck, over_locals}
use Rattle.drawing_meaning.specs.Stages.{Stage, Show}
use Rattle.drawing_meaning.specs.Acts.{Act, all_siblings}

-- the parameters of all instances, the bodies of a program, and what the templates of fragments do by their numbers
module _ (parameters : Fields) (bodies : List (ℕ × Code)) (templates : ℕ → Option (List Act)) where
  abbrev pub template_items : Option (List Act) → List Value → Stage → Draws (List Item)
  template_items None captures stage d = stuck
  template_items (Some acts) captures stage d = over_locals captures (all_siblings acts stage) d

  -- what fragments show, where so many calls may still be inside one another: their templates, over their captures, as code of their receivers
  unfoldable pub shows : ℕ → Show
  shows zero who place captures depth d = faults (CodeFault CallDepth) d
  shows (suc calls) who place captures depth d =
      template_items (templates place) captures (record { around = setting who parameters bodies (100 - calls); depth = depth; show = shows calls }) d

  -- where code of an instance runs at a depth of calls, so deep in the page: at most 100 calls may be inside one another
  abbrev pub stage_at : ℕ → ℕ → ℕ → Stage
  stage_at who calls depth = record { around = setting who parameters bodies calls; depth = depth; show = shows (100 - calls) }

-- nothing is made yet, over these own fields of all instances and so many units
abbrev pub at_first : Fields → ℕ → Drawing
at_first fields left = record { state = state [] fields [] left; items = 0; bytes = 0; components = 0 }
