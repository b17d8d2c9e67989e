-- What a function of a rendering returned and left agrees with what is drawn.
use Rattle.std.specs.Prelude.{◌≡◌, ◌+◌, [], Result, Ok, Err}
use Rattle.cs_meaning.specs.State.{Fields, state}
use Rattle.drawing_meaning.specs.Drawing.{Drawing, Drawn, gives, faults, stuck}
use Rattle.drawing_meaning.specs.Shows.{stage_at}
use Rattle.drawing_meaning.specs.Stages.{Stage}
use Rattle.frame_program.specs.Frames.{templates_in}
use Rattle.frame_run.specs.declared.exit.Exit.{Exit}
use Rattle.frame_run.specs.declared.exit.Exit.TheVariants as exit
use Rattle.frame_run.specs.declared.progress.Progress.{Progress}
use Rattle.frame_run.specs.declared.progress.Around.{Around}

-- the drawing that a rendering has reached
abbrev pub reached : Progress → Fields → Drawing
reached progress fields = record {
  state = state progress.locals.values.items fields [] progress.left;
  items = progress.others + progress.components;
  bytes = progress.bytes;
  components = progress.components;
}

-- what parts of a template are drawn by
abbrev pub stage_in : Around → Fields → Stage
stage_in around parameters =
    stage_at parameters around.program.now.bodies (templates_in around.program.now.fragments) around.who around.calls around.depth

-- an exit and what is reached, as what is drawn; memory may run out anywhere
abbrev pub Leaves : {A : Type 0} → Exit → Drawing → Drawn A → Type 0
Leaves exit.Memory d drawn = Unit {0}
Leaves (exit.Fault fault) d drawn = drawn ≡ faults fault d
Leaves exit.Stuck d drawn = drawn ≡ stuck

-- the result and what is reached are what is drawn, where a result is seen so
abbrev pub AgreesAs : {A B : Type 0} → (A → B) → Result A Exit → Drawing → Drawn B → Type 0
AgreesAs view (Ok x) d drawn = drawn ≡ gives (view x) d
AgreesAs view (Err e) d drawn = Leaves e d drawn

-- the same, where it is seen as it is
abbrev pub Agrees : {A : Type 0} → Result A Exit → Drawing → Drawn A → Type 0
Agrees = AgreesAs (λ x. x)
