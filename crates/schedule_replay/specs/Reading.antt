-- What the reading of parts of a schedule answers.
use Rattle.std.specs.Prelude.{◌≡◌, ℕ, List, Option, Some, None, Result, Ok, Err}
use Rattle.serde_json.specs.Data.{Data}
use Rattle.serde_json.specs.View.{view, items_view}
use Rattle.serde_json.specs.declared.value.Value.{Value}
use Rattle.schedule_replay.specs.declared.reading.Parts.{Parts}
use Rattle.schedule_replay.specs.declared.schedule.ScheduleFault.{ScheduleFault}
use Rattle.schedule_replay.specs.declared.schedule.ScheduleFault.TheVariants as fault
use Rattle.schedule_replay.specs.declared.schedule.Step.{Step}
use Rattle.schedule_replay.specs.Schedule.{Outline}

-- the outline that the parts are
abbrev pub outline_view : Parts → Outline
outline_view parts = record { window = parts.window; retain = parts.retain; steps = items_view parts.steps.now }

-- the steps, or the number of the first that is none
abbrev pub ReadsSteps : Result (List Step) ScheduleFault → Result (List Step) ℕ → Type 0
ReadsSteps (Ok steps) means = means ≡ Ok steps
ReadsSteps (Err (fault.Step number)) means = means ≡ Err number
ReadsSteps (Err fault.Oom) means = Unit {0}
ReadsSteps (Err _) means = ⊥

-- the JSON that bytes are, or that they are none
abbrev pub ReadsJson : Result Value ScheduleFault → Option Data → Type 0
ReadsJson (Ok value) means = means ≡ Some (view value)
ReadsJson (Err fault.Unread) means = means ≡ None
ReadsJson (Err fault.Oom) means = Unit {0}
ReadsJson (Err _) means = ⊥
