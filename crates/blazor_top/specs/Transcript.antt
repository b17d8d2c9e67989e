-- The transcript that a component and a schedule lead to.
use Rattle.std.specs.Prelude.{ℕ, List, []}
use Rattle.first_click.specs.declared.component.Component.{Component}
use Rattle.plain_page.specs.Machine.{first_state, plain_machine, tree_of}
use Rattle.plain_page.specs.Turning.{Turned}
use Rattle.schedule_replay.specs.declared.schedule.Schedule.{Schedule}
use Rattle.schedule_replay.specs.Line.Steps.{ends_of}
use Rattle.schedule_replay.specs.Line.Transcript.{Transcript}

-- the lines of the schedule over a line between a server whose stage is of the component, in its first state, and a browser that shows an empty page
abbrev pub IsTranscriptOf : Component → Schedule → List (List ℕ) → Type 0
IsTranscriptOf component schedule lines =
    Transcript (ends_of plain_machine (first_state component) schedule.window Turned (λ tree. tree.page.nodes)) (tree_of []) schedule.steps lines
