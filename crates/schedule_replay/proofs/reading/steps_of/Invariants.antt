use Rattle.std.proofs.Common.{◌≡◌, ◌+◌, drop, false}
use Rattle.serde_json.specs.View.{items_view}
use Rattle.schedule_replay.specs.Schedule.{behind_steps, steps_from}
use Rattle.schedule_replay.proofs.reading.steps_of.Given as goal

abbrev pub invariant-loop-i : goal.invariant-loop-i
invariant-loop-i l =
    steps_from 1 false (items_view l.values) ≡ behind_steps l.steps (steps_from (l.i + 1) l.opened (items_view (drop l.i l.values)))
