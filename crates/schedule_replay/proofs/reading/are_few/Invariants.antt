use Rattle.std.proofs.Common.{◌≡◌, ◌-◌, ◌^◌, min, take}
use Rattle.schedule_replay.specs.Schedule.{weights}
use Rattle.schedule_replay.proofs.reading.are_few.Given as goal

abbrev pub invariant-loop-step : goal.invariant-loop-step
invariant-loop-step l = l.total ≡ min (weights (take l.step-index l.steps)) (2 ^ 64 - 1)
