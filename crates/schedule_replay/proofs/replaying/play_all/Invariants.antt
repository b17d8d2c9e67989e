use Rattle.std.proofs.Common.{take}
use Rattle.schedule_replay.specs.Line.Standing.{LeadsLines}
use Rattle.schedule_replay.specs.Line.Transcript.{Runs}
use Rattle.schedule_replay.proofs.replaying.play_all.Given as goal

-- the steps so far were made
abbrev pub invariant-loop-step : goal.invariant-loop-step
invariant-loop-step g l =
    LeadsLines g.S.Stage.machine g.S.Stage.stands g.T.Turns.first g.T.Turns.turns g.T.Turns.page g.V.Screen.tree l.initial.line l.line l.initial.lines.items l.lines.items
    (λ ends state more after. Runs ends (take l.step-index l.steps) state more after)
