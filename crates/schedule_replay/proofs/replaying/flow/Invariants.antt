use Rattle.schedule_replay.specs.Line.Standing.{LeadsLines}
use Rattle.schedule_replay.proofs.Line.FlowLemmas.{Many}
use Rattle.schedule_replay.proofs.replaying.flow.Given as goal

-- so many messages were delivered
abbrev pub invariant-loop-turn : goal.invariant-loop-turn
invariant-loop-turn g l =
    LeadsLines g.S.Stage.machine g.S.Stage.stands g.T.Turns.first g.T.Turns.turns g.T.Turns.page g.V.Screen.tree l.initial.line l.line l.initial.lines.items l.lines.items
    (λ ends state more after. Many ends l._turn state more after)
