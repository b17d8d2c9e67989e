use Rattle.std.proofs.Common.{rules, ◌≡◌, ◌++◌, ◌∷◌, [], sym, subst}
use Rattle.schedule_replay.specs.declared.schedule.Step.{Step}
use Rattle.schedule_replay.specs.Line.Steps.{OpenStep, UserStep}
use Rattle.schedule_replay.specs.Line.Transcript.{StepLines}
use Rattle.schedule_replay.proofs.Line.ServerLemmas.{if-ok}
use Rattle.schedule_replay.proofs.Line.TurnLemmas.{Lines, one-line}
use Rattle.schedule_replay.proofs.replaying.play.Goals as goal

pub returns-in_ok-push-in-Open : goal.returns-in_ok-push-in-Open
returns-in_ok-push-in-Open g c =
    let pushed : c.push.new.self.items ≡ c.args.lines.now.items ++ c.in_ok-next-in-Open.text ∷ [] = search rules in
    subst (λ (s : Step). Lines g.S.Stage.machine g.S.Stage.stands g.T.Turns.first g.T.Turns.turns g.T.Turns.page g.V.Screen.tree c.args.line c.in_ok-next-in-Open.next c.args.lines.now.items c.push.new.self.items
    (λ ends state more after. StepLines ends s state more after)) (sym c.in-Open.is)
    (one-line g.S.Stage.machine g.S.Stage.stands g.T.Turns.first g.T.Turns.turns g.T.Turns.page g.V.Screen.tree c.args.line c.in_ok-next-in-Open.next c.args.lines.now.items c.push.new.self.items
    c.in_ok-next-in-Open.text (λ ends before line after. OpenStep ends before line after) pushed c.in_ok-next-in-Open.ensures)

pub returns-in_ok-push-in-User : goal.returns-in_ok-push-in-User
returns-in_ok-push-in-User g c =
    let pushed : c.push-in-User.new.self.items ≡ c.args.lines.now.items ++ c.in_ok-next-in-User.text ∷ [] = search rules in
    subst (λ (s : Step). Lines g.S.Stage.machine g.S.Stage.stands g.T.Turns.first g.T.Turns.turns g.T.Turns.page g.V.Screen.tree c.args.line c.in_ok-next-in-User.next c.args.lines.now.items c.push-in-User.new.self.items
    (λ ends state more after. StepLines ends s state more after)) (sym c.in-User.is)
    (one-line g.S.Stage.machine g.S.Stage.stands g.T.Turns.first g.T.Turns.turns g.T.Turns.page g.V.Screen.tree c.args.line c.in_ok-next-in-User.next c.args.lines.now.items c.push-in-User.new.self.items
    c.in_ok-next-in-User.text (λ ends before line after. UserStep ends c.in-User.user.path c.in-User.user.event before line after) pushed c.in_ok-next-in-User.ensures)

pub returns-in-Flow : goal.returns-in-Flow
returns-in-Flow g c =
    if-ok c.flow.result _ _
    (λ next leads. subst (λ (s : Step). Lines g.S.Stage.machine g.S.Stage.stands g.T.Turns.first g.T.Turns.turns g.T.Turns.page g.V.Screen.tree c.args.line next c.args.lines.now.items c.flow.new.lines.items
    (λ ends state more after. StepLines ends s state more after)) (sym c.in-Flow.is) leads)
    c.flow.ensures
