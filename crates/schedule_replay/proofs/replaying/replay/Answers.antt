use Rattle.std.proofs.Common.{rules, ◌≡◌, ◌++◌, ◌∷◌, [], List, subst}
use Rattle.std.specs.Prelude.{codes}
use Rattle.schedule_replay.specs.Texts.{numbered}
use Rattle.schedule_replay.specs.declared.schedule.Step.{Step}
use Rattle.schedule_replay.proofs.Line.TurnLemmas.{Lines, Played, running-first, transcript-whole}
use Rattle.schedule_replay.proofs.replaying.replay.Goals as goal

pub play_all-requires-clause-running : goal.play_all-requires-clause-running
play_all-requires-clause-running g c =
    let stage = c.requires.stage in
    running-first g.S.Stage.machine g.S.Stage.stands g.T.Turns.first g.T.Turns.turns g.T.Turns.page g.V.Screen.tree c.new-line.result c.args.schedule.now.window stage.0 stage.1
    c.new-line.ensures.window (c.new-line.ensures.stands stage.0 stage.1 stage.2)

pub returns : goal.returns
returns g c = λ first begins stood.
    let none : c.new-lines.result.items ≡ [] = search rules in
    let last : c.in_ok-done_line.field-0 ≡ numbered (codes "done") c.in_ok-line.line.steps = search rules in
    let all : c.push.new.self.items ≡ c.play_all.new.lines.items ++ c.in_ok-done_line.field-0 ∷ [] = search rules in
    let leads : Lines g.S.Stage.machine g.S.Stage.stands g.T.Turns.first g.T.Turns.turns g.T.Turns.page g.V.Screen.tree c.new-line.result c.in_ok-line.line c.new-lines.result.items c.play_all.new.lines.items
    (Played g.S.Stage.machine g.S.Stage.stands g.T.Turns.first g.T.Turns.turns g.T.Turns.page g.V.Screen.tree c.args.schedule.now.steps) =
    subst (λ (steps : List Step). Lines g.S.Stage.machine g.S.Stage.stands g.T.Turns.first g.T.Turns.turns g.T.Turns.page g.V.Screen.tree c.new-line.result c.in_ok-line.line c.new-lines.result.items c.play_all.new.lines.items
    (Played g.S.Stage.machine g.S.Stage.stands g.T.Turns.first g.T.Turns.turns g.T.Turns.page g.V.Screen.tree steps)) c.as_slice.ensures c.in_ok-line.ensures in
    transcript-whole g.S.Stage.machine g.S.Stage.stands g.T.Turns.first g.T.Turns.turns g.T.Turns.page g.V.Screen.tree c.new-line.result c.in_ok-line.line
    c.new-lines.result.items c.play_all.new.lines.items c.push.new.self.items c.in_ok-done_line.field-0 c.args.schedule.now.steps c.args.schedule.now.window first begins
    c.new-line.ensures.window (c.new-line.ensures.stands first begins stood) none leads last all
