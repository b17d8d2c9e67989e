use Rattle.std.proofs.Common.{rules, ◌≡◌, Some, length, slice_get, take, refl}
use Rattle.std.proofs.lemmas.Option.{slice_get_read}
use Rattle.schedule_replay.proofs.Line.LeadLemmas.{running-after}
use Rattle.schedule_replay.proofs.Line.TurnLemmas.{Played, play-none, play-turn, play-few, play-done}
use Rattle.schedule_replay.proofs.replaying.play_all.Goals as goal

pub loop-step-init : goal.loop-step-init
loop-step-init g c =
    play-none g.S.Stage.machine g.S.Stage.stands g.T.Turns.first g.T.Turns.turns g.T.Turns.page g.V.Screen.tree c.args.line c.args.lines.now.items

pub play-requires-clause-few : goal.play-requires-clause-few
play-requires-clause-few g c =
    let there : slice_get c.args.steps.now c.loop-step.step-index ≡ Some c.step-item.result = slice_get_read c.args.steps.now (length c.args.steps.now) c.loop-step.step-index c.step-item.result refl (search rules) (search rules) in
    play-few g.S.Stage.machine g.S.Stage.stands g.T.Turns.first g.T.Turns.turns g.T.Turns.page g.V.Screen.tree c.args.line c.loop-step.line c.args.lines.now.items c.loop-step.lines.items
    c.args.steps.now c.loop-step.step-index c.step-item.result 4294967296 there c.requires.running c.loop-step.invariant c.requires.few

pub play-requires-clause-running : goal.play-requires-clause-running
play-requires-clause-running g c =
    running-after g.S.Stage.machine g.S.Stage.stands g.T.Turns.first g.T.Turns.turns g.T.Turns.page g.V.Screen.tree c.args.line c.loop-step.line c.args.lines.now.items c.loop-step.lines.items
    (Played g.S.Stage.machine g.S.Stage.stands g.T.Turns.first g.T.Turns.turns g.T.Turns.page g.V.Screen.tree (take c.loop-step.step-index c.args.steps.now)) c.requires.running c.loop-step.invariant

pub loop-step-preserved : goal.loop-step-preserved
loop-step-preserved g c =
    let there : slice_get c.args.steps.now c.loop-step.step-index ≡ Some c.step-item.result = slice_get_read c.args.steps.now (length c.args.steps.now) c.loop-step.step-index c.step-item.result refl (search rules) (search rules) in
    play-turn g.S.Stage.machine g.S.Stage.stands g.T.Turns.first g.T.Turns.turns g.T.Turns.page g.V.Screen.tree c.args.line c.loop-step.line c.in_ok-line.line
    c.args.lines.now.items c.loop-step.lines.items c.play.new.lines.items c.args.steps.now c.loop-step.step-index c.step-item.result there c.loop-step.invariant c.in_ok-line.ensures

pub returns : goal.returns
returns g c =
    let end : c.loop-step.step-index ≡ length c.args.steps.now = search rules in
    play-done g.S.Stage.machine g.S.Stage.stands g.T.Turns.first g.T.Turns.turns g.T.Turns.page g.V.Screen.tree c.args.line c.loop-step.line c.args.lines.now.items c.loop-step.lines.items
    c.args.steps.now c.loop-step.step-index end c.loop-step.invariant
