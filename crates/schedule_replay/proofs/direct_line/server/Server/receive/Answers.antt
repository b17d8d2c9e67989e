use Rattle.schedule_replay.proofs.Line.ServerLemmas.{if-ok, serving-receives, waiting-starts}
use Rattle.schedule_replay.proofs.direct_line.server.Server.receive.Goals as goal

pub returns-in-Start : goal.returns-in-Start
returns-in-Start g c =
    if-ok c.begin.result _ _
    (λ answer begins first is_first before stood.
    waiting-starts g.S.Stage.machine g.S.Stage.stands first c.args.window c.args.self answer.0 c.in-Waiting.stage c.args.message.now answer.1.items c.in-Start.is (begins first is_first) before c.in-Waiting.is stood)
    c.begin.ensures

pub returns-in_ok-replies-in_default-message : goal.returns-in_ok-replies-in_default-message
returns-in_ok-replies-in_default-message g c = λ first is_first before stood.
    serving-receives g.S.Stage.machine g.S.Stage.stands first c.args.window c.args.self c.in-Serving.circuit c.step.new.self c.args.message.now c.in_ok-replies-in_default-message.replies.items
    c.in_default-message.not-Start c.in_ok-replies-in_default-message.ensures.step before c.in-Serving.is stood
