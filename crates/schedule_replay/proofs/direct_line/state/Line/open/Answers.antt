use Rattle.std.proofs.Common.{rules, ◌≡◌, ◌+◌, refl, None, length}
use Rattle.std.specs.Prelude.{codes}
use Rattle.client_core.specs.Pieces.{pieces_of}
use Rattle.schedule_replay.specs.Line.Lines.{line_text}
use Rattle.schedule_replay.specs.Line.State.{connection, numbers_between}
use Rattle.schedule_replay.specs.Line.Steps.{ends_of}
use Rattle.schedule_replay.specs.Texts.{numbered}
use Rattle.schedule_replay.proofs.Line.StandingLemmas.{open-stands}
use Rattle.schedule_replay.proofs.direct_line.state.Line.open.Goals as goal

pub returns : goal.returns
returns g c = λ stage begins state stood.
    let sent = c.in_ok-ups.ensures.step in
    let text : c.in_ok-text.text ≡ line_text (c.args.self.steps + 1) (codes "open 0") (numbered (codes "connection") connection)
    (numbers_between (length c.args.self.messages.items) (length c.send_up.new.messages.items)) None = search rules in
    let made = open-stands (ends_of g.S.Stage.machine stage c.args.self.window g.T.Turns.turns g.T.Turns.page) g.T.Turns.first g.S.Stage.stands g.V.Screen.tree
    c.args.self _ state sent.0 (pieces_of c.in_ok-ups.ups) c.in_ok-text.text stood sent.2 sent.1 refl c.in_ok-send_up.ensures refl refl text in
    (made.0, made.1, refl, made.2)
