use Rattle.std.proofs.Common.{rules, ◌≡◌, ◌+◌, refl, None, length, subst}
use Rattle.std.specs.List.{AllZip}
use Rattle.hub_messages.specs.Spelling.Spells.{SpellsDown}
use Rattle.schedule_replay.specs.Every.{Every}
use Rattle.schedule_replay.specs.Line.InStep.{IsShortReply}
use Rattle.std.specs.Prelude.{codes}
use Rattle.schedule_replay.specs.Line.Lines.{exchange_text, line_text}
use Rattle.schedule_replay.specs.Line.State.{numbers_between}
use Rattle.schedule_replay.specs.Line.Steps.{ends_of}
use Rattle.schedule_replay.specs.Texts.{numbered}
use Rattle.schedule_replay.proofs.Line.InStepLemmas.{served-short, serves-served}
use Rattle.schedule_replay.proofs.Line.StandingLemmas.{up-stands}
use Rattle.schedule_replay.proofs.direct_line.state.Line.deliver_up.Goals as goal

pub send_down-requires : goal.send_down-requires
send_down-requires g c =
    let run = c.requires.running in
    let ends = ends_of g.S.Stage.machine run.0 c.args.self.window g.T.Turns.turns g.T.Turns.page in
    let served = c.in_ok-server.ensures run.0 run.1 run.2.circuit run.3.server in
    let same : c.in_ok-server.replies.items ≡ c.deref.result.now = search rules in
    subst (λ replies. Every IsShortReply replies) same (served-short ends g.T.Turns.first run.2.circuit served.0 c.in_ok-server.replies.items
    (serves-served ends g.T.Turns.first g.met.S.Stage.lawful run.1 run.2.circuit c.args.message.now served.0 c.in_ok-server.replies.items run.3.in_step.circuit served.2))

pub returns : goal.returns
returns g c = λ stage begins state stood.
    let served = c.in_ok-server.ensures stage begins state.circuit stood.server in
    let sent = c.in_ok-send_down.ensures in
    let same : c.deref.result.now ≡ c.in_ok-server.replies.items = search rules in
    let spelled : AllZip SpellsDown sent.0 c.in_ok-server.replies.items = subst (λ replies. AllZip SpellsDown sent.0 replies) same sent.2 in
    let text : c.in_ok-text.text ≡ line_text (c.args.self.steps + 1) (numbered (codes "deliver") (c.args.self.delivered + 1)) (exchange_text c.args.message.now c.in_ok-server.replies.items)
    (numbers_between (length c.args.self.messages.items) (length c.send_down.new.messages.items)) None = search rules in
    let made = up-stands (ends_of g.S.Stage.machine stage c.args.self.window g.T.Turns.turns g.T.Turns.page) g.T.Turns.first g.S.Stage.stands g.V.Screen.tree g.met.S.Stage.lawful begins
    c.args.self _ state c.args.message.now c.in_ok-server.replies.items served.0 sent.0 c.in_ok-text.text stood served.2 served.1 spelled refl sent.1 refl refl text in
    (made.0, made.1, refl, made.2)
