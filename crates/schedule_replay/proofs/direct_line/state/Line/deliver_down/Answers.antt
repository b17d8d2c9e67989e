use Rattle.std.proofs.Common.{rules, ◌≡◌, ◌+◌, refl, length, ℕ, List, subst}
use Rattle.std.specs.Prelude.{codes}
use Rattle.circuit_meaning.specs.Browser.Bytes.{ReceivesBytes}
use Rattle.client_core.specs.Pieces.{pieces_of}
use Rattle.client_core.specs.Standing.{browser_of}
use Rattle.schedule_replay.specs.Line.Lines.{line_text, shown_after}
use Rattle.schedule_replay.specs.Line.State.{connection, numbers_between}
use Rattle.schedule_replay.specs.Line.Steps.{ends_of}
use Rattle.schedule_replay.specs.Texts.{answer_text, numbered}
use Rattle.schedule_replay.proofs.Line.StandingLemmas.{down-stands}
use Rattle.schedule_replay.proofs.direct_line.state.Line.deliver_down.Goals as goal

pub returns : goal.returns
returns g c = λ message spells stage begins state found stood.
    let ReceivesOf : List ℕ → Type 0 = λ bytes. ReceivesBytes g.T.Turns.turns connection bytes
    (browser_of g.V.Screen.tree c.args.self.client) c.in_ok-got.got (pieces_of c.in_ok-got.ups) (browser_of g.V.Screen.tree c.receive.new.self) in
    let receives : ReceivesOf c.args.bytes.now = subst ReceivesOf c.as_slice.ensures c.in_ok-got.ensures.step in
    let text : c.in_ok-text.text ≡ line_text (c.args.self.steps + 1) (numbered (codes "deliver") (c.args.self.delivered + 1)) (answer_text c.in_ok-got.got)
    (numbers_between (length c.args.self.messages.items) (length c.send_up.new.messages.items))
    (shown_after c.in_ok-got.got (g.T.Turns.page (browser_of g.V.Screen.tree c.receive.new.self).tree)) = search rules in
    let made = down-stands (ends_of g.S.Stage.machine stage c.args.self.window g.T.Turns.turns g.T.Turns.page) g.T.Turns.first g.S.Stage.stands g.V.Screen.tree g.T.Turns.one_tree g.T.Turns.one_count
    c.args.self _ state message c.args.bytes.now c.in_ok-got.got (pieces_of c.in_ok-got.ups) c.in_ok-text.text stood found spells receives refl c.in_ok-send_up.ensures refl refl text in
    (made.0, made.1, refl, made.2)
