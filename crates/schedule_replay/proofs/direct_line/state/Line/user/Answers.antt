use Rattle.std.proofs.Common.{rules, ◌≡◌, ◌+◌, refl, None, length, ℕ, List, subst}
use Rattle.circuit_meaning.specs.Browser.Asks.{Asks}
use Rattle.client_core.specs.Pieces.{pieces_of}
use Rattle.client_core.specs.Standing.{browser_of}
use Rattle.hub_messages.specs.Screen.{found_at}
use Rattle.schedule_replay.specs.Line.Lines.{line_text, user_text}
use Rattle.schedule_replay.specs.Line.State.{numbers_between}
use Rattle.schedule_replay.specs.Line.Steps.{ends_of}
use Rattle.schedule_replay.specs.Texts.{asked_text}
use Rattle.schedule_replay.proofs.Line.StandingLemmas.{user-stands}
use Rattle.schedule_replay.proofs.direct_line.state.Line.user.Goals as goal

pub returns : goal.returns
returns g c = λ stage begins state stood.
    let sent = c.in_ok-asked.ensures.step in
    let event = c.args.step.now.event in
    let AsksOn : List ℕ → Type 0 = λ path. Asks (λ tree. found_at (g.T.Turns.page tree) path event) event None
    (browser_of g.V.Screen.tree c.args.self.client) c.in_ok-asked.asked sent.0 (browser_of g.V.Screen.tree c.user.new.self) in
    let asks : AsksOn c.args.step.now.path = subst AsksOn c.as_slice.ensures sent.2 in
    let text : c.in_ok-text.text ≡ line_text (c.args.self.steps + 1) (user_text c.args.step.now.path c.args.step.now.event) (asked_text c.in_ok-asked.asked)
    (numbers_between (length c.args.self.messages.items) (length c.send_up.new.messages.items)) None = search rules in
    let made = user-stands (ends_of g.S.Stage.machine stage c.args.self.window g.T.Turns.turns g.T.Turns.page) g.T.Turns.first g.S.Stage.stands g.V.Screen.tree
    c.args.self _ state c.args.step.now.path c.args.step.now.event c.in_ok-asked.asked sent.0 (pieces_of c.in_ok-asked.ups) c.in_ok-text.text stood asks sent.1 refl c.in_ok-send_up.ensures refl refl text in
    (made.0, made.1, refl, made.2)
