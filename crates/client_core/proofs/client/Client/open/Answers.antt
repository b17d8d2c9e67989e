use Rattle.std.proofs.Common.{ℕ, [], refl, ap}
use Rattle.circuit_meaning.specs.Browser.Greeting.{event_messages}
use Rattle.client_core.proofs.PieceLemmas.{spelled_none}
use Rattle.client_core.proofs.client.Client.open.Goals as goal

pub returns-clause-step : goal.returns-clause-step
returns-clause-step g c =
    let events = c.args.self.now.unanswered in
    let sent = c.in_ok-send.ensures [] (spelled_none c.new-ups.result c.new-ups.ensures.items) in
    (event_messages c.got.result events, sent, (refl, ap (λ (got : ℕ). event_messages got events) c.got.ensures, refl))
