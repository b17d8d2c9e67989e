use Rattle.std.proofs.Common.{sym, subst, IfOk}
use Rattle.hub_messages.specs.declared.up.Up.{Up}
use Rattle.circuit_meaning.specs.Circuit.Steps.{Step}
use Rattle.circuit_core.specs.Parts.{kept_of}
use Rattle.circuit_core.specs.Standing.{Leads}
use Rattle.circuit_core.proofs.parts.Parts.step.Goals as goal

pub returns-in-Connect-clause-step : goal.returns-in-Connect-clause-step
returns-in-Connect-clause-step g c =
    subst (λ (message : Up). IfOk c.on_connect.result (λ replies. Leads g.S.Stage.machine g.S.Stage.stands (kept_of c.args.self.now) (kept_of c.on_connect.new.self)
    (λ state next. Step g.S.Stage.machine state c.args.connection message replies.items next))) (sym c.in-Connect.is) c.on_connect.ensures.step

pub returns-in-Event-clause-step : goal.returns-in-Event-clause-step
returns-in-Event-clause-step g c =
    subst (λ (message : Up). IfOk c.on_event.result (λ replies. Leads g.S.Stage.machine g.S.Stage.stands (kept_of c.args.self.now) (kept_of c.on_event.new.self)
    (λ state next. Step g.S.Stage.machine state c.args.connection message replies.items next))) (sym c.in-Event.is) (rw c.as_ref.ensures.value at c.on_event.ensures.step)

pub returns-in-Ack-clause-step : goal.returns-in-Ack-clause-step
returns-in-Ack-clause-step g c =
    subst (λ (message : Up). IfOk c.on_ack.result (λ replies. Leads g.S.Stage.machine g.S.Stage.stands (kept_of c.args.self.now) (kept_of c.on_ack.new.self)
    (λ state next. Step g.S.Stage.machine state c.args.connection message replies.items next))) (sym c.in-Ack.is) c.on_ack.ensures.step
