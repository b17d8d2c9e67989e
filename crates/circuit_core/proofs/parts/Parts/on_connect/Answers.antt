use Rattle.std.proofs.Common.{sym, ◌∙◌}
use Rattle.circuit_meaning.specs.declared.circuit.CircuitStatus.{CircuitStatus}
use Rattle.circuit_meaning.specs.declared.circuit.Rule.TheVariants.{Takes}
use Rattle.circuit_meaning.specs.Rules.{connect_rule}
use Rattle.circuit_meaning.specs.Circuit.State.{CircuitState}
use Rattle.circuit_meaning.specs.Circuit.Steps.{ConnectStep}
use Rattle.circuit_core.proofs.StepLemmas.{by_rule, by_no_rule, connect_not_taken}
use Rattle.circuit_core.proofs.parts.Parts.on_connect.Goals as goal

pub returns-in-Takes-clause-step : goal.returns-in-Takes-clause-step
returns-in-Takes-clause-step g c =
    by_rule g.S.Stage.machine g.S.Stage.stands _ _ (λ (status : CircuitStatus). connect_rule status c.args.applied c.args.got) Takes
    (λ rule (state : CircuitState g.S.Stage.machine.State) replies next. ConnectStep g.S.Stage.machine rule state c.args.connection c.args.applied c.args.got replies next) c.reconnect.result
    (sym c.in-Takes.is ∙ c.for_connect.ensures.rule) c.reconnect.ensures.step

pub returns-in_default-clause-step : goal.returns-in_default-clause-step
returns-in_default-clause-step g c =
    by_no_rule g.S.Stage.machine g.S.Stage.stands _ (λ (status : CircuitStatus). connect_rule status c.args.applied c.args.got) c.for_connect.result
    (λ rule (state : CircuitState g.S.Stage.machine.State) replies next. ConnectStep g.S.Stage.machine rule state c.args.connection c.args.applied c.args.got replies next) c.without_a_step.result
    c.for_connect.ensures.rule (λ state replies. connect_not_taken g.S.Stage.machine c.for_connect.result state c.args.connection c.args.applied c.args.got replies)
    c.for_connect.ensures.not_again c.in_default.not-Takes c.without_a_step.ensures
