use Rattle.std.proofs.Common.{sym, ◌∙◌}
use Rattle.circuit_meaning.specs.declared.circuit.CircuitStatus.{CircuitStatus}
use Rattle.circuit_meaning.specs.declared.circuit.Rule.TheVariants.{Takes}
use Rattle.circuit_meaning.specs.Rules.{ack_rule}
use Rattle.circuit_meaning.specs.Circuit.State.{CircuitState}
use Rattle.circuit_meaning.specs.Circuit.Steps.{AckStep}
use Rattle.circuit_core.proofs.StepLemmas.{by_rule, by_no_rule, ack_not_taken}
use Rattle.circuit_core.proofs.parts.Parts.on_ack.Goals as goal

pub returns-in-Takes-clause-step : goal.returns-in-Takes-clause-step
returns-in-Takes-clause-step g c =
    by_rule g.S.Stage.machine g.S.Stage.stands _ _ (λ (status : CircuitStatus). ack_rule status c.args.connection c.args.batch c.args.got) Takes
    (λ rule (state : CircuitState g.S.Stage.machine.State) replies next. AckStep g.S.Stage.machine rule state c.args.batch c.args.got replies next) c.acknowledge.result
    (sym c.in-Takes.is ∙ c.for_ack.ensures.rule) c.acknowledge.ensures.step

pub returns-in_default-clause-step : goal.returns-in_default-clause-step
returns-in_default-clause-step g c =
    by_no_rule g.S.Stage.machine g.S.Stage.stands _ (λ (status : CircuitStatus). ack_rule status c.args.connection c.args.batch c.args.got) c.for_ack.result
    (λ rule (state : CircuitState g.S.Stage.machine.State) replies next. AckStep g.S.Stage.machine rule state c.args.batch c.args.got replies next) c.without_a_step.result
    c.for_ack.ensures.rule (λ state replies. ack_not_taken g.S.Stage.machine c.for_ack.result state c.args.batch c.args.got replies)
    c.for_ack.ensures.not_again c.in_default.not-Takes c.without_a_step.ensures
