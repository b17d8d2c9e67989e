use Rattle.std.proofs.Common.{sym, ◌∙◌, option_copied}
use Rattle.circuit_meaning.specs.declared.circuit.CircuitStatus.{CircuitStatus}
use Rattle.circuit_meaning.specs.declared.circuit.Rule.TheVariants.{Again, Takes}
use Rattle.circuit_meaning.specs.Rules.{event_rule}
use Rattle.circuit_meaning.specs.Circuit.State.{CircuitState}
use Rattle.circuit_meaning.specs.Circuit.Steps.{EventStep}
use Rattle.circuit_core.proofs.StepLemmas.{by_rule, by_no_rule, event_not_taken}
use Rattle.circuit_core.proofs.parts.Parts.on_event.Goals as goal

pub returns-in-Again-clause-step : goal.returns-in-Again-clause-step
returns-in-Again-clause-step g c =
    by_rule g.S.Stage.machine g.S.Stage.stands _ _ (λ (status : CircuitStatus). event_rule status c.args.connection c.args.number c.args.got) Again
    (λ rule (state : CircuitState g.S.Stage.machine.State) replies next. EventStep g.S.Stage.machine rule state c.args.number c.args.handler c.args.got c.args.name.now (option_copied c.args.text) replies next) c.tell_again.result
    (sym c.in-Again.is ∙ c.for_event.ensures.rule) c.tell_again.ensures.step

pub returns-in-Takes-clause-step : goal.returns-in-Takes-clause-step
returns-in-Takes-clause-step g c =
    by_rule g.S.Stage.machine g.S.Stage.stands _ _ (λ (status : CircuitStatus). event_rule status c.args.connection c.args.number c.args.got) Takes
    (λ rule (state : CircuitState g.S.Stage.machine.State) replies next. EventStep g.S.Stage.machine rule state c.args.number c.args.handler c.args.got c.args.name.now (option_copied c.args.text) replies next) c.take_event.result
    (sym c.in-Takes.is ∙ c.for_event.ensures.rule) c.take_event.ensures.step

pub returns-in_default-clause-step : goal.returns-in_default-clause-step
returns-in_default-clause-step g c =
    by_no_rule g.S.Stage.machine g.S.Stage.stands _ (λ (status : CircuitStatus). event_rule status c.args.connection c.args.number c.args.got) c.for_event.result
    (λ rule (state : CircuitState g.S.Stage.machine.State) replies next. EventStep g.S.Stage.machine rule state c.args.number c.args.handler c.args.got c.args.name.now (option_copied c.args.text) replies next) c.without_a_step.result
    c.for_event.ensures.rule (λ state replies. event_not_taken g.S.Stage.machine c.for_event.result state c.args.number c.args.handler c.args.got c.args.name.now (option_copied c.args.text) replies)
    c.in_default.not-Again c.in_default.not-Takes c.without_a_step.ensures
