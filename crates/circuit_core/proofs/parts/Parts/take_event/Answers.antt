use Rattle.std.proofs.Common.{rules, ◌≡◌, ◌+◌, ◌≤◌, ◌∷◌, ◌++◌, [], None, Some, max, refl, sym, ◌∙◌, ap, arith, option_copied}
use Rattle.hub_messages.specs.declared.stage.Acted.TheVariants as ac
use Rattle.circuit_meaning.specs.declared.circuit.CircuitStatus.{CircuitStatus}
use Rattle.circuit_meaning.specs.Circuit.State.{forgetting}
use Rattle.circuit_core.proofs.TakingLemmas.{stands_taken, took, broke}
use Rattle.circuit_core.proofs.parts.Parts.take_event.Goals as goal

pub returns-in_ok-make_batch-in-Outcome-clause-step : goal.returns-in_ok-make_batch-in-Outcome-clause-step
returns-in_ok-make_batch-in-Outcome-clause-step g c = λ state st.
    let forgot = c.forget.ensures.step state st in
    let alive : state.status.ended ≡ None = ap (λ n. n.ended) (sym st.status) ∙ c.requires.runs in
    let runs = forgot.runs alive in
    let act = c.in_ok-outcome.ensures.step state.stage runs.stage in
    let acts : g.S.Stage.machine.Acts state.stage c.args.handler c.args.name.now (option_copied c.args.text) (ac.Outcome c.in-Outcome.outcome) act.0 = rw c.in-Outcome.is at act.2 in
    let kept : c.push.new.self.items ≡ c.forget.new.self.outcomes.items ++ c.in-Outcome.outcome ∷ [] = search rules in
    let below : max state.status.forgotten c.args.got ≤ state.status.last = omega (arith, c.requires.whole.remembered, ap (λ n. n.forgotten) st.status, ap (λ n. n.last) st.status) in
    let next : c.args.number ≡ state.status.last + 1 = c.requires.number ∙ ap (λ n. n.last + 1) st.status in
    let stands = stands_taken g.S.Stage.stands _ _ _ c.args.number act.0 _ forgot alive below next act.1 refl refl kept in
    took g.S.Stage.machine g.S.Stage.stands state _ c.args.number _ _ _ _ c.push-in-Outcome.new.self.items _ c.in-Outcome.outcome act.0 acts (search rules) (c.in_ok-make_batch-in-Outcome.ensures.step _ stands)

pub returns-in_ok-push-in-Fault-clause-step : goal.returns-in_ok-push-in-Fault-clause-step
returns-in_ok-push-in-Fault-clause-step g c = λ state st.
    let forgot = c.forget.ensures.step state st in
    let alive : state.status.ended ≡ None = ap (λ n. n.ended) (sym st.status) ∙ c.requires.runs in
    let runs = forgot.runs alive in
    let act = c.in_ok-outcome.ensures.step state.stage runs.stage in
    let acts : g.S.Stage.machine.Acts state.stage c.args.handler c.args.name.now (option_copied c.args.text) (ac.Fault c.in-Fault.fault) act.0 = rw c.in-Fault.is at act.2 in
    let same : c.forget.new.self.status ≡ forgetting state.status c.args.got = c.forget.ensures.status ∙ ap (λ (n : CircuitStatus). forgetting n c.args.got) st.status in
    broke g.S.Stage.machine g.S.Stage.stands state _ c.args.number _ _ _ _ c.push-in-Fault.new.self.items c.in-Fault.fault act.0 acts (search rules)
    (ap (λ (n : CircuitStatus). record n { last = c.args.number; ended = Some c.in-Fault.fault }) same)
