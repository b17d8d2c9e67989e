use Rattle.std.proofs.Common.{◌∙◌, ap, max}
use Rattle.circuit_meaning.specs.declared.circuit.CircuitStatus.{CircuitStatus}
use Rattle.circuit_meaning.specs.Circuit.State.{forgetting}
use Rattle.circuit_core.proofs.TakingLemmas.{acknowledged}
use Rattle.circuit_core.proofs.parts.Parts.acknowledge.Goals as goal

pub returns-clause-step : goal.returns-clause-step
returns-clause-step g c = λ state st.
    let forgot = c.forget.ensures.step state st in
    let released = c.release.ensures.step _ forgot in
    let made = c.in_ok-make_batch.ensures.step _ released.2 in
    acknowledged g.S.Stage.machine g.S.Stage.stands state _ c.args.batch c.args.got _ _ _ released.0
    (c.max-acked.ensures ∙ ap (λ n. max n.acked c.args.batch) (c.forget.ensures.status ∙ ap (λ (n : CircuitStatus). forgetting n c.args.got) st.status))
    c.new-replies.ensures.items released.1 made
