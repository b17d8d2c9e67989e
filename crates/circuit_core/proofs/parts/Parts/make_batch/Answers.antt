use Rattle.std.proofs.Common.{rules, ◌≡◌, true, false, sym, ◌∙◌, ap, refl, arith}
use Rattle.std.proofs.lemmas.Grind.{common_steps}
use Rattle.std.proofs.lemmas.Bool.Decides.{nat_tests}
use Rattle.circuit_meaning.specs.Circuit.Batches.{is_spent}
use Rattle.circuit_core.proofs.MakingLemmas.{made_none, made_batch, made_fault, made_spent}
use Rattle.circuit_core.proofs.parts.Parts.make_batch.Goals as goal

pub returns-then-not-is_due-clause-step : goal.returns-then-not-is_due-clause-step
returns-then-not-is_due-clause-step g c = λ state st.
    made_none g.S.Stage.machine g.S.Stage.stands state _ _ st
    (sym (c.is_due.ensures state st) ∙ grind (arith, common_steps, c.if-not-is_due.ensures, c.if-not-is_due.true))

pub returns-then-sent-clause-step : goal.returns-then-sent-clause-step
returns-then-sent-clause-step g c = λ state st.
    let sent = ap (λ n. n.sent) st.status in
    let spent : is_spent state.status ≡ true = grind (arith, nat_tests) in
    made_spent g.S.Stage.machine g.S.Stage.stands state _ _ _ _ st
    (sym (c.is_due.ensures state st) ∙ grind (arith, common_steps, c.if-not-is_due.ensures, c.if-not-is_due.false))
    spent refl (search rules)

pub returns-in_ok-push-in-Batch-2-clause-step : goal.returns-in_ok-push-in-Batch-2-clause-step
returns-in_ok-push-in-Batch-2-clause-step g c = λ state st.
    let runs = st.runs (ap (λ n. n.ended) (sym st.status) ∙ c.requires.runs) in
    let step = c.in_ok-bytes.ensures.step state.stage runs.stage in
    let renders = rw c.in-Batch.is at step.2 in
    let sent = ap (λ n. n.sent) st.status in
    let unspent : is_spent state.status ≡ false = grind (arith, nat_tests) in
    made_batch g.S.Stage.machine g.S.Stage.stands state _ _ _ _ _ step.0 st c.requires.runs (omega (arith, c.requires.whole.unacknowledged))
    (sym (c.is_due.ensures state st) ∙ grind (arith, common_steps, c.if-not-is_due.ensures, c.if-not-is_due.false))
    unspent renders step.1 refl (search rules) refl (search rules)

pub returns-in_ok-push-in-Fault-clause-step : goal.returns-in_ok-push-in-Fault-clause-step
returns-in_ok-push-in-Fault-clause-step g c = λ state st.
    let runs = st.runs (ap (λ n. n.ended) (sym st.status) ∙ c.requires.runs) in
    let step = c.in_ok-bytes.ensures.step state.stage runs.stage in
    let renders = rw c.in-Fault.is at step.2 in
    let sent = ap (λ n. n.sent) st.status in
    let unspent : is_spent state.status ≡ false = grind (arith, nat_tests) in
    made_fault g.S.Stage.machine g.S.Stage.stands state _ _ _ _ _ step.0 st
    (sym (c.is_due.ensures state st) ∙ grind (arith, common_steps, c.if-not-is_due.ensures, c.if-not-is_due.false))
    unspent renders refl (search rules)
