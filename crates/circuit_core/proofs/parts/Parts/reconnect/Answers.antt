use Rattle.std.proofs.Common.{rules, ◌≡◌, ◌+◌, ◌∷◌, ◌++◌, [], None, Some, length, refl, sym, ◌∙◌, ap, arith}
use Rattle.hub_messages.specs.declared.down.Down.TheVariants.{Connected}
use Rattle.circuit_meaning.specs.Circuit.Steps.{outcomes_from, batches_from}
use Rattle.circuit_core.proofs.TakingLemmas.{stands_bound, connected, reconnected}
use Rattle.circuit_core.proofs.parts.Parts.reconnect.Goals as goal

pub push_outcomes-requires : goal.push_outcomes-requires
push_outcomes-requires g c = omega (arith, c.release.ensures.whole.remembered, ap length c.deref.ensures.value, ap (λ n. n.last) c.release.ensures.status, ap (λ n. n.last) c.forget.ensures.status)

pub push_batches-requires : goal.push_batches-requires
push_batches-requires g c = omega (arith, c.release.ensures.whole.unacknowledged, ap length c.deref-2.ensures.value, ap (λ n. n.sent) c.release.ensures.status, ap (λ n. n.acked) c.release.ensures.status, ap (λ n. n.sent) c.forget.ensures.status)

pub returns-clause-step : goal.returns-clause-step
returns-clause-step g c = λ state st.
    let alive : state.status.ended ≡ None = ap (λ n. n.ended) (sym st.status) ∙ c.requires.runs in
    let forgot = c.forget.ensures.step state st in
    let released = c.release.ensures.step _ forgot in
    let runs = released.2.runs alive in
    let bound = stands_bound g.S.Stage.stands _ _ _ (Some c.args.connection) released.2 refl in
    let made = c.in_ok-make_batch.ensures.step _ bound in
    let first : c.push.new.self.items ≡ Connected c.release.new.self.status.sent c.release.new.self.status.last ∷ [] = search rules in
    let second : c.push_outcomes.new.replies.items ≡ c.push.new.self.items ++ outcomes_from (c.release.new.self.status.forgotten + 1) c.release.new.self.outcomes.items = search rules in
    let third : c.push_batches.new.replies.items ≡ c.push_outcomes.new.replies.items ++ batches_from (c.args.applied + 1) c.release.new.self.batches.items = search rules in
    let said = connected c.release.new.self.status _ state.batches state.outcomes c.args.applied _ _ _ _ _ released.2.status first second third runs.outcomes runs.batches in
    reconnected g.S.Stage.machine g.S.Stage.stands state _ c.args.connection c.args.applied c.args.got _ _ released.0 released.1 said made
