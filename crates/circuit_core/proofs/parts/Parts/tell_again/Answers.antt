use Rattle.std.proofs.Common.{rules, ◌≡◌, ◌-◌, ◌∷◌, [], None, max, drop, get_or, refl, sym, ◌∙◌, ap, arith}
use Rattle.hub_messages.specs.declared.down.Down.TheVariants.{Outcome as Told}
use Rattle.circuit_meaning.specs.declared.circuit.CircuitStatus.{CircuitStatus}
use Rattle.circuit_meaning.specs.Circuit.State.{forgetting}
use Rattle.circuit_core.proofs.TakingLemmas.{outcome_again-none, outcome_again-some}
use Rattle.circuit_core.proofs.parts.Parts.tell_again.Goals as goal

pub returns-then-number-self-clause-step : goal.returns-then-number-self-clause-step
returns-then-number-self-clause-step g c = λ state st.
    let same : c.forget.new.self.status ≡ forgetting state.status c.args.got = c.forget.ensures.status ∙ ap (λ (n : CircuitStatus). forgetting n c.args.got) st.status in (
      record state { status = forgetting state.status c.args.got },
      c.forget.ensures.step state st,
      (
        c.new-replies.ensures.items ∙ outcome_again-none state.outcomes (forgetting state.status c.args.got) c.args.number (omega (arith, ap (λ n. n.forgotten) same)),
        refl,
      ),
    )

pub returns-clause-step : goal.returns-clause-step
returns-clause-step g c = λ state st.
    let forgot = c.forget.ensures.step state st in
    let alive : state.status.ended ≡ None = ap (λ n. n.ended) (sym st.status) ∙ c.requires.runs in
    let runs = forgot.runs alive in
    let same : c.forget.new.self.status ≡ forgetting state.status c.args.got = c.forget.ensures.status ∙ ap (λ (n : CircuitStatus). forgetting n c.args.got) st.status in
    let says : c.push.new.self.items ≡ Told c.args.number c.index.result.now ∷ [] = search rules in
    let found : c.index.result.now ≡ get_or (drop (max state.status.forgotten c.args.got) state.outcomes) (c.args.number - max state.status.forgotten c.args.got - 1) c.index.result.now = cc (c.index.ensures, runs.outcomes, ap (λ n. n.forgotten) same) in (
      record state { status = forgetting state.status c.args.got },
      forgot,
      (
        says ∙ ap (λ o. Told c.args.number o ∷ []) found ∙ sym (outcome_again-some state.outcomes (forgetting state.status c.args.got) c.args.number c.index.result.now
            (omega (arith, ap (λ n. n.forgotten) same)) (omega (arith, runs.last, ap (λ n. n.last) st.status))),
        refl,
      ),
    )
