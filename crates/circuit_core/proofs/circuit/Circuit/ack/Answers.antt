use Rattle.std.proofs.Common.{refl, sym, subst}
use Rattle.circuit_core.specs.Standing.{Stands}
use Rattle.circuit_core.proofs.circuit.Circuit.ack.Goals as goal

pub returns-clause-step : goal.returns-clause-step
returns-clause-step g c = λ state st.
    let here = subst (λ kept. Stands g.S.Stage.stands kept state) (sym c.self.view_is) st in
    let done = c.release.ensures.step state here in
    (record state { stage = done.0; status = record state.status { acked = c.args.batch } }, done.2, (done.0, done.1, refl))
