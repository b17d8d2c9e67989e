use Rattle.std.proofs.Common.{sym, subst}
use Rattle.circuit_core.specs.Standing.{Stands}
use Rattle.circuit_core.proofs.circuit.Circuit.step.Goals as goal

pub returns-in-Ok-clause-step : goal.returns-in-Ok-clause-step
returns-in-Ok-clause-step g c = λ state st.
    c.in-Ok.ensures.step state (subst (λ kept. Stands g.S.Stage.stands kept state) (sym c.self.view_is) st)
