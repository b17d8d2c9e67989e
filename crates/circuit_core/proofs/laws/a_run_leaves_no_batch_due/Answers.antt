use Rattle.circuit_core.proofs.CalmLemmas.{started_calm}
use Rattle.circuit_core.proofs.laws.a_run_leaves_no_batch_due.Goals as goal

pub returns : goal.returns
returns g c = λ stage window connection replies first messages last made run.
    started_calm g.S.Stage.machine stage window connection replies first messages last g.met.S.Stage.lawful.render.clean made run
