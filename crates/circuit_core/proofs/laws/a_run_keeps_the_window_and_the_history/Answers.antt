use Rattle.circuit_core.proofs.RunLemmas.{started_follows}
use Rattle.circuit_core.proofs.laws.a_run_keeps_the_window_and_the_history.Goals as goal

pub returns : goal.returns
returns g c = λ stage window connection replies first messages last made run.
    started_follows g.S.Stage.machine stage window connection replies first messages last made run
