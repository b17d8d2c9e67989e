use Rattle.handler_ids.proofs.CallLemmas.{entry_stays, ids_rise}
use Rattle.handler_ids.proofs.laws.nothing_leaves_the_history.Goals as goal

pub returns-clause-stays : goal.returns-clause-stays
returns-clause-stays c = entry_stays

pub returns-clause-rises : goal.returns-clause-rises
returns-clause-rises c = ids_rise
