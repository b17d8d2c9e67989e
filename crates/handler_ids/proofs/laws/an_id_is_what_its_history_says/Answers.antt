use Rattle.handler_ids.proofs.KeptLemmas.{what_kept-found}
use Rattle.handler_ids.proofs.laws.an_id_is_what_its_history_says.Goals as goal

pub returns : goal.returns
returns c = what_kept-found
