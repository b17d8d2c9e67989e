use Rattle.gen_arena.proofs.CallLemmas.{dead_stays}
use Rattle.gen_arena.proofs.laws.a_removed_handle_stays_dead.Goals as goal

pub returns-clause-stays : goal.returns-clause-stays
returns-clause-stays g c = dead_stays
