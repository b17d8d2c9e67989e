use Rattle.gen_arena.proofs.CallLemmas.{given_stays, given_once}
use Rattle.gen_arena.proofs.laws.a_handle_is_given_once.Goals as goal

pub returns-clause-stays : goal.returns-clause-stays
returns-clause-stays g c = given_stays

pub returns-clause-once : goal.returns-clause-once
returns-clause-once g c = given_once
