use Rattle.frame_walk.proofs.KeptIdLemmas.{walked-ids}
use Rattle.frame_walk.proofs.laws.handlers_have_the_ids_of_their_pairs.Goals as goal

pub returns-clause-keeps : goal.returns-clause-keeps
returns-clause-keeps c = λ batch released olds news walked gone history last clear same walks way name new old at keeps. (walked-ids batch released olds news walked gone history last clear same walks way name new at).keeps old keeps

pub returns-clause-gives : goal.returns-clause-gives
returns-clause-gives c = λ batch released olds news walked gone history last clear same walks way name new at none. (walked-ids batch released olds news walked gone history last clear same walks way name new at).gives none
