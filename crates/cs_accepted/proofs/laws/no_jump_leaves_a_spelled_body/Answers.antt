use Rattle.cs_accepted.proofs.SpelledLemmas.{spelled_stay}
use Rattle.cs_accepted.proofs.laws.no_jump_leaves_a_spelled_body.Goals as goal

pub returns : goal.returns
returns c = spelled_stay
