use Rattle.cs_accepted.proofs.BodyLemmas.{expression_sound_among}
use Rattle.cs_accepted.proofs.laws.accepted_expressions_are_never_stuck.Goals as goal

pub returns : goal.returns
returns c = expression_sound_among
