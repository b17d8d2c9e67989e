use Rattle.cs_accepted.proofs.BodyLemmas.{accepted_sound}
use Rattle.cs_accepted.proofs.laws.accepted_bodies_are_never_stuck.Goals as goal

pub returns : goal.returns
returns c = accepted_sound
