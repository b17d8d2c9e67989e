use Rattle.cs_accepted.proofs.BodyLemmas.{accepted_as_has}
use Rattle.cs_accepted.proofs.laws.accepted_bodies_keep_to_their_signatures.Goals as goal

pub returns : goal.returns
returns c = accepted_as_has
