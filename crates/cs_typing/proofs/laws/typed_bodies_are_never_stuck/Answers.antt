use Rattle.cs_typing.proofs.BodySoundness.{body_sound}
use Rattle.cs_typing.proofs.laws.typed_bodies_are_never_stuck.Goals as goal

pub returns : goal.returns
returns c = body_sound
