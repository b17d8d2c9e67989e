use Rattle.cs_typing.proofs.BodySoundness.{expression_sound}
use Rattle.cs_typing.proofs.laws.typed_expressions_are_never_stuck.Goals as goal

pub returns : goal.returns
returns c = expression_sound
