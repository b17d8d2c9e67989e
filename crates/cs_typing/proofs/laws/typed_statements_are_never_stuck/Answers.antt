use Rattle.cs_typing.proofs.BodySoundness.{statement_sound}
use Rattle.cs_typing.proofs.laws.typed_statements_are_never_stuck.Goals as goal

pub returns : goal.returns
returns c = statement_sound
