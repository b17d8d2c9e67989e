use Rattle.page_typing.proofs.TemplateSoundness.{part_sound}
use Rattle.page_typing.proofs.laws.typed_parts_are_never_stuck.Goals as goal

pub returns : goal.returns
returns c = part_sound
