use Rattle.program_typing.proofs.Programs.{program_has}
use Rattle.program_typing.proofs.laws.programs_of_sound_components_keep_to_their_types.Goals as goal

pub returns : goal.returns
returns c = program_has
