use Rattle.program_typing.proofs.Accepted.{accepted_has}
use Rattle.program_typing.proofs.laws.programs_without_tags_keep_to_their_types.Goals as goal

pub returns : goal.returns
returns c = accepted_has
