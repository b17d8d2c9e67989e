use Rattle.program_typing.proofs.Counting.{comes}
use Rattle.program_typing.proofs.laws.templates_without_tags_come_to_parts_with_types.Goals as goal

pub returns : goal.returns
returns c = comes
