use Rattle.program_typing.proofs.EmptyTags.{tag_resolved}
use Rattle.program_typing.proofs.laws.tags_without_content_come_to_components.Goals as goal

pub returns : goal.returns
returns c = tag_resolved
