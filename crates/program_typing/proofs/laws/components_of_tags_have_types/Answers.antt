use Rattle.program_typing.proofs.EmptyTags.{component_has}
use Rattle.program_typing.proofs.laws.components_of_tags_have_types.Goals as goal

pub returns : goal.returns
returns c = component_has
