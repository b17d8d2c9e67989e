use Rattle.program_typing.proofs.Gifts.{gifts_resolved}
use Rattle.program_typing.proofs.laws.attributes_of_tags_fit_the_types_of_parameters.Goals as goal

pub returns : goal.returns
returns c = gifts_resolved
