use Rattle.page_typing.proofs.SpelledComponents.{accepted_keep}
use Rattle.page_typing.proofs.laws.accepted_components_alone_keep_to_their_types.Goals as goal

pub returns : goal.returns
returns c = accepted_keep
