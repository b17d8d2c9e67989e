use Rattle.page_typing.proofs.SpelledComponents.{accepted_acts}
use Rattle.page_typing.proofs.laws.accepted_components_alone_come_to_acts.Goals as goal

pub returns : goal.returns
returns c = accepted_acts
