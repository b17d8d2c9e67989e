use Rattle.page_typing.proofs.SpelledComponents.{accepted_shown}
use Rattle.page_typing.proofs.laws.accepted_components_alone_show_a_page.Goals as goal

pub returns : goal.returns
returns c = accepted_shown
