use Rattle.page_typing.proofs.SpelledComponents.{accepted_items}
use Rattle.page_typing.proofs.laws.accepted_components_alone_show_pages_over_their_fields.Goals as goal

pub returns : goal.returns
returns c = accepted_items
