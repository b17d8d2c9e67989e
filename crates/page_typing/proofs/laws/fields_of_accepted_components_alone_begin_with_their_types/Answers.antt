use Rattle.page_typing.proofs.SpelledComponents.{accepted_begun}
use Rattle.page_typing.proofs.laws.fields_of_accepted_components_alone_begin_with_their_types.Goals as goal

pub returns : goal.returns
returns c = accepted_begun
