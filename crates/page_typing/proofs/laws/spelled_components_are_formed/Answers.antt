use Rattle.page_typing.proofs.SpelledComponents.{spelled_alone}
use Rattle.page_typing.proofs.laws.spelled_components_are_formed.Goals as goal

pub returns : goal.returns
returns c = spelled_alone
