use Rattle.page_typing.proofs.SpelledComponents.{accepted_setting}
use Rattle.page_typing.proofs.laws.code_of_accepted_components_alone_runs_among_its_types.Goals as goal

pub returns : goal.returns
returns c = accepted_setting
