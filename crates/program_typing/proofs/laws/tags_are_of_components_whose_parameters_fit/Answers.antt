use Rattle.program_typing.proofs.Targets.{target_fits}
use Rattle.program_typing.proofs.laws.tags_are_of_components_whose_parameters_fit.Goals as goal

pub returns : goal.returns
returns c = target_fits
