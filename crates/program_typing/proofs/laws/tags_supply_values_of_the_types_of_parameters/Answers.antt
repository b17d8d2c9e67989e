use Rattle.program_typing.proofs.Supplying.{gives_supplied}
use Rattle.program_typing.proofs.laws.tags_supply_values_of_the_types_of_parameters.Goals as goal

pub returns : goal.returns
returns c = gives_supplied
