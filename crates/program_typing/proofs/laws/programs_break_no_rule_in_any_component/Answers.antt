use Rattle.program_typing.proofs.Accepted.{all_keep}
use Rattle.program_typing.proofs.laws.programs_break_no_rule_in_any_component.Goals as goal

pub returns : goal.returns
returns c = all_keep
