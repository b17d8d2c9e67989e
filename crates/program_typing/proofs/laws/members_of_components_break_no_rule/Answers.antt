use Rattle.program_typing.proofs.Accepted.{keeps_rules}
use Rattle.program_typing.proofs.laws.members_of_components_break_no_rule.Goals as goal

pub returns : goal.returns
returns c = keeps_rules
