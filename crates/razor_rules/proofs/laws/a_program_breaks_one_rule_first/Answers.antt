use Rattle.razor_rules.proofs.FactLaws.{one_first}
use Rattle.razor_rules.proofs.laws.a_program_breaks_one_rule_first.Goals as goal

pub returns : goal.returns
returns c = one_first
