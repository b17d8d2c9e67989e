use Rattle.razor_rules.proofs.FirstLaws.{is_first}
use Rattle.razor_rules.proofs.laws.no_broken_rule_comes_before_the_first.Goals as goal

pub returns : goal.returns
returns c = is_first
