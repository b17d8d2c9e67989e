use Rattle.cs_forbidden.proofs.Nothing.{same_statement}
use Rattle.cs_forbidden.proofs.laws.statements_come_to_what_the_rules_say.Goals as goal

pub returns : goal.returns
returns c = same_statement
