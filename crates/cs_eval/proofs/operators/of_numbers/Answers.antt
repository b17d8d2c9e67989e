use Rattle.std.proofs.Common.{rules}
use Rattle.cs_eval.proofs.operators.of_numbers.Goals as goal

pub returns-in-Divide : goal.returns-in-Divide
returns-in-Divide c s = search (rules, c.quotient.ensures s)

pub returns-in-Remainder : goal.returns-in-Remainder
returns-in-Remainder c s = search (rules, c.remainder.ensures s)
