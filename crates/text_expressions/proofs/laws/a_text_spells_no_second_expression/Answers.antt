use Rattle.text_expressions.proofs.TextExpressions.{one_answer}
use Rattle.text_expressions.proofs.laws.a_text_spells_no_second_expression.Goals as goal

pub returns : goal.returns
returns c = one_answer
