use Rattle.text_expressions.proofs.TextExpressions.{answered}
use Rattle.text_expressions.proofs.laws.each_text_spells_one_expression_or_none.Goals as goal

pub returns : goal.returns
returns c = answered
