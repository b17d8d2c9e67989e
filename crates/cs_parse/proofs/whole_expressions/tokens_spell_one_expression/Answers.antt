use Rattle.cs_parse.proofs.SpelledLemmas.{one_tree}
use Rattle.cs_parse.proofs.whole_expressions.tokens_spell_one_expression.Goals as goal

pub returns : goal.returns
returns c = one_tree
