use Rattle.printing_again.proofs.ShownAgain.{shown_again}
use Rattle.printing_again.proofs.laws.a_printed_content_expression_is_spelled_again.Goals as goal

pub returns : goal.returns
returns c = shown_again
