use Rattle.printing_again.proofs.ElementsAgain.{element_again}
use Rattle.printing_again.proofs.laws.a_printed_attribute_of_an_element_is_spelled_again.Goals as goal

pub returns : goal.returns
returns c = element_again
