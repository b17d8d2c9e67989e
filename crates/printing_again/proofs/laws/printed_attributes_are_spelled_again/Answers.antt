use Rattle.printing_again.proofs.AttributesAgain.{attributes_again}
use Rattle.printing_again.proofs.laws.printed_attributes_are_spelled_again.Goals as goal

pub returns : goal.returns
returns c = λ source around. attributes_again source around
