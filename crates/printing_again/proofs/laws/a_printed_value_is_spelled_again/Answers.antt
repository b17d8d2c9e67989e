use Rattle.printing_again.proofs.ShownAgain.{led_again}
use Rattle.printing_again.proofs.laws.a_printed_value_is_spelled_again.Goals as goal

pub returns : goal.returns
returns c = led_again
