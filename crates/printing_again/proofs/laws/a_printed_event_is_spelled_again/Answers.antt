use Rattle.printing_again.proofs.ShownAgain.{event_again}
use Rattle.printing_again.proofs.laws.a_printed_event_is_spelled_again.Goals as goal

pub returns : goal.returns
returns c = event_again
