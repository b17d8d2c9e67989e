use Rattle.handler_ids.proofs.KeptLemmas.{StandsForSome-push}
use Rattle.handler_ids.proofs.handlers.Handlers.give.Goals as goal

pub invariant_of-self-2 : goal.invariant_of-self-2
invariant_of-self-2 c = StandsForSome-push c.self.inside.entries.items c.push.new.self.items c.self.inside.released c.in_ok-value.value c.self.invariant c.in_ok-push.ensures.items
