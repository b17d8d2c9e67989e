use Rattle.std.proofs.Common.{ap, ◌∙◌}
use Rattle.handler_ids.specs.History.{at_id}
use Rattle.handler_ids.specs.Kept.{what_is_kept}
use Rattle.handler_ids.proofs.KeptLemmas.{what_kept-found}
use Rattle.handler_ids.proofs.handlers.Handlers.find.Goals as goal

pub returns-clause-history : goal.returns-clause-history
returns-clause-history c = rw (← c.self.view_is) (λ history stands. c.shown.ensures ∙ ap (λ entries. what_is_kept (at_id entries c.args.id)) c.as_slice.ensures.value ∙ what_kept-found _ history c.args.id stands)
