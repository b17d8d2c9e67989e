use Rattle.page_typing.proofs.Handlers.{handlers_run}
use Rattle.page_typing.proofs.laws.handlers_with_types_are_never_stuck.Goals as goal

pub returns : goal.returns
returns c = handlers_run
