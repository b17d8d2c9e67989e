use Rattle.std.proofs.Common.{[]}
use Rattle.client_core.proofs.PieceLemmas.{spelled_none}
use Rattle.client_core.proofs.sending.one.Goals as goal

pub returns : goal.returns
returns c = c.in_ok-add.ensures [] (spelled_none c.new-ups.result c.new-ups.ensures.items)
