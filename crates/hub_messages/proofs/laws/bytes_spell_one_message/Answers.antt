use Rattle.hub_messages.proofs.UpLemmas.{one_up}
use Rattle.hub_messages.proofs.DownLemmas.{one_down}
use Rattle.hub_messages.proofs.laws.bytes_spell_one_message.Goals as goal

pub returns-clause-up : goal.returns-clause-up
returns-clause-up c = one_up

pub returns-clause-down : goal.returns-clause-down
returns-clause-down c = one_down
