use Rattle.gen_arena.proofs.CallLemmas.{Writes-with_item}
use Rattle.gen_arena.proofs.laws.a_write_changes_one_item.Goals as goal

pub returns : goal.returns
returns g c = Writes-with_item
