use Rattle.std.proofs.Common.{refl}
use Rattle.gen_arena.proofs.CallLemmas.{found_some, on_some, live_at, Removes-take}
use Rattle.gen_arena.proofs.arena.Arena.remove.Goals as goal

pub returns-clause-removed : goal.returns-clause-removed
returns-clause-removed g c =
    let live = found_some c.get.result _ c.get.ensures c.if-is_none.ensures in
    let here = live_at c.args.self.now c.args.handle c.index_mut.result.now live (rw (← c.self.view_is) c.index_mut.ensures.value) in
    let stands = rw (← c.self.view_is) at here.0 in
    on_some c.take.result _ (rw (← c.self.view_is) (Removes-take _ _ c.args.handle c.index_mut.result.now stands here.1 here.2 (rw c.take.ensures.after) refl))
