use Rattle.std.proofs.Common.{set, refl, sym, ap, ◌∙◌}
use Rattle.gen_arena.proofs.FreeLemmas.{free_at}
use Rattle.gen_arena.proofs.CallLemmas.{Gives-fill, filled_on}
use Rattle.gen_arena.proofs.arena.Arena.fill.Goals as goal

pub returns : goal.returns
returns g c =
    let free = free_at c.self.inside.slots.items c.args.place c.index_mut.result.now (rw (← c.self.view_is) at c.requires) c.index_mut.ensures.value in
    let slot = c.fill-turn.ensures.filled ∙ sym (filled_on c.fill-turn.result c.args.item c.fill-turn.ensures.turn) in
    rw (← c.self.view_is) (Gives-fill _ _ _ c.args.item c.index_mut.result.now free.0 free.1 c.fill-turn.ensures.turn c.self.invariant.0 (ap (set c.self.inside.slots.items c.args.place) slot) refl)
