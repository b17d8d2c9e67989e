use Rattle.std.proofs.Common.{refl}
use Rattle.gen_arena.proofs.CallLemmas.{Gives-push, strictly_below}
use Rattle.gen_arena.proofs.arena.Arena.grow.Goals as goal

pub returns-clause-given : goal.returns-clause-given
returns-clause-given g c =
    let full = rw (← c.self.view_is) at c.requires in
    let number = rw (← c.self.view_is) at c.slots-slot.ensures.number in
    let within = rw (← c.self.view_is) at c.slots-slot.ensures.within in
    rw (← c.self.view_is) (Gives-push _ _ _ c.args.item number refl full (strictly_below _ _ _ number within c.if-slot-self.false) (rw (c.push_reserved.ensures.items, c.reserve.ensures.items)) refl)
