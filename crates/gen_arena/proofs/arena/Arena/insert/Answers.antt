use Rattle.std.proofs.Common.{ap, sym, ◌∙◌, arith}
use Rattle.std.proofs.Common.{position}
use Rattle.gen_arena.specs.Taken.{is_free}
use Rattle.gen_arena.proofs.FreeLemmas.{free_first, all_taken, free_below}
use Rattle.gen_arena.proofs.arena.Arena.insert.Goals as goal

pub fill-requires : goal.fill-requires
fill-requires g c = rw (← c.self.view_is) (free_first c.self.inside.slots.items c.in-Some.place (ap (position is_free) (sym c.as_slice.ensures.value) ∙ sym c.first_free.ensures ∙ c.in-Some.is))

pub grow-requires : goal.grow-requires
grow-requires g c = rw (← c.self.view_is) (all_taken c.self.inside.slots.items (ap (position is_free) (sym c.as_slice.ensures.value) ∙ sym c.first_free.ensures ∙ c.in-None.is))

pub returns-in-Some-clause-spent : goal.returns-in-Some-clause-spent
returns-in-Some-clause-spent g c =
    let below = free_below c.self.inside.slots.items c.in-Some.place (free_first c.self.inside.slots.items c.in-Some.place (ap (position is_free) (sym c.as_slice.ensures.value) ∙ sym c.first_free.ensures ∙ c.in-Some.is)) in
    rw (← c.self.view_is) (λ h. absurd h, λ h. omega arith)

pub returns-in-None-clause-used_again : goal.returns-in-None-clause-used_again
returns-in-None-clause-used_again g c below =
    let full = all_taken c.self.inside.slots.items (ap (position is_free) (sym c.as_slice.ensures.value) ∙ sym c.first_free.ensures ∙ c.in-None.is) in
    let lower = rw (← c.self.view_is) at below in
    absurd (omega arith)
