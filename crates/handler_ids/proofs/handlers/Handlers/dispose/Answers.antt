use Rattle.std.proofs.Common.{◌-◌, set, refl, ap}
use Rattle.handler_ids.proofs.KeptLemmas.{Leads-dispose, live_read}
use Rattle.handler_ids.proofs.handlers.Handlers.dispose.Goals as goal

pub invariant_of-self : goal.invariant_of-self
invariant_of-self c =
    let live = rw (← c.self.view_is) at c.requires in
    let entry = c.dispose_entry.ensures live.0 (live_read c.self.inside.entries.items c.args.id live.0 c.index_mut.result.now live.1 c.index_mut.ensures.value) in
    let leads = Leads-dispose (record { entries = c.self.inside.entries.items; released = c.self.inside.released }) (record { entries = set c.self.inside.entries.items (c.args.id - 1) c.dispose_entry.new.entry; released = c.self.inside.released }) c.args.id c.args.batch live.0 live.1 refl (ap (set c.self.inside.entries.items (c.args.id - 1)) entry) in
    let next = leads.1 c.self.invariant.0 c.self.invariant.1 in
    (next.0, next.1)

pub returns : goal.returns
returns c =
    let live = rw (← c.self.view_is) at c.requires in
    let entry = c.dispose_entry.ensures live.0 (live_read c.self.inside.entries.items c.args.id live.0 c.index_mut.result.now live.1 c.index_mut.ensures.value) in
    rw (← c.self.view_is) (Leads-dispose _ _ c.args.id c.args.batch live.0 live.1 refl (ap (set c.self.inside.entries.items (c.args.id - 1)) entry))
