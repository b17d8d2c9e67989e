use Rattle.std.proofs.Common.{◌≡◌, ◌+◌, ◌*◌, max, map, drop}
use Rattle.std.specs.List.{list_any}
use Rattle.cs_effects.specs.Deeds.{in_order, of_statement, of_section}
use Rattle.cs_effects.proofs.statements.+statements.Given as goal

-- none so far does it, and the locals are those behind them
abbrev pub invariant-in_order-loop-one : goal.invariant-in_order-loop-one
invariant-in_order-loop-one l = in_order (map (of_statement l.deed) l.body) l.locals ≡ in_order (map (of_statement l.deed) (drop l.one-index l.body)) l.inner

-- none so far does it
abbrev pub invariant-switch-loop-one : goal.invariant-switch-loop-one
invariant-switch-loop-one l = list_any (λ x. x l.locals) (map (of_section l.deed) l.sections) ≡ list_any (λ x. x l.locals) (map (of_section l.deed) (drop l.one-index l.sections))

-- how deep the trees are, and who calls whom at one depth
abbrev pub decreases-form : goal.decreases-form
decreases-form l = 8 * goal.size-form l + 0

abbrev pub decreases-statement : goal.decreases-statement
decreases-statement l = 8 * goal.size-statement l + 1

abbrev pub decreases-in_order : goal.decreases-in_order
decreases-in_order l = 8 * goal.size-in_order l + 2

abbrev pub decreases-maybe : goal.decreases-maybe
decreases-maybe l = 8 * goal.size-maybe l + 2

abbrev pub decreases-section : goal.decreases-section
decreases-section l = 8 * goal.size-section l + 3

abbrev pub decreases-while_loop : goal.decreases-while_loop
decreases-while_loop l = 8 * goal.size-while_loop l + 6

abbrev pub decreases-for_each : goal.decreases-for_each
decreases-for_each l = 8 * goal.size-for_each l + 6

abbrev pub decreases-switch : goal.decreases-switch
decreases-switch l = 8 * goal.size-switch l + 6

abbrev pub decreases-if_else : goal.decreases-if_else
decreases-if_else l = 8 * max (goal.size-statement (record { the-lifetimes = (l.the-lifetimes.0, (l.the-lifetimes.0, (l.the-lifetimes.0, tt {0}))); alloc = l.alloc; deed = l.deed; locals = l.locals; one = l.yes })) (goal.size-maybe (record { the-lifetimes = (l.the-lifetimes.0, (l.the-lifetimes.0, (l.the-lifetimes.0, tt {0}))); alloc = l.alloc; deed = l.deed; locals = l.locals; one = l.no })) + 6

abbrev pub decreases-for_loop : goal.decreases-for_loop
decreases-for_loop l = 8 * max (goal.size-maybe (record { the-lifetimes = (l.the-lifetimes.0, (l.the-lifetimes.0, (l.the-lifetimes.0, tt {0}))); alloc = l.alloc; deed = l.deed; locals = l.locals; one = l.start })) (goal.size-statement (record { the-lifetimes = (l.the-lifetimes.0, (l.the-lifetimes.0, (l.the-lifetimes.0, tt {0}))); alloc = l.alloc; deed = l.deed; locals = l.locals; one = l.body })) + 6
