use Rattle.std.proofs.Common.{rules, arith, subst, sym, ◌≡◌, ◌+◌, ◌<◌, ◌≤◌, ◌^◌, ℕ, length}
use Rattle.frame_core.specs.EditTypes.{of_type}
use Rattle.browser_tree.proofs.CountLemmas.{few_in_rest}
use Rattle.browser_tree.proofs.counting.in_lists.Goals as goal

pub overflow_cast-count : goal.overflow_cast-count
overflow_cast-count c =
    let few : c.loop-rest.count + of_type c.args.number c.list-item.result.edits < 2 ^ 32
    = few_in_rest c.args.number c.loop-rest.count c.list-item.result c.loop-rest.rest.now c.args.lists.now c.list-item.is c.in-len1-up.len_at_least c.loop-rest.invariant c.requires
    in let is = c.in_list.ensures in search rules

pub overflow_add-count : goal.overflow_add-count
overflow_add-count c =
    let few : c.loop-rest.count + of_type c.args.number c.list-item.result.edits < 2 ^ 32
    = few_in_rest c.args.number c.loop-rest.count c.list-item.result c.loop-rest.rest.now c.args.lists.now c.list-item.is c.in-len1-up.len_at_least c.loop-rest.invariant c.requires
    in let is = c.in_list.ensures in search rules
