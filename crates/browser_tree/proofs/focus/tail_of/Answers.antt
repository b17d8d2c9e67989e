use Rattle.std.proofs.Common.{rules, arith, sym, ◌≡◌, ◌≤◌, length, reverse}
use Rattle.browser_tree.proofs.FocusLemmas.{front_is, rest_is}
use Rattle.browser_tree.proofs.focus.tail_of.Goals as goal

pub returns-clause-front : goal.returns-clause-front
returns-clause-front c =
    let short : length c.loop-nodes.nodes ≤ c.args.place = search rules
    in sym (front_is c.loop-nodes.nodes (reverse c.loop-nodes.tail) c.args.nodes.now c.args.place c.loop-nodes.invariant.0 short c.loop-nodes.invariant.1)

pub returns-clause-tail : goal.returns-clause-tail
returns-clause-tail c =
    let short : length c.loop-nodes.nodes ≤ c.args.place = search rules
    in sym (rest_is c.loop-nodes.nodes (reverse c.loop-nodes.tail) c.args.nodes.now c.args.place c.loop-nodes.invariant.0 short c.loop-nodes.invariant.1)
