use Rattle.std.proofs.Common.{rules, ◌≡◌, ◌∙◌, ◌++◌, sym, ap}
use Rattle.browser_tree.proofs.TreeLemmas.{copied_more}
use Rattle.browser_tree.proofs.copying.copy_tree.Goals as goal

pub loop-number-preserved-in_ok-insert : goal.loop-number-preserved-in_ok-insert
loop-number-preserved-in_ok-insert c =
    let more = copied_more c.loop-number.copy.entries c.next.new.self c.args.tree.now.entries (c.in-Some.number.now, c.in-Some.nodes.now)
    c.iter-number-items.ensures.ordered (ap (λ it. c.loop-number.copy.entries ++ it) (sym c.in-Some.ensures.steps) ∙ c.loop-number.invariant)
    in let inserted = c.in_ok-insert.ensures.entries in let copied = c.in_ok-copy_all.ensures in search rules

pub loop-number-preserved : goal.loop-number-preserved
loop-number-preserved c =
    let more = copied_more c.loop-number.copy.entries c.next.new.self c.args.tree.now.entries (c.in-Some.number.now, c.in-Some.nodes.now)
    c.iter-number-items.ensures.ordered (ap (λ it. c.loop-number.copy.entries ++ it) (sym c.in-Some.ensures.steps) ∙ c.loop-number.invariant)
    in let inserted = c.in_ok-insert.ensures.entries in let copied = c.in_ok-copy_all.ensures in search rules
