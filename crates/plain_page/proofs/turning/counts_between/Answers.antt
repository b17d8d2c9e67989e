use Rattle.std.proofs.Common.{arith}
use Rattle.plain_page.proofs.FewLemmas.{fewer_nodes, counts_some}
use Rattle.plain_page.proofs.turning.counts_between.Goals as goal

pub overflow_cast-after : goal.overflow_cast-after
overflow_cast-after c = omega (arith, fewer_nodes c.args.after.now c.requires.plain, c.requires.few)

pub returns : goal.returns
returns c =
    counts_some c.args.number c.args.before.now c.args.after.now c.in_ok-changes.changes c.counts_of_changes.result
    c.if-is_empty.ensures c.requires.few c.in_ok-changes.ensures c.counts_of_changes.ensures
