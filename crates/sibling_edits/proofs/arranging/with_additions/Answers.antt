use Rattle.std.proofs.Common.{rules, ◌≡◌, [], drop}
use Rattle.sibling_edits.proofs.NoneLemmas.{none-left}
use Rattle.sibling_edits.proofs.arranging.with_additions.Goals as goal

pub returns-in_default : goal.returns-in_default
returns-in_default c =
    let none : c.loop-k.rest ≡ [] = search rules in
    none-left c.loop-k.k (drop c.loop-k.k c.args.from.now) c.loop-k.rest c.loop-k.edits _ none c.loop-k.invariant
