use Rattle.std.proofs.Common.{◌<◌, ◌-◌, ◌∙◌, sym, arith}
use Rattle.razor_reader.proofs.TurnLoops.{whole_step, whole_empty}
use Rattle.razor_reader.proofs.whole.whole_parts.Goals as goal

pub returns-then-is_empty : goal.returns-then-is_empty
returns-then-is_empty c =
    let all = c.args.all.now in
    let left : 0 < c.loop-left.left = omega arith in
    c.loop-left.invariant.same
    ∙ whole_step all c.loop-left.left c.loop-left.parts c.in_ok-more.more c.loop-left.rest.now c.in_ok-more.behind.now left (c.loop-left.invariant.some left) c.in_ok-more.ensures
    ∙ whole_empty all (c.loop-left.left - 1) c.in_ok-more.more c.in_ok-more.behind.now (sym c.is_empty.ensures ∙ c.if-is_empty.true)
