use Rattle.std.proofs.Common.{◌≡◌, [], arith}
use Rattle.razor_reader.proofs.TurnLoops.{item_start}
use Rattle.razor_reader.proofs.item.item_first.Goals as goal

pub loop-left-init : goal.loop-left-init
loop-left-init c = record {
  within = omega (arith, c.turns-left.ensures);
  same =
      item_start c.args.all.now c.args.number c.in_ok-next.number c.turns-left.result c.args.pieces.now c.in_ok-next.rest.now c.in_ok-next.next c.new-stack.result.items
      c.in_ok-next.ensures c.turns-left.ensures c.new-stack.ensures.items;
}
