use Rattle.std.proofs.Common.{refl}
use Rattle.razor_print.proofs.ListLaws.{file_step, file_whole, leaves_step, leaves_whole}
use Rattle.razor_print.proofs.TextLaws.{text_nothing}
use Rattle.razor_print.proofs.component.push_nodes.Goals as goal

pub loop-node-init : goal.loop-node-init
loop-node-init c = record { written = text_nothing c.args.out.now; left = refl }

pub loop-node-preserved : goal.loop-node-preserved
loop-node-preserved c = record {
  written = file_step c.args.out.now c.loop-node.out c.push_parting.new.out c.push_item.new.out c.loop-node.before c.leaves-next.result c.args.nodes.now c.loop-node.node-index c.node-item.result c.loop-node-test.true c.node-item.is
      c.loop-node.invariant.written c.loop-node.invariant.left c.leaves-next.ensures c.in_ok-push_parting.ensures c.in_ok-push_item.ensures;
  left = leaves_step c.leaves-next.result c.args.nodes.now c.loop-node.node-index c.node-item.result c.loop-node-test.true c.node-item.is c.leaves-next.ensures;
}

pub returns : goal.returns
returns c = record {
  written = file_whole c.args.out.now c.loop-node.out c.args.nodes.now c.loop-node.node-index c.loop-node-test.false c.loop-node.invariant.written;
  left = leaves_whole c.loop-node.before c.args.nodes.now c.loop-node.node-index c.loop-node-test.false c.loop-node.invariant.left;
}
