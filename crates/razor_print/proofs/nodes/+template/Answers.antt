use Rattle.std.proofs.Common.{rules, refl, ap, ◌∙◌}
use Rattle.razor_print.specs.Nodes.{node}
use Rattle.razor_print.proofs.ListLaws.{lines_written, sections_written, content_whole, content_step, leaves_step}
use Rattle.razor_print.proofs.NodeLaws.{node_if}
use Rattle.razor_print.proofs.TextLaws.{text_nothing}
use Rattle.razor_print.proofs.nodes.+template.Goals as goal

pub push_lines-returns : goal.push_lines-returns
push_lines-returns t c = lines_written c.args.out.now c.loop-item.out c.args.items.now c.loop-item.item-index c.loop-item-test.false c.loop-item.invariant

pub push_sections-returns : goal.push_sections-returns
push_sections-returns t c = sections_written c.args.out.now c.loop-section.out c.args.sections.now c.loop-section.section-index c.loop-section-test.false c.loop-section.invariant

pub push_content-returns : goal.push_content-returns
push_content-returns t c = content_whole c.args.out.now c.loop-node.out c.args.nodes.now c.loop-node.node-index c.loop-node-test.false c.loop-node.invariant.written

pub push_in_code-returns-in-If : goal.push_in_code-returns-in-If
push_in_code-returns-in-If t c =
    let form = ap node c.in-If.is ∙ node_if c.in-If.place c.in-If.condition c.in-If.yes c.in-If.no in
    rw form (search rules)

pub push_content-loop-node-init : goal.push_content-loop-node-init
push_content-loop-node-init t c = record { written = text_nothing c.args.out.now; left = refl }

pub push_content-loop-node-preserved : goal.push_content-loop-node-preserved
push_content-loop-node-preserved t c = record {
  written = content_step c.args.out.now c.loop-node.out c.push_item.new.out c.loop-node.before c.args.nodes.now c.loop-node.node-index c.node-item.result c.loop-node-test.true c.node-item.is
      c.loop-node.invariant.written c.loop-node.invariant.left c.in_ok-push_item.ensures;
  left = leaves_step c.leaves-before.result c.args.nodes.now c.loop-node.node-index c.node-item.result c.loop-node-test.true c.node-item.is c.leaves-before.ensures;
}
