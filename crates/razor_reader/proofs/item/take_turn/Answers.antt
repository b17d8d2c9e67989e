use Rattle.std.proofs.Common.{reverse}
use Rattle.razor_reader.specs.declared.frame.Next.TheVariants as nx
use Rattle.razor_reader.specs.ContentReading.{content}
use Rattle.razor_reader.specs.GoingReading.{block, switch}
use Rattle.razor_reader.proofs.GoesLemmas.{goes_over, named_goes}
use Rattle.razor_reader.proofs.item.take_turn.Goals as goal

pub returns-in-Content : goal.returns-in-Content
returns-in-Content c =
    let frames = reverse c.args.stack.now.items in
    named_goes c.args.all.now frames frames c.args.next (nx.Content c.in-Content.begun) c.args.number c.args.pieces.now c.going-in-Content.result c.in-Content.is
    (goes_over frames c.content.result c.going-in-Content.result (content c.in-Content.begun c.args.number c.args.pieces.now) c.going-in-Content.ensures c.content.ensures)

pub returns-in-Block : goal.returns-in-Block
returns-in-Block c =
    let frames = reverse c.args.stack.now.items in
    named_goes c.args.all.now frames frames c.args.next (nx.Block c.in-Block.begun) c.args.number c.args.pieces.now c.going-in-Block.result c.in-Block.is
    (goes_over frames c.block.result c.going-in-Block.result (block c.in-Block.begun c.args.number c.args.pieces.now) c.going-in-Block.ensures c.block.ensures)

pub returns-in-Switch : goal.returns-in-Switch
returns-in-Switch c =
    let frames = reverse c.args.stack.now.items in
    named_goes c.args.all.now frames frames c.args.next (nx.Switch c.in-Switch.begun) c.args.number c.args.pieces.now c.going-in-Switch.result c.in-Switch.is
    (goes_over frames c.switch.result c.going-in-Switch.result (switch c.in-Switch.begun c.args.number c.args.pieces.now) c.going-in-Switch.ensures c.switch.ensures)
