use Rattle.std.proofs.Common.{rules, arith, ◌≡◌, ◌<◌, length}
use Rattle.edit_meaning.specs.Edits.{with_markup}
use Rattle.browser_tree.proofs.EditLemmas.{put_gives}
use Rattle.browser_tree.proofs.edits.update_markup.Goals as goal

pub returns : goal.returns
returns c =
    let within : c.args.sibling < length c.args.focus.here = search rules
    in put_gives c.args.sibling c.in_ok-node.node c.remove.result c.args.focus c.remove.new.self c.put_in.result (with_markup c.args.text.now) c.remove.ensures.item (search rules) c.remove.ensures.rest within c.put_in.ensures
