use Rattle.std.proofs.Common.{refl, map, sym, ◌∙◌, ap, option_map, Some, arith}
use Rattle.std.proofs.lemmas.List.{length-map}
use Rattle.std.proofs.Math.ListN.{drop_of_length-le}
use Rattle.plain_page.specs.Changes.{node_changes, page_changes, capped}
use Rattle.plain_page.proofs.ChangeLemmas.{capped_inside, node_changes-Element, along_lengths, behind_last, behind_nothing}
use Rattle.plain_page.proofs.changes.+changes.Goals as goal

pub changes_of-returns-then-before-after : goal.changes_of-returns-then-before-after
changes_of-returns-then-before-after t c =
    let before = c.args.before.now in
    ap (option_map capped) (sym (along_lengths (map node_changes before) c.args.after.now (λ same. c.if-before-after.true (sym (length-map before node_changes) ∙ same))))

pub changes_of-returns : goal.changes_of-returns
changes_of-returns t c =
    let before = c.args.before.now in
    let after = c.args.after.now in
    let i = c.loop-i.i in
    let none = drop_of_length-le before {i = i} c.loop-i-test.false in
    let none_after = drop_of_length-le after {i = i} (omega arith) in
    let whole = rw (none, none_after) at c.loop-i.invariant.all in
    sym (behind_last c.loop-i.all c.loop-i.invariant.texts c.loop-i.invariant.elements) ∙ whole ∙ behind_nothing (map node_changes before) after

pub changes_of_node-returns-in_ok-inside-in-Element-Element :
    goal.changes_of_node-returns-in_ok-inside-in-Element-Element
changes_of_node-returns-in_ok-inside-in-Element-Element t c =
    let e = c.in-Element-Element in
    let same = node_changes-Element e.born e.name e.attributes-0 e.handlers e.children e.other_born e.other_name e.attributes-1 e.others e.nodes
    c.if-born-other_born.false c.if-ne.ensures c.if-not-has_same_handler.ensures in
    let inside = rw (c.as_slice.ensures, c.as_slice-in-Element-Element.ensures) at c.in_ok-inside-in-Element-Element.ensures in
    ap Some c.gone_into.ensures
    ∙ sym (capped_inside c.in_ok-inside-in-Element-Element.inside (page_changes e.children e.nodes) inside)
    ∙ ap (option_map capped) (sym same)
    ∙ rw (e.is-0, e.is-1) refl
