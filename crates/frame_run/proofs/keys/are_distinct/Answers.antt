use Rattle.std.proofs.Common.{◌≡◌, ◌+◌, Bool, true, false, List, ◌∷◌, drop, rules, sym, ap, ◌∙◌}
use Rattle.std.proofs.lemmas.List.{at_drop_more, take_rest}
use Rattle.std.specs.List.{filter_map}
use Rattle.frame_core.specs.declared.item.Item.{Item}
use Rattle.drawing_meaning.specs.Keys as spec
use Rattle.frame_run.specs.Clashes.{repeats}
use Rattle.frame_run.proofs.KeyLemmas.{distinct_more, distinct_no_more}
use Rattle.frame_run.proofs.keys.are_distinct.Goals as goal

abbrev is_distinct : List Item → Bool
is_distinct items = spec.are_distinct (filter_map spec.key_of items)

pub returns-then-is_repeated : goal.returns-then-is_repeated
returns-then-is_repeated c =
    let items = c.args.items.now in
    let others = drop (c.loop-i.i + 1) items in
    let found : repeats c.index-items-i.result others ≡ true = search (rules, take_rest) in
    sym (c.loop-i.invariant
    ∙ at_drop_more is_distinct items c.loop-i.i c.index-items-i.result c.loop-i-test.true
    ∙ ap (λ (one : Item). is_distinct (one ∷ others)) (sym c.index-items-i.is)
    ∙ distinct_no_more c.index-items-i.result others found)

pub loop-i-preserved : goal.loop-i-preserved
loop-i-preserved c =
    let items = c.args.items.now in
    let others = drop (c.loop-i.i + 1) items in
    let found : repeats c.index-items-i.result others ≡ false = search (rules, take_rest) in
    c.loop-i.invariant
    ∙ at_drop_more is_distinct items c.loop-i.i c.index-items-i.result c.loop-i-test.true
    ∙ ap (λ (one : Item). is_distinct (one ∷ others)) (sym c.index-items-i.is)
    ∙ distinct_more c.index-items-i.result others found
