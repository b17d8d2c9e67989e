use Rattle.std.proofs.Common.{◌≡◌, drop}
use Rattle.page_meaning.specs.Fresh.{and_also, items_shown}
use Rattle.item_page.proofs.showing.+show.Given as goal

-- what is shown, with the items that are left, is what all of them show
abbrev pub invariant-with_items-loop-item : goal.invariant-with_items-loop-item
invariant-with_items-loop-item l =
    and_also l.front.nodes (items_shown l.born (drop l.item-index l.items) l.front.given)
    ≡ and_also l.initial.front.nodes (items_shown l.born l.items l.initial.front.given)
