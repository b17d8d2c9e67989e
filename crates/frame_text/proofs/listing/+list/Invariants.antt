use Rattle.std.proofs.Common.{◌≡◌, drop}
use Rattle.frame_text.specs.Frames.{behind, items_listed}
use Rattle.frame_text.proofs.listing.+list.Given as goal

-- what is listed, with the items that are left, is what all of them list
abbrev pub invariant-with_items-loop-item : goal.invariant-with_items-loop-item
invariant-with_items-loop-item l =
    behind l.front.lines.items (items_listed (drop l.item-index l.items) l.front.given)
    ≡ behind l.initial.front.lines.items (items_listed l.items l.initial.front.given)
