use Rattle.std.proofs.Common.{◌≡◌, drop}
use Rattle.frame_text.specs.Frames.{behind, attributes_listed}
use Rattle.frame_text.proofs.listing.with_attributes.Given as goal

-- what is listed, with the attributes that are left, is what all of them list
abbrev pub invariant-loop-attribute : goal.invariant-loop-attribute
invariant-loop-attribute l =
    behind l.front.lines.items (attributes_listed (drop l.attribute-index l.attributes) l.front.given)
    ≡ behind l.initial.front.lines.items (attributes_listed l.attributes l.initial.front.given)
