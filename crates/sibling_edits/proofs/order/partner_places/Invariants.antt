use Rattle.std.proofs.Common.{◌≡◌, ◌++◌, drop}
use Rattle.pairing_meaning.specs.Order.{partners}
use Rattle.sibling_edits.proofs.order.partner_places.Given as goal

abbrev pub invariant-loop-place : goal.invariant-loop-place
invariant-loop-place l = l.places ++ partners (drop l.place-index l.to) ≡ partners l.to
