use Rattle.std.proofs.Common.{◌≡◌, ◌∙◌}
use Rattle.item_pairing.specs.Standing.{address_of}
use Rattle.item_pairing.proofs.LabelLemmas.{one_address, other_address}
use Rattle.item_pairing.proofs.SlotLemmas.{of-equal}
use Rattle.item_pairing.proofs.pairing.same_slot.Goals as goal

pub returns-then-alike : goal.returns-then-alike
returns-then-alike c =
    one_address (address_of c.args.one.now) (address_of c.args.other.now) c.alike.result c.same_regions.result c.alike.ensures
    (of-equal c.same_regions.result c.as_slice.result.now c.args.one.now.regions.items c.as_slice-then-alike.result.now c.args.other.now.regions.items c.as_slice.ensures.value c.as_slice-then-alike.ensures.value c.same_regions.ensures)
    c.if-alike.true

pub returns-else-alike : goal.returns-else-alike
returns-else-alike c = c.if-alike.false ∙ other_address (address_of c.args.one.now) (address_of c.args.other.now) c.alike.result c.alike.ensures c.if-alike.false
