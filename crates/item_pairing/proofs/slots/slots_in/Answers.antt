use Rattle.std.proofs.Common.{◌≡◌, ap, refl, [], ◌++◌, map}
use Rattle.std.proofs.lemmas.Result.{IfOk-weaker}
use Rattle.pairing_meaning.specs.Slots.{slots_of}
use Rattle.item_pairing.specs.Standing.{mark_of, slot_of, behind}
use Rattle.item_pairing.proofs.SlotLemmas.{all-slots}
use Rattle.item_pairing.proofs.slots.slots_in.Goals as goal

pub returns : goal.returns
returns c =
    IfOk-weaker c.with_items.result (λ them. map slot_of them.items ≡ map slot_of c.new.result.items ++ map (behind (map mark_of [])) (slots_of c.args.items.now)) _
    (λ them is. all-slots (map slot_of c.new.result.items) (map slot_of them.items) (slots_of c.args.items.now) [] (ap (map slot_of) c.new.ensures.items) refl is)
    c.with_items.ensures
