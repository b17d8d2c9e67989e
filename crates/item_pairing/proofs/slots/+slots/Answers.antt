use Rattle.std.proofs.Common.{◌≡◌, ◌∙◌, ap, sym, refl, List, [], ◌∷◌, ◌++◌, map}
use Rattle.std.proofs.lemmas.Result.{IfOk-weaker}
use Rattle.frame_core.specs.declared.item.Item.{Item}
use Rattle.pairing_meaning.specs.Labels.{label_of}
use Rattle.pairing_meaning.specs.Slots.{Mark, Slot, slots_of}
use Rattle.item_pairing.specs.declared.slots.Around.{Around}
use Rattle.item_pairing.specs.Standing.{mark_of, slot_of, behind, slots_at}
use Rattle.item_pairing.proofs.SlotLemmas.{region-slots, one-slot}
use Rattle.item_pairing.proofs.slots.+slots.Goals as goal

pub with_item-returns-in_ok-regions-in-Region : goal.with_item-returns-in_ok-regions-in-Region
with_item-returns-in_ok-regions-in-Region t c =
    let marks : List Mark = map mark_of c.args.regions.now in
    let inner = c.as_slice-in-Region.result.now in
    let same =
    ap (λ (rs : List Around). map (behind (map mark_of rs)) (slots_of inner)) c.as_slice.ensures.value
    ∙ ap (λ (ms : List Mark). map (behind ms) (slots_of inner)) c.in_ok-regions-in-Region.ensures
    ∙ ap (λ (is : List Item). map (behind (marks ++ record { label = label_of c.args.item.now; before = c.args.before } ∷ [])) (slots_of is)) c.as_slice-in-Region.ensures
    ∙ sym (region-slots marks c.args.item.now c.in-Region.number c.in-Region.key c.in-Region.children c.args.before c.in-Region.is) in
    IfOk-weaker c.with_items.result (λ them. map slot_of them.items ≡ map slot_of c.args.slots.items ++ map (behind (map mark_of c.as_slice.result.now)) (slots_of inner)) _
    (λ them is. is ∙ ap (λ (ss : List Slot). map slot_of c.args.slots.items ++ ss) same)
    c.with_items.ensures

pub with_item-returns-in_ok-push-in_default : goal.with_item-returns-in_ok-push-in_default
with_item-returns-in_ok-push-in_default t c =
    one-slot (map mark_of c.args.regions.now) c.args.item.now c.args.before c.args.slots.items c.push.new.self.items _
    (λ number key children is. c.in_default.not-Region number key children is)
    c.in_ok-push-in_default.ensures.items
    (ap (map mark_of) c.in_ok-from_slice-in_default.ensures.items) refl
