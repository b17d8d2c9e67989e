-- Pairs that are told from both sides match.
use Rattle.std.proofs.Common.{◌≡◌, ◌∙◌, ap, sym, subst, ℕ, List, length, map, Option}
use Rattle.std.proofs.lemmas.List.{length-map}
use Rattle.pairing_meaning.specs.Slots.{Slot, addresses, same_address}
use Rattle.pairing_meaning.specs.Births.{TellsSlots}
use Rattle.item_pairing.proofs.LabelLemmas.{address_told, address_self}
use Rattle.item_pairing.proofs.FoundLemmas.{tells-back}
use Rattle.sibling_edits.specs.Matched.{Matched}

pub tells-matched : (olds news : List Slot) (from to : List (Option ℕ)) → TellsSlots olds news from → TellsSlots news olds to → Matched from to
tells-matched olds news from to there back = record {
  there = tells-back same_address address_told address_self (addresses olds) (addresses news) from to there back;
  back = tells-back same_address address_told address_self (addresses news) (addresses olds) to from back there;
}

-- as long as the slots
pub tells-long : (olds news : List Slot) (from : List (Option ℕ)) → TellsSlots olds news from → length from ≡ length news
tells-long olds news from tells = tells.long ∙ length-map news (λ (slot : Slot). slot.address)
