-- Slots as the definitions have them.
use Rattle.std.specs.Prelude.{ℕ, List, ◌++◌, map}
use Rattle.frame_core.specs.declared.item.Item.{Item}
use Rattle.pairing_meaning.specs.Labels.{label_of}
use Rattle.pairing_meaning.specs.Slots.{Mark, Address, Slot, laid_of}
use Rattle.item_pairing.specs.declared.slots.Around.{Around}
use Rattle.item_pairing.specs.declared.slots.Slot.{Slot as Held}

abbrev pub mark_of : Around → Mark
mark_of around = record { label = label_of around.region.now; before = around.before }

abbrev pub address_of : Held → Address
address_of slot = record { regions = map mark_of slot.regions.items; label = label_of slot.item.now }

abbrev pub slot_of : Held → Slot
slot_of slot = record { address = address_of slot; item = slot.item.now }

-- a slot with these regions round it besides
abbrev pub behind : List Mark → Slot → Slot
behind marks slot = record { address = record { regions = marks ++ slot.address.regions; label = slot.address.label }; item = slot.item }

-- the slots of an item, where so many of the same stand before it
abbrev pub slots_at : Item → ℕ → List Slot
slots_at item before = (laid_of item).slots before
