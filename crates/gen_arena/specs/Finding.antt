-- What a handle finds.
use Rattle.std.specs.Prelude.{◌≡◌, ◌≢◌, ℕ, ◌==◌, if◌then◌else◌, Option, Some, None, slice_get}
use Rattle.gen_arena.specs.declared.handle.Handle.{Handle}
use Rattle.gen_arena.specs.declared.slot.Slot.{Slot}
use Rattle.gen_arena.specs.Slots.{Slots}

module _ {T : Type 0} where
  -- the item that a slot holds, if there is such a slot and this is the turn that it gave last
  abbrev pub item_on : Option (Slot T) → ℕ → Option T
  item_on None turn = None
  item_on (Some slot) turn = if slot.turn == turn then slot.item else None

  -- the item that a handle finds: it is live where it finds one
  abbrev pub found : Slots T → Handle → Option T
  found arena handle = item_on (slice_get arena.slots handle.slot) handle.turn

  -- the handle finds this from then on, and every other handle what it found
  pub record FindsAlone (old new : Slots T) (handle : Handle) (item : Option T) : Type 0 where
    pub changed : found new handle ≡ item
    pub others : (other : Handle) → other ≢ handle → found new other ≡ found old other
