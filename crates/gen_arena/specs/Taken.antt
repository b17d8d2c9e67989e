-- The slots that no item can be put into.
use Rattle.std.specs.Prelude.{ℕ, ◌-◌, ◌^◌, Bool, IsTrue, ◌||◌, not, ◌==◌, List, is_some, count_by, IsSomeAnd, slice_get}
use Rattle.gen_arena.specs.declared.slot.Slot.{Slot}
use Rattle.gen_arena.specs.Slots.{Slots}

module _ {T : Type 0} where
  -- the slot has given its last turn
  abbrev pub is_spent : Slot T → Bool
  is_spent slot = slot.turn == 2 ^ 64 - 1

  -- the slot is live, since it holds an item, or retired: no item is put into it again
  abbrev pub is_taken : Slot T → Bool
  is_taken slot = is_some slot.item || is_spent slot

  -- the slot is neither
  abbrev pub is_free : Slot T → Bool
  is_free slot = not (is_taken slot)

  -- how many slots are live or retired
  abbrev pub taken : Slots T → ℕ
  taken arena = count_by is_taken arena.slots

  -- a free slot stands at this place
  abbrev pub IsFreeAt : List (Slot T) → ℕ → Type 0
  IsFreeAt slots place = IsSomeAnd (slice_get slots place) (λ slot. IsTrue (is_free slot))
