-- Which handles were ever given.
use Rattle.std.specs.Prelude.{◌≡◌, ◌≤◌, None, IsSomeAnd, slice_get}
use Rattle.gen_arena.specs.declared.handle.Handle.{Handle}
use Rattle.gen_arena.specs.Slots.{Slots}
use Rattle.gen_arena.specs.Finding.{found}

module _ {T : Type 0} where
  -- the handle was given at some time: its slot has given this turn, since turns rise
  abbrev pub WasGiven : Slots T → Handle → Type 0
  WasGiven arena handle = IsSomeAnd (slice_get arena.slots handle.slot) (λ slot. handle.turn ≤ slot.turn)

  -- the handle was given, and finds nothing now
  abbrev pub IsDead : Slots T → Handle → Type 0
  IsDead arena handle = WasGiven arena handle × (found arena handle ≡ None)
