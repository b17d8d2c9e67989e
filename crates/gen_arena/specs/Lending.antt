-- What an arena ends as, where a reference to one of its items is given.
use Rattle.std.specs.Prelude.{Option, Some, slice_set}
use Rattle.std.specs.Borrow.{Lends, LendsIf, Fml, RattleType, MutBor}
use Rattle.gen_arena.specs.declared.handle.Handle.{Handle}
use Rattle.gen_arena.specs.declared.slot.Slot.{Slot}
use Rattle.gen_arena.specs.Slots.{Slots}
use Rattle.gen_arena.specs.contracts.arena.Arena.{the_row}

module _ {T : Type 0} where
  -- the slot with this item
  abbrev pub with_value : Slot T → T → Slot T
  with_value slot item = record slot { item = Some item }

  -- the arena with this item under a handle
  abbrev pub with_item : Slots T → Handle → T → Slots T
  with_item arena handle item = record arena { slots = slice_set arena.slots handle.slot (record { turn = handle.turn; item = Some item }) }

module _ (T : RattleType) (arena : MutBor (Slots T.Denot)) (handle : Handle) where
  -- once the borrow r ends, the handle has the last value written through r
  abbrev pub lends_item : MutBor T.Denot → Fml
  lends_item r = Lends (the_row T) T arena r (with_item arena.now handle)

  -- the same where r is a reference, and at `None` the arena stays as it is
  abbrev pub lends_found : Option (MutBor T.Denot) → Fml
  lends_found r = LendsIf (the_row T) T arena r (with_item arena.now handle) arena.now
