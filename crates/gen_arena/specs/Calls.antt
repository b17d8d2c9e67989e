-- What each call makes of an arena.
use Rattle.std.specs.Prelude.{◌≡◌, ℕ, ◌+◌, ◌-◌, ◌^◌, ◌<◌, ◌==◌, ◌⊎◌, ◌↔◌, if◌then◌else◌, max, length, [], Some, None}
use Rattle.gen_arena.specs.declared.handle.Handle.{Handle}
use Rattle.gen_arena.specs.Slots.{Slots}
use Rattle.gen_arena.specs.Taken.{taken}
use Rattle.gen_arena.specs.Finding.{found, FindsAlone}
use Rattle.gen_arena.specs.Given.{WasGiven}

module _ {T : Type 0} where
  -- no slot, and so no handle was given
  pub record IsNew (limit : ℕ) (arena : Slots T) : Type 0 where
    pub empty : arena.slots ≡ []
    pub limit_is : arena.limit ≡ limit

  -- a handle that was never given before is given for an item; a slot is made only where none is free
  pub record Gives (old : Slots T) (handle : Handle) (item : T) (new : Slots T) : Type 0 where
    pub fresh : WasGiven old handle → ⊥
    pub within : handle.slot < old.limit
    pub finds : FindsAlone old new handle (Some item)
    pub given : (other : Handle) → WasGiven new other ↔ (WasGiven old other ⊎ (other ≡ handle))
    pub one_more : taken new ≡ taken old + 1
    pub slots : length new.slots ≡ max (length old.slots) (taken new)
    pub limit : new.limit ≡ old.limit

  -- the item of a handle is taken out; its slot is free, or retired where it has given its last turn
  pub record Removes (old : Slots T) (handle : Handle) (new : Slots T) : Type 0 where
    pub finds : FindsAlone old new handle None
    pub given : (other : Handle) → WasGiven new other ↔ WasGiven old other
    pub was_given : WasGiven new handle
    pub one_less : taken new ≡ (if handle.turn == 2 ^ 64 - 1 then taken old else taken old - 1)
    pub slots : length new.slots ≡ length old.slots
    pub limit : new.limit ≡ old.limit

  -- another item is written for a handle that finds one
  pub record Writes (old : Slots T) (handle : Handle) (item : T) (new : Slots T) : Type 0 where
    pub finds : FindsAlone old new handle (Some item)
    pub was_live : found old handle ≡ None → ⊥
    pub given : (other : Handle) → WasGiven new other ↔ WasGiven old other
    pub taken_still : taken new ≡ taken old
    pub slots : length new.slots ≡ length old.slots
    pub limit : new.limit ≡ old.limit

  -- calls one after another; those that fail change nothing
  pub data Calls : Slots T → Slots T → Type 0 where
    no_call : (arena : Slots T) → Calls arena arena
    then_insert : (first second third : Slots T) (handle : Handle) (item : T) → Calls first second → Gives second handle item third → Calls first third
    then_remove : (first second third : Slots T) (handle : Handle) → Calls first second → Removes second handle third → Calls first third
    then_write : (first second third : Slots T) (handle : Handle) (item : T) → Calls first second → Writes second handle item third → Calls first third
