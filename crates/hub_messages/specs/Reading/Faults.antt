-- Why a reading fails.
use Rattle.std.specs.Prelude.{◌≡◌, Option, Some, None, Result, Ok, Err}
use Rattle.text_core.specs.declared.wire_fault.WireFault.{WireFault}
use Rattle.text_core.specs.declared.wire_fault.WireFault.TheVariants as wire
use Rattle.hub_messages.specs.declared.hub_fault.HubFault.{HubFault}
use Rattle.hub_messages.specs.declared.hub_fault.HubFault.TheVariants.{Malformed, Oom}

-- whatever is wrong with a text, the message is malformed
abbrev pub hub_fault : WireFault → HubFault
hub_fault wire.BadLength = Malformed
hub_fault wire.Short = Malformed
hub_fault wire.BadUtf8 = Malformed
hub_fault wire.Oom = Oom

-- a call gave what was read, seen by view; or nothing was read; or memory ran out
abbrev pub Gives : {X Y : Type 0} → (X → Y) → Result X HubFault → Option Y → Type 0
Gives view (Ok given) read = read ≡ Some (view given)
Gives view (Err Malformed) read = read ≡ None
Gives view (Err Oom) read = Unit {0}
