use Rattle.std.proofs.Common.{◌≤◌, length}
use Rattle.hub_messages.specs.declared.up.Up.TheVariants.{Event}
use Rattle.hub_messages.specs.Spelling.Messages.{up_bytes}
use Rattle.hub_messages.proofs.UpLemmas.{event_short}
use Rattle.hub_messages.proofs.encode.put_up.Goals as goal

pub put_name-requires : goal.put_name-requires
put_name-requires c =
    let short : length (up_bytes (Event c.in-Event.number c.in-Event.handler c.in-Event.got c.in-Event.name c.in-Event.text)) ≤ 33554432 = rw c.in-Event.is at c.requires in
    (event_short c.in-Event.number c.in-Event.handler c.in-Event.got c.in-Event.name c.in-Event.text short).0
