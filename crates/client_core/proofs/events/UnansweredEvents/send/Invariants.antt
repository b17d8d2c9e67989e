use Rattle.std.proofs.Common.{List, ◌++◌, take}
use Rattle.hub_messages.specs.declared.up.Up.{Up}
use Rattle.circuit_meaning.specs.Browser.Greeting.{event_messages}
use Rattle.client_core.specs.Pieces.{SpellAll}
use Rattle.client_core.proofs.events.UnansweredEvents.send.Given as goal

-- the messages of the events so far stand behind those of before
abbrev pub invariant-loop-event : goal.invariant-loop-event
invariant-loop-event l =
    (before : List Up) → SpellAll l.fn.ups before → SpellAll l.ups (before ++ event_messages l.got (take l.event-index l.event-items))
