use Rattle.std.proofs.Common.{◌≡◌, ◌++◌, take, drop}
use Rattle.circuit_meaning.specs.Browser.State.{is_unanswered, without}
use Rattle.client_core.proofs.events.UnansweredEvents.answer.Given as goal

-- the events before the place do not have the number
abbrev pub invariant-loop-place : goal.invariant-loop-place
invariant-loop-place l = record {
  same : l.self-inside.events.items ≡ l.initial.self-inside.events.items;
  found : is_unanswered l.number (drop l.place l.self-inside.events.items) ≡ is_unanswered l.number l.self-inside.events.items;
  rest : take l.place l.self-inside.events.items ++ without l.number (drop l.place l.self-inside.events.items) ≡ without l.number l.self-inside.events.items;
}
