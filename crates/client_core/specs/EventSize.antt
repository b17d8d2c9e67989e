-- How much an event carries.
use Rattle.std.specs.Prelude.{ℕ, ◌+◌, ◌^◌, ◌≤◌, List, length, Option, Some, None, encode_utf8_all}
use Rattle.circuit_meaning.specs.declared.browser.UnansweredEvent.{UnansweredEvent}

-- the bytes of an event's name and of the text that it carries, in UTF-8
abbrev pub event_size : List ℕ → Option (List ℕ) → ℕ
event_size name None = length (encode_utf8_all name)
event_size name (Some text) = length (encode_utf8_all name) + length (encode_utf8_all text)

-- an event that is small enough to be sent
abbrev pub IsSendable : UnansweredEvent → Type 0
IsSendable event = event_size event.name event.text ≤ 2 ^ 24
