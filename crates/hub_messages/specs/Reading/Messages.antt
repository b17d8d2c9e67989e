-- How whole messages are read.
use Rattle.std.specs.Prelude.{ℕ, List, length, drop, Option, Some, None, if◌then◌else◌, ◌==◌}
use Rattle.text_core.specs.Words.{u32_at}
use Rattle.hub_messages.specs.declared.up.Up.{Up}
use Rattle.hub_messages.specs.declared.up.Up.TheVariants.{Start, Connect, Event, Ack}
use Rattle.hub_messages.specs.declared.down.Down.{Down}
use Rattle.hub_messages.specs.declared.down.Down.TheVariants.{Started, Connected, Batch, Outcome, Refused, Ended}
use Rattle.hub_messages.specs.Options.{◌>>=◌}
use Rattle.hub_messages.specs.Reading.Fields.{byte_at, number_at, pair_at, name_at, nothing_in, carried_in, number_in}
use Rattle.hub_messages.specs.Reading.Codes.{outcome_of, refusal_of, fault_of}

unfoldable pub start_in : List ℕ → Option Up
start_in bytes = byte_at bytes >>= λ version. if version.0 == 1 then (nothing_in version.1 >>= λ _. Some Start) else None

unfoldable pub connect_in : List ℕ → Option Up
connect_in bytes =
    byte_at bytes
    >>= λ version. if version.0 == 1
    then (pair_at version.1 >>= λ first. pair_at first.1 >>= λ second. nothing_in second.1 >>= λ _. Some (Connect first.0.0 first.0.1 second.0.0 second.0.1))
    else None

unfoldable pub event_in : List ℕ → Option Up
event_in bytes = do
  number ← number_at bytes
  pair ← pair_at number.1
  name ← name_at pair.1
  text ← carried_in name.1
  Some (Event number.0 pair.0.0 pair.0.1 name.0 text)

unfoldable pub ack_in : List ℕ → Option Up
ack_in bytes = pair_at bytes >>= λ pair. nothing_in pair.1 >>= λ _. Some (Ack pair.0.0 pair.0.1)

-- a message of a browser
unfoldable pub up_in : List ℕ → Option Up
up_in bytes =
    byte_at bytes
    >>= λ first. if first.0 == 0x01 then start_in first.1
    else if first.0 == 0x02 then connect_in first.1
    else if first.0 == 0x03 then event_in first.1
    else if first.0 == 0x04 then ack_in first.1
    else None

unfoldable pub started_in : List ℕ → Option Down
started_in bytes = pair_at bytes >>= λ pair. nothing_in pair.1 >>= λ _. Some (Started pair.0.0 pair.0.1)

unfoldable pub connected_in : List ℕ → Option Down
connected_in bytes = pair_at bytes >>= λ pair. nothing_in pair.1 >>= λ _. Some (Connected pair.0.0 pair.0.1)

unfoldable pub batch_in : List ℕ → Option Down
batch_in bytes = do
  number ← number_at bytes
  size ← u32_at number.1
  if length (drop 4 number.1) == size then Some (Batch number.0 (drop 4 number.1)) else None

unfoldable pub outcome_in : List ℕ → Option Down
outcome_in bytes = do
  event ← number_at bytes
  code ← byte_at event.1
  value ← number_in code.1
  outcome ← outcome_of code.0 value
  Some (Outcome event.0 outcome)

unfoldable pub refused_in : List ℕ → Option Down
refused_in bytes = do
  code ← byte_at bytes
  value ← number_in code.1
  refusal ← refusal_of code.0 value
  Some (Refused refusal)

unfoldable pub ended_in : List ℕ → Option Down
ended_in bytes = do
  code ← byte_at bytes
  why ← fault_of code.0
  nothing ← nothing_in code.1
  Some (Ended why)

-- a message of the server
unfoldable pub down_in : List ℕ → Option Down
down_in bytes =
    byte_at bytes
    >>= λ first. if first.0 == 0x81 then started_in first.1
    else if first.0 == 0x82 then connected_in first.1
    else if first.0 == 0x83 then batch_in first.1
    else if first.0 == 0x84 then outcome_in first.1
    else if first.0 == 0x85 then refused_in first.1
    else if first.0 == 0x86 then ended_in first.1
    else None
