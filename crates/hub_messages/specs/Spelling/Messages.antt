-- Messages in bytes: a byte that says which message it is, and its fields.
use Rattle.std.specs.Prelude.{ℕ, List, [], ◌∷◌, ◌++◌, length}
use Rattle.text_core.specs.Words.{u32_bytes}
use Rattle.text_core.specs.TextBytes.{text_bytes}
use Rattle.hub_messages.specs.declared.up.Up.{Up}
use Rattle.hub_messages.specs.declared.up.Up.TheVariants.{Start, Connect, Event, Ack}
use Rattle.hub_messages.specs.declared.down.Down.{Down}
use Rattle.hub_messages.specs.declared.down.Down.TheVariants.{Started, Connected, Batch, Outcome, Refused, Ended}
use Rattle.hub_messages.specs.Spelling.Fields.{numbers, carried, coded}
use Rattle.hub_messages.specs.Spelling.Codes.{outcome_code, refusal_code, fault_code}

-- a message from a browser; the first field of the first two is the version
unfoldable pub up_bytes : Up → List ℕ
up_bytes Start = 0x01 ∷ 1 ∷ []
up_bytes (Connect number secret applied got) = 0x02 ∷ 1 ∷ numbers (number ∷ secret ∷ applied ∷ got ∷ [])
up_bytes (Event number handler got name text) = 0x03 ∷ numbers (number ∷ handler ∷ got ∷ []) ++ (text_bytes name ++ carried text)
up_bytes (Ack batch got) = 0x04 ∷ numbers (batch ∷ got ∷ [])

-- a message from the server
unfoldable pub down_bytes : Down → List ℕ
down_bytes (Started number secret) = 0x81 ∷ numbers (number ∷ secret ∷ [])
down_bytes (Connected sent last) = 0x82 ∷ numbers (sent ∷ last ∷ [])
down_bytes (Batch number bytes) = 0x83 ∷ numbers (number ∷ []) ++ (u32_bytes (length bytes) ++ bytes)
down_bytes (Outcome event outcome) = 0x84 ∷ numbers (event ∷ []) ++ coded (outcome_code outcome)
down_bytes (Refused refusal) = 0x85 ∷ coded (refusal_code refusal)
down_bytes (Ended fault) = 0x86 ∷ fault_code fault ∷ []
