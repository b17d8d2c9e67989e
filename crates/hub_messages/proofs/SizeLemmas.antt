-- How long messages are.
use Rattle.std.proofs.Common.{◌≡◌, ℕ, ◌+◌, ◌*◌, ◌≤◌, List, [], ◌∷◌, ◌++◌, length, Some, None, arith}
use Rattle.std.specs.declared.option.Option.{Option}
use Rattle.std.specs.Prelude.{encode_utf8_all}
use Rattle.std.proofs.lemmas.List.{length-append}
use Rattle.text_core.specs.Words.{u64_bytes, u32_bytes}
use Rattle.text_core.specs.TextBytes.{text_bytes}
use Rattle.text_core.proofs.WordLemmas.{length-u64_bytes, length-u32_bytes}
use Rattle.text_core.proofs.TextByteLemmas.{length-text_bytes}
use Rattle.hub_messages.specs.declared.up.Up.{Up}
use Rattle.hub_messages.specs.declared.up.Up.TheVariants.{Start, Connect, Event, Ack}
use Rattle.hub_messages.specs.declared.down.Down.{Down}
use Rattle.hub_messages.specs.declared.down.Down.TheVariants.{Started, Connected, Batch, Outcome, Refused, Ended}
use Rattle.hub_messages.specs.Spelling.Fields.{numbers, carried, coded}
use Rattle.hub_messages.specs.Spelling.Codes.{outcome_code, refusal_code}
use Rattle.hub_messages.specs.Spelling.Messages.{up_bytes, down_bytes}

-- the bytes of the text that an event carries
abbrev pub carried_size : Option (List ℕ) → ℕ
carried_size None = 0
carried_size (Some text) = length (encode_utf8_all text)

-- the bytes of the texts of a message
abbrev pub up_size : Up → ℕ
up_size Start = 0
up_size (Connect number secret applied got) = 0
up_size (Event number handler got name text) = length (encode_utf8_all name) + carried_size text
up_size (Ack batch got) = 0

-- the bytes of the batch of a message
abbrev pub down_size : Down → ℕ
down_size (Started number secret) = 0
down_size (Connected sent last) = 0
down_size (Batch number bytes) = length bytes
down_size (Outcome event outcome) = 0
down_size (Refused refusal) = 0
down_size (Ended fault) = 0

length-numbers : (values : List ℕ) → length (numbers values) ≡ 8 * length values
length-numbers [] = omega arith
length-numbers (value ∷ values) =
    omega (arith, length-append (u64_bytes value) (numbers values), length-u64_bytes value, length-numbers values)

length-carried : (text : Option (List ℕ)) → length (carried text) ≤ 5 + carried_size text
length-carried None = omega arith
length-carried (Some text) = omega (arith, length-text_bytes text)

length-coded : (p : ℕ × Option ℕ) → length (coded p) ≤ 9
length-coded (code, None) = omega arith
length-coded (code, Some value) = omega (arith, length-u64_bytes value)

-- a message whose texts are not too long can be spelled
pub up_short : (message : Up) → up_size message ≤ 33554368 → length (up_bytes message) ≤ 33554432
unfolding up_bytes
up_short Start small = omega arith
up_short (Connect number secret applied got) small = omega (arith, length-numbers (number ∷ secret ∷ applied ∷ got ∷ []))
up_short (Event number handler got name text) small =
    omega (
      arith,
      length-append (numbers (number ∷ handler ∷ got ∷ [])) (text_bytes name ++ carried text),
      length-append (text_bytes name) (carried text),
      length-numbers (number ∷ handler ∷ got ∷ []),
      length-text_bytes name,
      length-carried text,
    )
up_short (Ack batch got) small = omega (arith, length-numbers (batch ∷ got ∷ []))

-- a message whose batch is not too long can be spelled
pub down_short : (message : Down) → down_size message ≤ 33554368 → length (down_bytes message) ≤ 33554432
unfolding down_bytes
down_short (Started number secret) small = omega (arith, length-numbers (number ∷ secret ∷ []))
down_short (Connected sent last) small = omega (arith, length-numbers (sent ∷ last ∷ []))
down_short (Batch number bytes) small =
    omega (
      arith,
      length-append (numbers (number ∷ [])) (u32_bytes (length bytes) ++ bytes),
      length-append (u32_bytes (length bytes)) bytes,
      length-numbers (number ∷ []),
      length-u32_bytes (length bytes),
    )
down_short (Outcome event outcome) small =
    omega (
      arith,
      length-append (numbers (event ∷ [])) (coded (outcome_code outcome)),
      length-numbers (event ∷ []),
      length-coded (outcome_code outcome),
    )
down_short (Refused refusal) small = omega (arith, length-coded (refusal_code refusal))
down_short (Ended fault) small = omega arith
