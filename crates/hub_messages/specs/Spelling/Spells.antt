-- Which bytes spell which message.
use Rattle.std.specs.Prelude.{◌≡◌, ℕ, ◌<◌, ◌≤◌, ◌^◌, List, [], ◌∷◌, length, Option, Some, None, IsTrue, encode_utf8_all}
use Rattle.std.specs.Str.{all_scalars}
use Rattle.hub_messages.specs.declared.up.Up.{Up}
use Rattle.hub_messages.specs.declared.up.Up.TheVariants.{Start, Connect, Event, Ack}
use Rattle.hub_messages.specs.declared.down.Down.{Down}
use Rattle.hub_messages.specs.declared.down.Down.TheVariants.{Started, Connected, Batch, Outcome, Refused, Ended}
use Rattle.hub_messages.specs.Spelling.Codes.{outcome_code, refusal_code}
use Rattle.hub_messages.specs.Spelling.Messages.{up_bytes, down_bytes}

-- these are numbers of 64 bits
abbrev pub AreNumbers : List ℕ → Type 0
AreNumbers [] = Unit {0}
AreNumbers (value ∷ values) = (value < 2 ^ 64) × AreNumbers values

-- a list of characters is a text, and its length can be said
pub record IsText (text : List ℕ) : Type 0 where
  pub scalars : IsTrue (all_scalars text)
  pub short : length (encode_utf8_all text) < 2 ^ 28

-- so is what an event carries
abbrev pub IsCarried : Option (List ℕ) → Type 0
IsCarried None = Unit {0}
IsCarried (Some text) = IsText text

-- the number that comes with a code is one of 64 bits
abbrev pub IsCoded : ℕ × Option ℕ → Type 0
IsCoded (code, None) = Unit {0}
IsCoded (code, Some value) = value < 2 ^ 64

-- the fields of a message are such numbers and texts
unfoldable pub IsUp : Up → Type 0
IsUp Start = Unit {0}
IsUp (Connect number secret applied got) = AreNumbers (number ∷ secret ∷ applied ∷ got ∷ [])
IsUp (Event number handler got name text) = AreNumbers (number ∷ handler ∷ got ∷ []) × IsText name × IsCarried text
IsUp (Ack batch got) = AreNumbers (batch ∷ got ∷ [])

unfoldable pub IsDown : Down → Type 0
IsDown (Started number secret) = AreNumbers (number ∷ secret ∷ [])
IsDown (Connected sent last) = AreNumbers (sent ∷ last ∷ [])
IsDown (Batch number bytes) = (number < 2 ^ 64) × (length bytes < 2 ^ 32)
IsDown (Outcome event outcome) = (event < 2 ^ 64) × IsCoded (outcome_code outcome)
IsDown (Refused refusal) = IsCoded (refusal_code refusal)
IsDown (Ended fault) = Unit {0}

-- these bytes spell this message of a browser
pub record SpellsUp (bytes : List ℕ) (message : Up) : Type 0 where
  pub spelled : bytes ≡ up_bytes message
  pub sayable : IsUp message
  pub short : length bytes ≤ 33554432

-- these bytes spell this message of the server
pub record SpellsDown (bytes : List ℕ) (message : Down) : Type 0 where
  pub spelled : bytes ≡ down_bytes message
  pub sayable : IsDown message
  pub short : length bytes ≤ 33554432
