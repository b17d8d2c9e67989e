-- Messages to the server, as bytes.
use Rattle.std.specs.Prelude.{ℕ, ◌≤◌, List, length, map}
use Rattle.std.specs.List.{AllZip}
use Rattle.std.specs.Global.{Vec}
use Rattle.hub_messages.specs.Spelling.Messages.{up_bytes}
use Rattle.hub_messages.specs.Spelling.Spells.{SpellsUp}
use Rattle.hub_messages.specs.declared.up.Up.{Up}

-- the bytes of each message
abbrev pub pieces_of : Vec (Vec ℕ) → List (List ℕ)
pieces_of sent = map (λ bytes. bytes.items) sent.items

-- they spell these messages, one after another
abbrev pub SpellAll : Vec (Vec ℕ) → List Up → Type 0
SpellAll sent ups = AllZip SpellsUp (pieces_of sent) ups

-- the bytes of a message are not too many
abbrev pub IsShort : Up → Type 0
IsShort up = length (up_bytes up) ≤ 33554432
