-- The messages of a browser are short enough to be sent.
use Rattle.std.proofs.Common.{ℕ, ◌^◌, ◌≤◌, List, Option, Some, None, arith}
use Rattle.hub_messages.specs.declared.up.Up.TheVariants.{Start, Connect, Event, Ack}
use Rattle.hub_messages.proofs.SizeLemmas.{up_short}
use Rattle.client_core.specs.EventSize.{event_size}
use Rattle.client_core.specs.Pieces.{IsShort}

pub short_start : IsShort Start
short_start = up_short Start (omega arith)

pub short_connect : (number secret applied got : ℕ) → IsShort (Connect number secret applied got)
short_connect number secret applied got = up_short (Connect number secret applied got) (omega arith)

pub short_event : (number handler got : ℕ) (name : List ℕ) (text : Option (List ℕ)) → event_size name text ≤ 2 ^ 24 → IsShort (Event number handler got name text)
short_event number handler got name None small = up_short (Event number handler got name None) (omega arith)
short_event number handler got name (Some text) small = up_short (Event number handler got name (Some text)) (omega arith)

pub short_ack : (batch got : ℕ) → IsShort (Ack batch got)
short_ack batch got = up_short (Ack batch got) (omega arith)
