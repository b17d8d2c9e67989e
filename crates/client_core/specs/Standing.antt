-- The browser that a client stands for.
use Rattle.std.specs.Prelude.{ℕ, List}
use Rattle.std.specs.Global.{Vec}
use Rattle.hub_messages.specs.declared.up.Up.{Up}
use Rattle.circuit_meaning.specs.Browser.Bytes.{Sends}
use Rattle.circuit_meaning.specs.Browser.State.{BrowserState}
use Rattle.client_core.specs.declared.client.Client.{Client}
use Rattle.client_core.specs.Pieces.{pieces_of}

-- a client keeps a browser's whole state, its tree in the screen
abbrev pub browser_of : {Screen Tree : Type 0} → (Screen → Tree) → Client Screen → BrowserState Tree
browser_of tree client = record { tree = tree client.screen; status = client.status; unanswered = client.unanswered }

-- a call of a client that gives these messages is this step of a browser
abbrev pub Steps : {Screen Tree : Type 0} → (Screen → Tree) → Client Screen → Vec (Vec ℕ) → Client Screen → (BrowserState Tree → List Up → BrowserState Tree → Type 0) → Type 0
Steps tree before sent after Step = Sends (pieces_of sent) (λ ups. Step (browser_of tree before) ups (browser_of tree after))
