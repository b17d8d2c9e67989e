-- A browser whose messages are bytes.
use Rattle.std.specs.Prelude.{◌≡◌, ◌⊎◌, ℕ, List, []}
use Rattle.std.specs.List.{AllZip}
use Rattle.page_core.specs.declared.counts.Counts.{Counts}
use Rattle.hub_messages.specs.Spelling.Spells.{SpellsUp, SpellsDown}
use Rattle.hub_messages.specs.declared.answer.Got.{Got}
use Rattle.hub_messages.specs.declared.answer.Got.TheVariants.{OldConnection, Malformed}
use Rattle.hub_messages.specs.declared.down.Down.{Down}
use Rattle.hub_messages.specs.declared.up.Up.{Up}
use Rattle.circuit_meaning.specs.Browser.State.{BrowserState, is_present}
use Rattle.circuit_meaning.specs.Browser.Receives.{Where, Hears}

-- what is sent spells, piece by piece, messages with which this step is made
abbrev pub Sends : List (List ℕ) → (List Up → Type 0) → Type 0
Sends pieces Step = (ups : List Up) × AllZip SpellsUp pieces ups × Step ups

-- an answer with which nothing changes and nothing is sent
abbrev pub OnlySays : {Tree : Type 0} → Got → BrowserState Tree → Got → List (List ℕ) → BrowserState Tree → Type 0
OnlySays answer before got pieces after = (got ≡ answer) × (pieces ≡ []) × (after ≡ before)

-- the bytes spell no message of a server
abbrev pub SpellNone : List ℕ → Type 0
SpellNone bytes = (message : Down) → SpellsDown bytes message → ⊥

-- bytes on the present connection: a message, or malformed
abbrev pub HearsBytes : {Tree : Type 0} → (ℕ → List ℕ → Tree → Tree → Counts → Type 0) → List ℕ → BrowserState Tree → Got → List (List ℕ) → BrowserState Tree → Type 0
HearsBytes turns bytes before got pieces after =
    ((message : Down) × SpellsDown bytes message × Sends pieces (λ ups. Hears turns message before got ups after))
    ⊎ (SpellNone bytes × OnlySays Malformed before got pieces after)

-- bytes on a connection
abbrev pub ReceivesBytes : {Tree : Type 0} → (ℕ → List ℕ → Tree → Tree → Counts → Type 0) → ℕ → List ℕ → BrowserState Tree → Got → List (List ℕ) → BrowserState Tree → Type 0
ReceivesBytes turns connection bytes before got pieces after =
    Where (is_present before.status.connection connection) (HearsBytes turns bytes before got pieces after)
    (OnlySays OldConnection before got pieces after)
