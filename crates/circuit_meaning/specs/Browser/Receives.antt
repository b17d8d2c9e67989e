-- What a message makes of a browser.
use Rattle.std.specs.Prelude.{◌≡◌, ◌≢◌, ℕ, ◌+◌, Bool, true, false, nat_lt, nat_le, List, [], ◌∷◌, Option, Some, if◌then◌else◌}
use Rattle.page_core.specs.declared.counts.Counts.{Counts}
use Rattle.page_core.specs.declared.faults.ApplyFault.TheVariants as ap
use Rattle.page_core.specs.declared.faults.BatchFault.TheVariants as br
use Rattle.hub_messages.specs.Screen.{HasNone}
use Rattle.hub_messages.specs.declared.answer.Got.{Got}
use Rattle.hub_messages.specs.declared.answer.Got.TheVariants.{OldConnection, Opened, Refused, Ended, NotOpen, Answered, AnsweredAgain, Stray, AgainAcked, NotNext, Applied, BadBatch}
use Rattle.hub_messages.specs.declared.down.Down.{Down}
use Rattle.hub_messages.specs.declared.down.Down.TheVariants as dn
use Rattle.hub_messages.specs.declared.outcome.Outcome.{Outcome}
use Rattle.hub_messages.specs.declared.outcome.Refusal.{Refusal}
use Rattle.hub_messages.specs.declared.outcome.Refusal.TheVariants.{CircuitUnknown, BatchesGone}
use Rattle.hub_messages.specs.declared.screen.ScreenFault.TheVariants as sf
use Rattle.hub_messages.specs.declared.up.Up.{Up}
use Rattle.circuit_meaning.specs.declared.browser.CircuitKey.{CircuitKey}
use Rattle.circuit_meaning.specs.Browser.State.{BrowserState, is_present, is_unanswered, without, was_asked}
use Rattle.circuit_meaning.specs.Browser.Greeting.{events_again, acknowledgement}

-- the first of two statements where a test holds, else the second
abbrev pub Where : Bool → Type 0 → Type 0 → Type 0
Where true yes_then otherwise = yes_then
Where false yes_then otherwise = otherwise

-- an answer with which nothing changes and nothing is sent
abbrev pub Only : {Tree : Type 0} → Got → BrowserState Tree → Got → List Up → BrowserState Tree → Type 0
Only answer before got ups after = (got ≡ answer) × (ups ≡ []) × (after ≡ before)

-- the connection is open: the unanswered events are sent again
abbrev pub Opens : {Tree : Type 0} → Option CircuitKey → BrowserState Tree → Got → List Up → BrowserState Tree → Type 0
Opens circuit before got ups after =
    (got ≡ Opened) × (ups ≡ events_again before)
    × (after ≡ record before { status = record before.status { opened = true; circuit = circuit } })

-- a refusal after which the circuit is gone for good
abbrev pub is_final : Refusal → Bool
is_final CircuitUnknown = true
is_final (BatchesGone acked) = true
is_final _ = false

-- the batch that is next is applied and acknowledged, or it is no batch for the tree, and not for want of memory
abbrev pub Turned : {Tree : Type 0} → (ℕ → List ℕ → Tree → Tree → Counts → Type 0) → ℕ → List ℕ → BrowserState Tree → Got → List Up → BrowserState Tree → Type 0
Turned turns number bytes before (Applied applied counts) ups after =
    (applied ≡ number) × turns number bytes before.tree after.tree counts
    × (after ≡ record before { tree = after.tree; status = record before.status { applied = number } })
    × (ups ≡ acknowledgement after ∷ [])
Turned turns number bytes before (BadBatch (sf.Read fault)) ups after =
    (fault ≢ br.Oom) × HasNone turns number bytes before.tree × (ups ≡ []) × (after ≡ before)
Turned turns number bytes before (BadBatch (sf.Apply fault)) ups after =
    (fault ≢ ap.Oom) × HasNone turns number bytes before.tree × (ups ≡ []) × (after ≡ before)
Turned turns number bytes before got ups after = ⊥

-- a batch that was applied before, one that is not the next, or the next one
abbrev pub TakesBatch : {Tree : Type 0} → (ℕ → List ℕ → Tree → Tree → Counts → Type 0) → ℕ → List ℕ → BrowserState Tree → Got → List Up → BrowserState Tree → Type 0
TakesBatch turns number bytes before got ups after =
    Where (nat_le number before.status.applied)
    ((got ≡ AgainAcked number) × (ups ≡ acknowledgement before ∷ []) × (after ≡ before))
    (Where (nat_lt (before.status.applied + 1) number)
    (Only (NotNext (before.status.applied + 1)) before got ups after)
    (Turned turns number bytes before got ups after))

-- the outcome of an event that is unanswered, of one that was answered before, or of none that was ever sent
abbrev pub TakesOutcome : {Tree : Type 0} → ℕ → Outcome → BrowserState Tree → Got → List Up → BrowserState Tree → Type 0
TakesOutcome event outcome before got ups after =
    Where (is_unanswered event before.unanswered)
    ((got ≡ Answered event outcome) × (ups ≡ []) × (after ≡ record before { unanswered = without event before.unanswered }))
    (Where (was_asked before.status.asked event)
    (Only (AnsweredAgain event) before got ups after)
    (Only Stray before got ups after))

-- a message on the present connection
abbrev pub Hears : {Tree : Type 0} → (ℕ → List ℕ → Tree → Tree → Counts → Type 0) → Down → BrowserState Tree → Got → List Up → BrowserState Tree → Type 0
Hears turns (dn.Started number secret) before got ups after =
    Where before.status.opened (Only (AnsweredAgain 0) before got ups after)
    (Opens (Some (record { number = number; secret = secret })) before got ups after)
Hears turns (dn.Connected sent last) before got ups after =
    Where before.status.opened (Only (AnsweredAgain 0) before got ups after) (Opens before.status.circuit before got ups after)
Hears turns (dn.Refused refusal) before got ups after =
    (got ≡ Refused refusal) × (ups ≡ [])
    × (after ≡ record before { status = record before.status { over = if is_final refusal then true else before.status.over } })
Hears turns (dn.Ended fault) before got ups after =
    (got ≡ Ended fault) × (ups ≡ []) × (after ≡ record before { status = record before.status { over = true } })
Hears turns (dn.Batch number bytes) before got ups after =
    Where before.status.opened (TakesBatch turns number bytes before got ups after) (Only NotOpen before got ups after)
Hears turns (dn.Outcome event outcome) before got ups after =
    Where before.status.opened (TakesOutcome event outcome before got ups after) (Only NotOpen before got ups after)

-- a message on a connection
abbrev pub Receives : {Tree : Type 0} → (ℕ → List ℕ → Tree → Tree → Counts → Type 0) → ℕ → Down → BrowserState Tree → Got → List Up → BrowserState Tree → Type 0
Receives turns connection message before got ups after =
    Where (is_present before.status.connection connection) (Hears turns message before got ups after)
    (Only OldConnection before got ups after)
