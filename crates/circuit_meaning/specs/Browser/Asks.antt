-- An event at a browser.
use Rattle.std.specs.Prelude.{◌≡◌, ℕ, ◌+◌, ◌-◌, ◌^◌, Bool, ◌||◌, ◌==◌, nat_le, List, [], ◌∷◌, ◌++◌, length, Option, if◌then◌else◌}
use Rattle.hub_messages.specs.declared.answer.Asked.{Asked}
use Rattle.hub_messages.specs.declared.answer.Asked.TheVariants as ask
use Rattle.hub_messages.specs.declared.screen.At.{At}
use Rattle.hub_messages.specs.declared.screen.At.TheVariants.{NoNode, NoHandler, Handler}
use Rattle.hub_messages.specs.declared.up.Up.{Up}
use Rattle.hub_messages.specs.declared.up.Up.TheVariants.{Event}
use Rattle.circuit_meaning.specs.Browser.State.{BrowserState, got_of}
use Rattle.circuit_meaning.specs.Browser.Receives.{Where}

-- an answer with which nothing changes and nothing is sent
abbrev pub OnlyAnswers : {Tree : Type 0} → Asked → BrowserState Tree → Asked → List Up → BrowserState Tree → Type 0
OnlyAnswers answer before asked ups after = (asked ≡ answer) × (ups ≡ []) × (after ≡ before)

-- 64 events are unanswered, or the numbers are spent
abbrev pub is_full : {Tree : Type 0} → BrowserState Tree → Bool
is_full state = nat_le 64 (length state.unanswered) || (state.status.asked == 2 ^ 64 - 1)

-- the next event: it is kept in any case, and sent where the connection is open
abbrev pub AsksNext : {Tree : Type 0} → ℕ → List ℕ → Option (List ℕ) → BrowserState Tree → Asked → List Up → BrowserState Tree → Type 0
AsksNext handler name text before asked ups after =
    (asked ≡ ask.Asked (before.status.asked + 1))
    × (ups ≡ (if before.status.opened then Event (before.status.asked + 1) handler (got_of before) name text ∷ [] else []))
    × (after ≡ record before {
      status = record before.status { asked = before.status.asked + 1 };
      unanswered = before.unanswered ++ record { number = before.status.asked + 1; handler = handler; name = name; text = text } ∷ [];
    })

-- an event on what stands at its path
abbrev pub AsksAt : {Tree : Type 0} → At → List ℕ → Option (List ℕ) → BrowserState Tree → Asked → List Up → BrowserState Tree → Type 0
AsksAt NoNode name text before asked ups after = OnlyAnswers ask.NoNode before asked ups after
AsksAt NoHandler name text before asked ups after = OnlyAnswers ask.NoHandler before asked ups after
AsksAt (Handler handler) name text before asked ups after =
    Where (is_full before) (OnlyAnswers ask.EventsFull before asked ups after) (AsksNext handler name text before asked ups after)

-- an event of this name and text, where the function tells what stands at its path
abbrev pub Asks : {Tree : Type 0} → (Tree → At) → List ℕ → Option (List ℕ) → BrowserState Tree → Asked → List Up → BrowserState Tree → Type 0
Asks found name text before asked ups after =
    Where before.status.over (OnlyAnswers ask.Over before asked ups after) (AsksAt (found before.tree) name text before asked ups after)
