-- Which id a handler value gets.
use Rattle.std.specs.Prelude.{◌≡◌, ℕ, ◌+◌, List, [], ◌∷◌, ◌++◌, length, Option, Some, None}
use Rattle.handler_ids.specs.declared.handler_value.HandlerValue.{HandlerValue}
use Rattle.handler_ids.specs.History.{Past}
use Rattle.handler_ids.specs.What.{What, found, live}

-- the id is one above the last, and the history goes on with its entry
pub record IsGiven (value : HandlerValue) (batch id : ℕ) (history next : List Past) : Type 0 where
  pub above : id ≡ length history + 1
  pub entry : next ≡ history ++ record { value = value; given = batch; disposed = None } ∷ []

-- the old id, if there is one, is live with this value
abbrev pub StandsFor : (ℕ → What) → Option ℕ → HandlerValue → Type 0
StandsFor what None value = ⊥
StandsFor what (Some id) value = what id ≡ live value

-- the old id is kept where it stands for this value, and else the next id is given
pub record IsNamed (released : ℕ) (old : Option ℕ) (value : HandlerValue) (batch id : ℕ) (history next : List Past) : Type 0 where
  pub kept : StandsFor (λ k. found history k released) old value → (old ≡ Some id) × (next ≡ history)
  pub given : (StandsFor (λ k. found history k released) old value → ⊥) → IsGiven value batch id history next
