-- What calls make of a history.
use Rattle.std.specs.Prelude.{◌≡◌, ℕ, List, Some}
use Rattle.handler_ids.specs.declared.handler_value.HandlerValue.{HandlerValue}
use Rattle.handler_ids.specs.History.{Past, disposed_by}
use Rattle.handler_ids.specs.What.{found, live}
use Rattle.handler_ids.specs.Naming.{IsGiven}

-- calls one after another; one that keeps an id, releases a number or fails changes no history
pub data Calls : List Past → List Past → Type 0 where
  no_call : (history : List Past) → Calls history history
  then_give : (first second third : List Past) (value : HandlerValue) (batch id : ℕ) → Calls first second → IsGiven value batch id second third → Calls first third
  then_dispose : (first second third : List Past) (id batch released : ℕ) (value : HandlerValue) → Calls first second → found second id released ≡ live value → third ≡ disposed_by batch id second → Calls first third

-- an entry keeps its value and the batch that gave it, and the batch that disposed it from when there is one
pub record GoesOn (before after : Past) : Type 0 where
  pub value : after.value ≡ before.value
  pub given : after.given ≡ before.given
  pub disposed : (batch : ℕ) → before.disposed ≡ Some batch → after.disposed ≡ Some batch
