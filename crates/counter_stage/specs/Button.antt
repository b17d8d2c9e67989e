-- What stands at a path of a counter's page for an event.
use Rattle.std.specs.Prelude.{ℕ, ◌==◌, Bool, false, List, [], ◌∷◌, codes, if◌then◌else◌}
use Rattle.std.specs.Str.{bytes_eq}
use Rattle.hub_messages.specs.declared.screen.At.{At}
use Rattle.hub_messages.specs.declared.screen.At.TheVariants.{NoNode, NoHandler, Handler}

-- a path of one step, to the first node
abbrev pub is_first : List ℕ → Bool
is_first (place ∷ []) = place == 0
is_first path = false

-- what stands there where a button is shown
abbrev pub found_by : List ℕ → List ℕ → At
found_by path event = if is_first path then (if bytes_eq event (codes "onclick") then Handler 1 else NoHandler) else NoNode
