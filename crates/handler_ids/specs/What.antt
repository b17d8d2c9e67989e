-- What an id is.
use Rattle.std.specs.Prelude.{ℕ, nat_lt, if◌then◌else◌, List, Option, Some, None}
use Rattle.handler_ids.specs.declared.handler_value.HandlerValue.{HandlerValue}
use Rattle.handler_ids.specs.declared.found.Found.{Found}
use Rattle.handler_ids.specs.declared.found.Found.TheVariants as answer
use Rattle.handler_ids.specs.History.{Past, at_id}

-- live, held since a batch disposed it, gone since that batch was released, or never given
pub data What : Type 0 where
  live : HandlerValue → What
  held : HandlerValue → ℕ → What
  gone : ℕ → What
  unknown : What

-- an id with this value and the batch that disposed it is held while the batch is above the number released
abbrev pub what_since : HandlerValue → Option ℕ → ℕ → What
what_since value None released = live value
what_since value (Some batch) released = if nat_lt released batch then held value batch else gone batch

-- what an entry makes of its id
abbrev pub what_of : Option Past → ℕ → What
what_of None released = unknown
what_of (Some past) released = what_since past.value past.disposed released

-- what an id is in a history, where batches up to a number are released
abbrev pub found : List Past → ℕ → ℕ → What
found history id released = what_of (at_id history id) released

-- an answer as what it says
abbrev pub seen : Found → What
seen (answer.Live value) = live value.now
seen (answer.Held value batch) = held value.now batch
seen (answer.Gone batch) = gone batch
seen answer.Unknown = unknown
