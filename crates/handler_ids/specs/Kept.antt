-- What is kept of a history.
use Rattle.std.specs.Prelude.{◌≡◌, ℕ, nat_lt, nat_le, if◌then◌else◌, List, map, Option, Some, None}
use Rattle.handler_ids.specs.declared.handler_value.HandlerValue.{HandlerValue}
use Rattle.handler_ids.specs.declared.entry.Entry.{Entry}
use Rattle.handler_ids.specs.declared.entry.Entry.TheVariants as entry
use Rattle.handler_ids.specs.History.{Past, at_id}
use Rattle.handler_ids.specs.What.{What, live, held, gone, unknown}

-- what is kept of each id, and the greatest number released
pub record Kept : Type 0 where
  pub entries : List Entry
  pub released : ℕ

-- of an entry all is kept but the batch that gave it, and the value of an id that is gone
abbrev pub kept_since : HandlerValue → Option ℕ → ℕ → Entry
kept_since value None released = entry.Live value
kept_since value (Some batch) released = if nat_lt released batch then entry.Held value batch else entry.Gone batch

abbrev pub kept_of : ℕ → Past → Entry
kept_of released past = kept_since past.value past.disposed released

-- what is kept where batches up to a number are released besides
abbrev pub without_value : ℕ → Entry → Entry
without_value released (entry.Live value) = entry.Live value
without_value released (entry.Held value batch) = if nat_le batch released then entry.Gone batch else entry.Held value batch
without_value released (entry.Gone batch) = entry.Gone batch

-- a history that is kept so
abbrev pub Stands : Kept → List Past → Type 0
Stands kept history = kept.entries ≡ map (kept_of kept.released) history

-- there is such a history
abbrev pub StandsForSome : Kept → Type 0
StandsForSome kept = (history : List Past) × Stands kept history

-- what an id is by what is kept of it
abbrev pub what_is_kept : Option Entry → What
what_is_kept None = unknown
what_is_kept (Some (entry.Live value)) = live value
what_is_kept (Some (entry.Held value batch)) = held value batch
what_is_kept (Some (entry.Gone batch)) = gone batch

abbrev pub what_kept : Kept → ℕ → What
what_kept kept id = what_is_kept (at_id kept.entries id)

-- the id is live with this value
abbrev pub HasValue : Kept → ℕ → HandlerValue → Type 0
HasValue kept id value = what_kept kept id ≡ live value

-- the id is live
abbrev pub IsLive : Kept → ℕ → Type 0
IsLive kept id = (value : HandlerValue) × HasValue kept id value

-- each history that was kept before leads by this relation to one that is kept after, and as much is released
abbrev pub Leads : Kept → Kept → (List Past → List Past → Type 0) → Type 0
Leads before after relation =
    (after.released ≡ before.released) ×
    ((history : List Past) → Stands before history → (next : List Past) × Stands after next × relation history next)
