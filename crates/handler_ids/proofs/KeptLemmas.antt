-- What is kept of a history, and what each call makes of it.
use Rattle.std.proofs.Common.{◌≡◌, ℕ, zero, suc, ◌+◌, ◌-◌, ◌<◌, ◌==◌, nat_lt, nat_le, cond, Bool, true, false, max, List, [], ◌∷◌, ◌++◌, length, map, set, get_or, take, drop, Option, Some, None, slice_get, refl, sym, ap, ◌∙◌, arith}
use Rattle.std.specs.Option.{option_map}
use Rattle.std.proofs.lemmas.Bool.Decides.{nat_tests}
use Rattle.std.proofs.lemmas.List.{map_push, drop_more, take_more, take_more_set, drop-set-lt}
use Rattle.std.proofs.lemmas.Option.{slice_get-map, same_Some, get_or_from_slice_get}
use Rattle.handler_ids.specs.declared.handler_value.HandlerValue.{HandlerValue}
use Rattle.handler_ids.specs.declared.entry.Entry.{Entry}
use Rattle.handler_ids.specs.declared.entry.Entry.TheVariants.{Live, Held, Gone}
use Rattle.handler_ids.specs.History.{Past, at_id, disposed, disposed_at, disposed_by}
use Rattle.handler_ids.specs.What.{live, held, gone, what_since, what_of, found}
use Rattle.handler_ids.specs.Kept.{Kept, kept_since, kept_of, without_value, Stands, StandsForSome, what_is_kept, what_kept, HasValue, Leads}

at_id-map : {X Y : Type 0} (f : X → Y) (entries : List X) (id : ℕ) → at_id (map f entries) id ≡ option_map f (at_id entries id)
at_id-map {X} {Y} f entries id = by_test (id == 0)
  where
    by_test : (zero_id : Bool) → cond zero_id None (slice_get (map f entries) (id - 1)) ≡ option_map f (cond zero_id None (slice_get entries (id - 1)))
    by_test true = refl
    by_test false = slice_get-map f entries (id - 1)

what-kept_since : (value : HandlerValue) (batch : Option ℕ) (released : ℕ) → what_is_kept (Some (kept_since value batch released)) ≡ what_since value batch released
what-kept_since value None released = refl
what-kept_since value (Some batch) released = by_test (nat_lt released batch)
  where
    by_test : (later : Bool) → what_is_kept (Some (cond later (Held value batch) (Gone batch))) ≡ cond later (held value batch) (gone batch)
    by_test true = refl
    by_test false = refl

what-kept_of : (released : ℕ) (past : Option Past) → what_is_kept (option_map (kept_of released) past) ≡ what_of past released
what-kept_of released None = refl
what-kept_of released (Some past) = what-kept_since past.value past.disposed released

-- by what is kept of it an id is what it is in a history that is kept so
pub what_kept-found : (kept : Kept) (history : List Past) (id : ℕ) → Stands kept history → what_kept kept id ≡ found history id kept.released
what_kept-found kept history id stands =
    ap (λ (entries : List Entry). what_is_kept (at_id entries id)) stands
    ∙ ap what_is_kept (at_id-map (kept_of kept.released) history id)
    ∙ what-kept_of kept.released (at_id history id)

-- a history is kept where a new entry stands behind the others
pub StandsForSome-push : (entries after : List Entry) (released : ℕ) (value : HandlerValue) → StandsForSome (record { entries = entries; released = released }) → after ≡ entries ++ Live value ∷ [] → StandsForSome (record { entries = after; released = released })
StandsForSome-push entries after released value (history, stands) longer =
    let past : Past = record { value = value; given = 0; disposed = None } in
    (history ++ past ∷ [], longer ∙ ap (λ (es : List Entry). es ++ Live value ∷ []) stands ∙ sym (map_push (kept_of released) history past))

map-disposed_at : (released batch : ℕ) (history : List Past) (place : ℕ) (past : Past) → slice_get history place ≡ Some past → map (kept_of released) (disposed_at batch place history) ≡ set (map (kept_of released) history) place (kept_of released (disposed batch past))
map-disposed_at released batch [] place past is = refl
map-disposed_at released batch (first ∷ history) zero past is = ap (λ (p : Past). kept_of released (disposed batch p) ∷ map (kept_of released) history) (same_Some first past is)
map-disposed_at released batch (first ∷ history) (suc place) past is = ap (λ es. kept_of released first ∷ es) (map-disposed_at released batch history place past is)

-- the entry of an id that is live
pub live_past : (history : List Past) (id released : ℕ) (value : HandlerValue) → found history id released ≡ live value → (past : Past) × (slice_get history (id - 1) ≡ Some past) × (past.value ≡ value)
live_past history id released value is = by_test (id == 0) is
  where
    by_since : (past : Past) (batch : Option ℕ) → what_since past.value batch released ≡ live value → past.value ≡ value
    by_since past None is = cc
    by_since past (Some batch) is = by_later (nat_lt released batch) is
      where
        by_later : (later : Bool) → cond later (held past.value batch) (gone batch) ≡ live value → past.value ≡ value
        by_later true is = absurd (cc)
        by_later false is = absurd (cc)

    by_entry : (entry : Option Past) → slice_get history (id - 1) ≡ entry → what_of entry released ≡ live value → (past : Past) × (slice_get history (id - 1) ≡ Some past) × (past.value ≡ value)
    by_entry None stands is = absurd (cc)
    by_entry (Some past) stands is = (past, stands, by_since past past.disposed is)

    by_test : (zero_id : Bool) → what_of (cond zero_id None (slice_get history (id - 1))) released ≡ live value → (past : Past) × (slice_get history (id - 1) ≡ Some past) × (past.value ≡ value)
    by_test true is = absurd (cc)
    by_test false is = by_entry (slice_get history (id - 1)) refl is

-- what is kept of an id that is live
pub live_entry : (entries : List Entry) (id : ℕ) (value : HandlerValue) → what_is_kept (at_id entries id) ≡ live value → slice_get entries (id - 1) ≡ Some (Live value)
live_entry entries id value is = by_test (id == 0) is
  where
    by_entry : (entry : Option Entry) → slice_get entries (id - 1) ≡ entry → what_is_kept entry ≡ live value → slice_get entries (id - 1) ≡ Some (Live value)
    by_entry None stands is = absurd (cc)
    by_entry (Some (Live own)) stands is = let same : own ≡ value = cc in stands ∙ ap (λ (v : HandlerValue). Some (Live v)) same
    by_entry (Some (Held own batch)) stands is = absurd (cc)
    by_entry (Some (Gone batch)) stands is = absurd (cc)

    by_test : (zero_id : Bool) → what_is_kept (cond zero_id None (slice_get entries (id - 1))) ≡ live value → slice_get entries (id - 1) ≡ Some (Live value)
    by_test true is = absurd (cc)
    by_test false is = by_entry (slice_get entries (id - 1)) refl is

-- what is read where a live id stands
pub live_read : (entries : List Entry) (id : ℕ) (value : HandlerValue) (read : Entry) → what_is_kept (at_id entries id) ≡ live value → read ≡ get_or entries (id - 1) read → read ≡ Live value
live_read entries id value read is found_there = found_there ∙ get_or_from_slice_get entries (id - 1) (Live value) read (live_entry entries id value is)

-- the entry of a live id disposed
pub Leads-dispose : (before after : Kept) (id batch : ℕ) (value : HandlerValue) → HasValue before id value → after.released ≡ before.released → after.entries ≡ set before.entries (id - 1) (kept_since value (Some batch) before.released) → Leads before after (λ history next. next ≡ disposed_by batch id history)
Leads-dispose before after id batch value has released entries = (released, λ history stands. (disposed_by batch id history, stands_after history stands, refl))
  where
    stands_after : (history : List Past) → Stands before history → Stands after (disposed_by batch id history)
    stands_after history stands =
        let here = live_past history id before.released value (sym (what_kept-found before history id stands) ∙ has) in
        let kept : List Entry = map (kept_of before.released) history in
        entries
        ∙ ap (λ (es : List Entry). set es (id - 1) (kept_since value (Some batch) before.released)) stands
        ∙ ap (λ (v : HandlerValue). set (map (kept_of before.released) history) (id - 1) (kept_since v (Some batch) before.released)) (sym here.2)
        ∙ sym (map-disposed_at before.released batch history (id - 1) here.0 here.1)
        ∙ ap (λ n. map (kept_of n) (disposed_by batch id history)) (sym released)

without-kept_since : (released acked : ℕ) (value : HandlerValue) (batch : Option ℕ) → without_value acked (kept_since value batch released) ≡ kept_since value batch (max released acked)
without-kept_since released acked value None = refl
without-kept_since released acked value (Some batch) = by_tests (nat_lt released batch) (nat_le batch acked) refl (nat_lt (max released acked) batch) still kept_on let_go
  where
    still : nat_lt released batch ≡ false → nat_lt (max released acked) batch ≡ false
    still early = grind (arith, nat_tests)

    kept_on : nat_le batch acked ≡ false → nat_lt (max released acked) batch ≡ nat_lt released batch
    kept_on above = grind (arith, nat_tests)

    let_go : nat_le batch acked ≡ true → nat_lt (max released acked) batch ≡ false
    let_go within = grind (arith, nat_tests)

    by_tests : (later due : Bool) → nat_le batch acked ≡ due → (after : Bool) → (later ≡ false → after ≡ false) → (due ≡ false → after ≡ later) → (due ≡ true → after ≡ false) → without_value acked (cond later (Held value batch) (Gone batch)) ≡ cond after (Held value batch) (Gone batch)
    by_tests false due is after low keep go = rw (low refl)
    by_tests true true is after low keep go = rw (is, go refl)
    by_tests true false is after low keep go = rw (is, keep refl)

without-all : (released acked : ℕ) (history : List Past) → map (without_value acked) (map (kept_of released) history) ≡ map (kept_of (max released acked)) history
without-all released acked [] = refl
without-all released acked (past ∷ history) =
    ap (λ (entry : Entry). entry ∷ map (without_value acked) (map (kept_of released) history)) (without-kept_since released acked past.value past.disposed)
    ∙ ap (λ entries. kept_of (max released acked) past ∷ entries) (without-all released acked history)

-- what is kept after more is released
pub Stands-release : (before after : Kept) (acked : ℕ) (history : List Past) → after.released ≡ max before.released acked → after.entries ≡ map (without_value acked) before.entries → Stands before history → Stands after history
Stands-release before after acked history released entries stands =
    entries ∙ ap (map (without_value acked)) stands ∙ without-all before.released acked history ∙ ap (λ n. map (kept_of n) history) (sym released)

-- one more element of a list changed alike
pub mapped_more : {X : Type 0} (f : X → X) (items initial : List X) (i : ℕ) (read written : X) → i < length items → length items ≡ length initial → read ≡ get_or items i read → written ≡ f read → take i items ≡ map f (take i initial) → drop i items ≡ drop i initial → (take (i + 1) (set items i written) ≡ map f (take (i + 1) initial)) × (drop (i + 1) (set items i written) ≡ drop (i + 1) initial)
mapped_more {X} f items initial i read written within long is changed front back =
    let here = drop_more items i read within in
    let was = drop_more initial i read (omega arith) in
    let same : get_or items i read ≡ get_or initial i read = cc in
    let rest : drop (i + 1) items ≡ drop (i + 1) initial = cc in
    let value : written ≡ f (get_or initial i read) = changed ∙ ap f (is ∙ same) in (
      take_more_set items i written within
          ∙ ap (λ (xs : List X). xs ++ written ∷ []) front
          ∙ ap (λ (x : X). map f (take i initial) ++ x ∷ []) value
          ∙ sym (map_push f (take i initial) (get_or initial i read))
          ∙ ap (map f) (sym (take_more initial i read (omega arith))),
      drop-set-lt (i + 1) items i written (omega arith) ∙ rest,
    )
