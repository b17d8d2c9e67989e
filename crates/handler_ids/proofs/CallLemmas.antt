-- What holds of a history after any calls.
use Rattle.std.proofs.Common.{◌≡◌, ℕ, zero, suc, ◌+◌, ◌-◌, ◌<◌, ◌≤◌, ◌==◌, nat_lt, cond, Bool, true, false, List, [], ◌∷◌, ◌++◌, length, Option, Some, None, slice_get, refl, sym, ap, subst, ◌∙◌, arith}
use Rattle.std.proofs.lemmas.List.{length_push}
use Rattle.std.proofs.lemmas.Option.{same_Some}
use Rattle.handler_ids.specs.declared.handler_value.HandlerValue.{HandlerValue}
use Rattle.handler_ids.specs.History.{Past, at_id, disposed, disposed_at, disposed_by}
use Rattle.handler_ids.specs.What.{live, held, gone, what_since, what_of, found}
use Rattle.handler_ids.specs.Naming.{IsGiven}
use Rattle.handler_ids.specs.Calls.{Calls, no_call, then_give, then_dispose, GoesOn}

length-disposed_at : (batch place : ℕ) (history : List Past) → length (disposed_at batch place history) ≡ length history
length-disposed_at batch place [] = refl
length-disposed_at batch zero (past ∷ history) = refl
length-disposed_at batch (suc place) (past ∷ history) = ap suc (length-disposed_at batch place history)

-- no entry leaves
length-calls : (old new : List Past) → Calls old new → length old ≤ length new
length-calls old new (no_call history) = omega arith
length-calls old new (then_give first second third value batch id calls gives) =
    let before = length-calls first second calls in
    let more = ap length gives.entry ∙ length_push second (record { value = value; given = batch; disposed = None }) in
    longer _ _ _ before more
  where
    longer : (m n k : ℕ) → m ≤ n → k ≡ n + 1 → m ≤ k
    longer m n k below more = omega arith
length-calls old new (then_dispose first second third id batch released value calls lives is) =
    let before = length-calls first second calls in
    subst (λ n. length first ≤ n) (sym (ap length is ∙ length-disposed_at batch (id - 1) second)) before

-- each id that is given is above those before
pub ids_rise : (first second third fourth : List Past) (value other : HandlerValue) (batch next id later : ℕ) → IsGiven value batch id first second → Calls second third → IsGiven other next later third fourth → id < later
ids_rise first second third fourth value other batch next id later gives calls again =
    above id later (length first) (length second) (length third) gives.above
    (ap length gives.entry ∙ length_push first (record { value = value; given = batch; disposed = None }))
    (length-calls second third calls) again.above
  where
    above : (i l m n k : ℕ) → i ≡ m + 1 → n ≡ m + 1 → n ≤ k → l ≡ k + 1 → i < l
    above i l m n k first_id longer below later_id = omega arith

same_entry : (past : Past) → GoesOn past past
same_entry past = record { value = refl; given = refl; disposed = λ batch is. is }

-- what becomes of an entry that stands at a place
abbrev Later : List Past → ℕ → Past → Type 0
Later history place past = (later : Past) × (slice_get history place ≡ Some later) × GoesOn past later

later-push : (history : List Past) (more past : Past) (place : ℕ) → slice_get history place ≡ Some past → slice_get (history ++ more ∷ []) place ≡ Some past
later-push [] more past place is = absurd (cc)
later-push (first ∷ history) more past zero is = is
later-push (first ∷ history) more past (suc place) is = later-push history more past place is

later-disposed : (batch : ℕ) (history : List Past) (place other : ℕ) (past : Past) → slice_get history other ≡ Some past → (place ≡ other → past.disposed ≡ None) → Later (disposed_at batch place history) other past
later-disposed batch [] place other past is none = absurd (cc)
later-disposed batch (first ∷ history) zero zero past is none =
    let same : first ≡ past = same_Some first past is in (
      disposed batch past,
      ap (λ (p : Past). Some (disposed batch p)) same,
      record {
        value = refl;
        given = refl;
        disposed = λ by was. let never = none refl in absurd (cc);
      },
    )
later-disposed batch (first ∷ history) zero (suc other) past is none = (past, is, same_entry past)
later-disposed batch (first ∷ history) (suc place) zero past is none = (past, is, same_entry past)
later-disposed batch (first ∷ history) (suc place) (suc other) past is none = later-disposed batch history place other past is (λ same. none (ap suc same))

-- a live id was not disposed
undisposed : (history : List Past) (id released : ℕ) (value : HandlerValue) (past : Past) → found history id released ≡ live value → slice_get history (id - 1) ≡ Some past → past.disposed ≡ None
undisposed history id released value past is stands = by_test (id == 0) is
  where
    by_later : (later : Bool) (own : HandlerValue) (batch : ℕ) → cond later (held own batch) (gone batch) ≡ live value → ⊥
    by_later true own batch is = cc
    by_later false own batch is = cc

    by_since : (own : HandlerValue) (batch : Option ℕ) → what_since own batch released ≡ live value → batch ≡ None
    by_since own None is = refl
    by_since own (Some batch) is = absurd (by_later (nat_lt released batch) own batch is)

    by_test : (zero_id : Bool) → what_of (cond zero_id None (slice_get history (id - 1))) released ≡ live value → past.disposed ≡ None
    by_test true is = absurd (cc)
    by_test false is = by_since past.value past.disposed (ap (λ (entry : Option Past). what_of entry released) (sym stands) ∙ is)

then_later : (history : List Past) (place : ℕ) (past between : Past) → GoesOn past between → Later history place between → Later history place past
then_later history place past between goes (later, stands, on) = (
  later,
  stands,
  record {
    value = on.value ∙ goes.value;
    given = on.given ∙ goes.given;
    disposed = λ batch is. on.disposed batch (goes.disposed batch is);
  },
)

-- at its place an entry goes on over any calls
later-calls : (old new : List Past) (place : ℕ) (past : Past) → Calls old new → slice_get old place ≡ Some past → Later new place past
later-calls old new place past (no_call history) is = (past, is, same_entry past)
later-calls old new place past (then_give first second third value batch id calls gives) is =
    let between = later-calls first second place past calls is in
    let entry : Past = record { value = value; given = batch; disposed = None } in
    (between.0, ap (λ (h : List Past). slice_get h place) gives.entry ∙ later-push second entry between.0 place between.1, between.2)
later-calls old new place past (then_dispose first second third id batch released value calls lives is_third) is =
    let between = later-calls first second place past calls is in
    let none : id - 1 ≡ place → between.0.disposed ≡ None = λ same. undisposed second id released value between.0 lives (ap (slice_get second) same ∙ between.1) in
    let next = then_later (disposed_by batch id second) place past between.0 between.2 (later-disposed batch second (id - 1) place between.0 between.1 none) in
    subst (λ (h : List Past). Later h place past) (sym is_third) next

-- an id's entry goes on over any calls
pub entry_stays : (old new : List Past) (id : ℕ) (past : Past) → Calls old new → at_id old id ≡ Some past → (later : Past) × (at_id new id ≡ Some later) × GoesOn past later
entry_stays old new id past calls is = by_test (id == 0) is (λ stands. later-calls old new (id - 1) past calls stands)
  where
    by_test : (zero_id : Bool) → cond zero_id None (slice_get old (id - 1)) ≡ Some past → (slice_get old (id - 1) ≡ Some past → Later new (id - 1) past) → (later : Past) × (cond zero_id None (slice_get new (id - 1)) ≡ Some later) × GoesOn past later
    by_test true is later = absurd (cc)
    by_test false is later = later is
