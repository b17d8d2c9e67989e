-- What calls make of an arena, from the change of one slot, and what holds after any calls.
use Rattle.std.proofs.Common.{Bor, option_copied, OnSome, ◌≡◌, ◌≢◌, ◌⊎◌, ◌↔◌, ℕ, ◌+◌, ◌-◌, ◌^◌, ◌<◌, ◌≤◌, ◌==◌, if◌then◌else◌, cond, ◌||◌, true, [], ◌∷◌, ◌++◌, length, set, get_or, Option, Some, None, IsSome, is_some, IsTrue, slice_get, refl, sym, ap, subst, ◌∙◌, inl, inr, arith, length-set, true≢false}
use Rattle.std.proofs.lemmas.Bool.{cases_eq, not-true, eq-eqb, ne_eqb}
use Rattle.std.proofs.lemmas.List.{length_push}
use Rattle.std.proofs.lemmas.List.Sums.{count_by-le-length}
use Rattle.std.proofs.lemmas.Option.{slice_get_past, slice_get_within, none-some, get_or_from_slice_get}
use Rattle.gen_arena.specs.declared.handle.Handle.{Handle}
use Rattle.gen_arena.specs.declared.slot.Slot.{Slot}
use Rattle.gen_arena.specs.Slots.{Slots}
use Rattle.gen_arena.specs.Taken.{is_spent, is_taken, is_free, taken}
use Rattle.gen_arena.specs.Finding.{found}
use Rattle.gen_arena.specs.Given.{WasGiven, IsDead}
use Rattle.gen_arena.specs.Lending.{with_item}
use Rattle.gen_arena.specs.Calls.{Gives, Removes, Writes, Calls, no_call, then_insert, then_remove, then_write}
use Rattle.gen_arena.proofs.FreeLemmas.{empty_where_free}
use Rattle.gen_arena.proofs.Changes.{same_handle, ChangesAt, ChangesAt-set, ChangesAt-push, nothing_in_empty_slot, nothing_on_other_turn, FindsAlone-change, GaveTurn, given-one_more, given-same_turn, live_slot, weight, taken-set, taken-push}

cases_handle : (one other : Handle) → (one ≡ other) ⊎ (one ≢ other)
cases_handle one other = elim (cases_eq one.slot other.slot) [
  | inl slot ↦ elim (cases_eq one.turn other.turn) [
    | inl turn ↦ inl (same_handle one other slot turn)
    | inr apart ↦ inr (λ e. apart (ap (λ (h : Handle). h.turn) e))
  ]
  | inr apart ↦ inr (λ e. apart (ap (λ (h : Handle). h.slot) e))
]

-- a number within a limit and apart from it
pub strictly_below : (number least limit : ℕ) → number ≡ least → number ≤ limit → (number ≡ limit → ⊥) → least < limit
strictly_below number least limit same within differs = omega arith

module _ {T : Type 0} where
  -- a place that has given no turn at or above this one
  gaves_below : (was : Slot T) (turn : ℕ) → turn ≡ was.turn + 1 → (other : ℕ) → GaveTurn (Some was) other ↔ (other < turn)
  gaves_below was turn next other = (λ (given : other ≤ was.turn). omega arith, λ (below : other < turn). omega arith)

  gaves_none : (was : Option (Slot T)) → was ≡ None → (other : ℕ) → GaveTurn was other ↔ (other < 0)
  gaves_none was none other = (λ (given : GaveTurn was other). absurd (subst (λ (o : Option (Slot T)). GaveTurn o other) none given), λ (below : other < 0). absurd (omega arith))

  abbrev slot_on : ℕ → T → Slot T
  slot_on turn item = record { turn = turn; item = Some item }

  -- the slot of a handle that gets this item
  abbrev filled : Handle → T → Slot T
  filled handle item = record { turn = handle.turn; item = Some item }

  pub filled_on : {last : ℕ} (given : ℕ) (item : T) → given ≡ last → slot_on given item ≡ slot_on last item
  filled_on given item same = ap (λ t. slot_on t item) same

  -- an item put into a free slot
  pub Gives-fill : (old new : Slots T) (handle : Handle) (item : T) (was : Slot T) → slice_get old.slots handle.slot ≡ Some was → IsTrue (is_free was) → handle.turn ≡ was.turn + 1 → length old.slots ≤ old.limit → new.slots ≡ set old.slots handle.slot (filled handle item) → new.limit ≡ old.limit → Gives old handle item new
  Gives-fill old new handle item was stands free turn short written limit =
      let change : ChangesAt old.slots new.slots handle.slot (Some was) (filled handle item) = rw written (ChangesAt-set old.slots handle.slot was (filled handle item) stands) in
      let inside = slice_get_within old.slots handle.slot was stands in
      let more : taken new ≡ taken old + 1 = rw written (omega (arith, taken-set old.slots handle.slot was (filled handle item) 0 1 stands (ap (λ b. cond b 1 0) (not-true (is_taken was) free)) refl)) in
      let most = count_by-le-length is_taken new.slots in
      let same_length : length new.slots ≡ length old.slots = rw written (length-set old.slots handle.slot (filled handle item)) in
      record {
        fresh = λ (given : WasGiven old handle). absurd (never was handle.turn turn (given_here old handle was stands given));
        within = omega arith;
        finds = FindsAlone-change old new handle (Some was) (filled handle item) change refl (λ other _. nothing_in_empty_slot was other (empty_where_free was free));
        given = given-one_more old new handle (Some was) (filled handle item) change refl (gaves_below was handle.turn turn);
        one_more = more;
        slots = omega arith;
        limit = limit;
      }
    where
      given_here : (arena : Slots T) (h : Handle) (slot : Slot T) → slice_get arena.slots h.slot ≡ Some slot → WasGiven arena h → h.turn ≤ slot.turn
      given_here arena h slot is given = subst (λ (o : Option (Slot T)). GaveTurn o h.turn) is given

      never : (slot : Slot T) (n : ℕ) → n ≡ slot.turn + 1 → n ≤ slot.turn → ⊥
      never slot n next below = omega arith

  -- an item put into a new slot, where all are taken
  pub Gives-push : (old new : Slots T) (handle : Handle) (item : T) → handle.slot ≡ length old.slots → handle.turn ≡ 0 → taken old ≡ length old.slots → length old.slots < old.limit → new.slots ≡ old.slots ++ filled handle item ∷ [] → new.limit ≡ old.limit → Gives old handle item new
  Gives-push old new handle item last first full short written limit =
      let past : slice_get old.slots handle.slot ≡ None = slice_get_past old.slots handle.slot (omega arith) in
      let change : ChangesAt old.slots new.slots handle.slot None (filled handle item) = rw written (ChangesAt-push old.slots handle.slot (filled handle item) last past) in
      let more : taken new ≡ taken old + 1 = rw written (taken-push old.slots (filled handle item) refl) in
      let longer : length new.slots ≡ length old.slots + 1 = rw written (length_push old.slots (filled handle item)) in
      record {
        fresh = λ (given : WasGiven old handle). subst (λ (o : Option (Slot T)). GaveTurn o handle.turn) past given;
        within = omega arith;
        finds = FindsAlone-change old new handle None (filled handle item) change refl (λ _ _. refl);
        given = given-one_more old new handle None (filled handle item) change refl (rw first (gaves_none None refl));
        one_more = more;
        slots = omega arith;
        limit = limit;
      }

  -- a handle finds an item where the reference to it is there
  pub found_some : (lent : Option (Bor T)) (item : Option T) → option_copied lent ≡ item → is_some lent ≡ true → IsSome item
  found_some None item copied some = absurd (true≢false (sym some))
  found_some (Some reference) item copied some = ap is_some (sym copied)

  pub on_some : (o : Option T) (P : Type 0) → P → OnSome o P
  on_some None P holds = tt
  on_some (Some item) P holds = holds

  -- the item of a live handle taken out
  pub Removes-take : (old new : Slots T) (handle : Handle) (was : Slot T) → slice_get old.slots handle.slot ≡ Some was → was.turn ≡ handle.turn → IsSome was.item → new.slots ≡ set old.slots handle.slot (record { turn = was.turn; item = None }) → new.limit ≡ old.limit → Removes old handle new
  Removes-take old new handle was stands turn live written limit =
      let change : ChangesAt old.slots new.slots handle.slot (Some was) now = rw written (ChangesAt-set old.slots handle.slot was now stands) in
      record {
        finds = FindsAlone-change old new handle (Some was) now change turn (λ other apart. nothing_on_other_turn was other (λ e. apart (sym turn ∙ e)));
        given = given-same_turn old new handle was now change refl;
        was_given = subst (λ (o : Option (Slot T)). GaveTurn o handle.turn) (sym change.after) (omega arith);
        one_less = one_less (cases_eq handle.turn (2 ^ 64 - 1));
        slots = rw written (length-set old.slots handle.slot now);
        limit = limit;
      }
    where
      now : Slot T
      now = record { turn = was.turn; item = None }

      counted : (n : ℕ) → weight now ≡ n → taken new + 1 ≡ taken old + n
      counted n is = rw written (taken-set old.slots handle.slot was now 1 n stands (ap (λ b. cond (b || is_spent was) 1 0) live) is)

      one_less : (handle.turn ≡ 2 ^ 64 - 1) ⊎ (handle.turn ≡ 2 ^ 64 - 1 → ⊥) → taken new ≡ (if handle.turn == 2 ^ 64 - 1 then taken old else taken old - 1)
      one_less (inl last) = rw (eq-eqb _ _ last) (omega (arith, counted 1 (ap (λ b. cond b 1 0) (eq-eqb _ _ (turn ∙ last)))))
      one_less (inr others) = rw (ne_eqb _ _ others) (omega (arith, counted 0 (ap (λ b. cond b 1 0) (ne_eqb _ _ (λ e. others (sym turn ∙ e))))))

  -- what is read where the slot of a handle that finds an item stands
  pub live_at : (arena : Slots T) (handle : Handle) (read : Slot T) → IsSome (found arena handle) → read ≡ get_or arena.slots handle.slot read → (slice_get arena.slots handle.slot ≡ Some read) × (read.turn ≡ handle.turn) × IsSome read.item
  live_at arena handle read live is = by_found (found arena handle) refl live
    where
      by_found : (o : Option T) → found arena handle ≡ o → IsSome o → (slice_get arena.slots handle.slot ≡ Some read) × (read.turn ≡ handle.turn) × IsSome read.item
      by_found None finds some = absurd (true≢false (sym some))
      by_found (Some item) finds some =
          let here = live_slot arena handle item finds in
          let same : here.0 ≡ read = sym (is ∙ get_or_from_slice_get arena.slots handle.slot here.0 read here.1) in
          (here.1 ∙ ap Some same, ap (λ (s : Slot T). s.turn) (sym same) ∙ here.2, ap (λ (s : Slot T). is_some s.item) (sym same) ∙ ap is_some here.3)

  -- another item written for a live handle
  pub Writes-with_item : (arena : Slots T) (handle : Handle) (item : T) → IsSome (found arena handle) → Writes arena handle item (with_item arena handle item)
  Writes-with_item arena handle item live = by_found (found arena handle) refl live
    where
      by_found : (o : Option T) → found arena handle ≡ o → IsSome o → Writes arena handle item (with_item arena handle item)
      by_found None is some = absurd (true≢false (sym some))
      by_found (Some x) is some =
          let here = live_slot arena handle x is in
          let change : ChangesAt arena.slots (with_item arena handle item).slots handle.slot (Some here.0) (filled handle item) = ChangesAt-set arena.slots handle.slot here.0 (filled handle item) here.1 in
          let held : weight here.0 ≡ 1 = ap (λ (o : Option T). cond (is_some o || is_spent here.0) 1 0) here.3 in
          record {
            finds = FindsAlone-change arena (with_item arena handle item) handle (Some here.0) (filled handle item) change refl (λ other apart. nothing_on_other_turn here.0 other (λ e. apart (sym here.2 ∙ e)));
            was_live = λ none. none-some x (sym none ∙ is);
            given = given-same_turn arena (with_item arena handle item) handle here.0 (filled handle item) change (sym here.2);
            taken_still = omega (arith, taken-set arena.slots handle.slot here.0 (filled handle item) 1 1 here.1 held refl);
            slots = length-set arena.slots handle.slot (filled handle item);
            limit = refl;
          }

  -- over any calls a handle that was given stays given
  pub given_stays : (old new : Slots T) (handle : Handle) → Calls old new → WasGiven old handle → WasGiven new handle
  given_stays old new handle (no_call arena) given = given
  given_stays old new handle (then_insert first second third other item calls gives) given = (gives.given handle).1 (inl (given_stays first second handle calls given))
  given_stays old new handle (then_remove first second third other calls removes) given = (removes.given handle).1 (given_stays first second handle calls given)
  given_stays old new handle (then_write first second third other item calls writes) given = (writes.given handle).1 (given_stays first second handle calls given)

  -- so none is given twice
  pub given_once : (first second third fourth : Slots T) (handle later : Handle) (item other : T) → Gives first handle item second → Calls second third → Gives third later other fourth → later ≢ handle
  given_once first second third fourth handle later item other gives calls again same =
      again.fresh (subst (WasGiven third) (sym same) (given_stays second third handle calls ((gives.given handle).1 (inr refl))))

  -- over any calls a dead handle stays dead
  pub dead_stays : (old new : Slots T) (handle : Handle) → Calls old new → IsDead old handle → IsDead new handle
  dead_stays old new handle (no_call arena) dead = dead
  dead_stays old new handle (then_insert first second third other item calls gives) dead =
      let before = dead_stays first second handle calls dead in
      let apart : handle ≢ other = λ e. gives.fresh (subst (WasGiven second) e before.0) in
      ((gives.given handle).1 (inl before.0), gives.finds.others handle apart ∙ before.1)
  dead_stays old new handle (then_remove first second third other calls removes) dead =
      let before = dead_stays first second handle calls dead in (
        (removes.given handle).1 before.0,
        elim (cases_handle handle other) [
          | inl same ↦ ap (found third) same ∙ removes.finds.changed
          | inr apart ↦ removes.finds.others handle apart ∙ before.1
        ],
      )
  dead_stays old new handle (then_write first second third other item calls writes) dead =
      let before = dead_stays first second handle calls dead in
      let apart : handle ≢ other = λ e. writes.was_live (ap (found second) (sym e) ∙ before.1) in
      ((writes.given handle).1 before.0, writes.finds.others handle apart ∙ before.1)
