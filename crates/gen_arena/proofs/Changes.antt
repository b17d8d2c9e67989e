-- What the change of one slot changes of an arena.
use Rattle.std.proofs.Common.{◌≡◌, ◌≢◌, ◌⊎◌, ◌↔◌, ℕ, ◌+◌, ◌<◌, ◌≤◌, cond, Bool, true, count_by, sum_by, List, [], ◌∷◌, ◌++◌, length, set, get_or, Option, Some, None, IsSomeAnd, slice_get, refl, sym, ap, subst, ◌∙◌, inl, inr, arith}
use Rattle.std.proofs.lemmas.Bool.{cases_eq}
use Rattle.std.proofs.lemmas.Bool.Decides.{nat_tests}
use Rattle.std.proofs.lemmas.List.Sums.{sum_by-set, sum_by_push}
use Rattle.std.proofs.lemmas.Option.{slice_get_within, get_or_from_slice_get, none-some}
use Rattle.gen_arena.specs.declared.handle.Handle.{Handle}
use Rattle.gen_arena.specs.declared.slot.Slot.{Slot}
use Rattle.gen_arena.specs.Slots.{Slots}
use Rattle.gen_arena.specs.Taken.{is_taken}
use Rattle.gen_arena.specs.Finding.{item_on, found, FindsAlone}
use Rattle.gen_arena.specs.Given.{WasGiven}
use Rattle.gen_arena.proofs.Places.{slice_get-set_same, slice_get-set_other, slice_get-push_last, slice_get-push_other}

-- handles with the same slot and turn are one
pub same_handle : (one other : Handle) → one.slot ≡ other.slot → one.turn ≡ other.turn → one ≡ other
same_handle one other slot turn = let P : ℕ → ℕ → Handle = λ s t. record { slot = s; turn = t } in ap (λ s. P s one.turn) slot ∙ ap (P other.slot) turn

module _ {T : Type 0} where
  -- at one place stood what `was` says and stands a slot now, and all other places are as they were
  pub record ChangesAt (old new : List (Slot T)) (place : ℕ) (was : Option (Slot T)) (slot : Slot T) : Type 0 where
    pub before : slice_get old place ≡ was
    pub after : slice_get new place ≡ Some slot
    pub others : (other : ℕ) → other ≢ place → slice_get new other ≡ slice_get old other

  pub ChangesAt-set : (slots : List (Slot T)) (place : ℕ) (was slot : Slot T) → slice_get slots place ≡ Some was → ChangesAt slots (set slots place slot) place (Some was) slot
  ChangesAt-set slots place was slot before = record {
    before = before;
    after = slice_get-set_same slots place slot (slice_get_within slots place was before);
    others = λ other differs. slice_get-set_other slots place other slot differs;
  }

  pub ChangesAt-push : (slots : List (Slot T)) (place : ℕ) (slot : Slot T) → place ≡ length slots → slice_get slots place ≡ None → ChangesAt slots (slots ++ slot ∷ []) place None slot
  ChangesAt-push slots place slot last before = record {
    before = before;
    after = slice_get-push_last slots slot place last;
    others = λ other differs. slice_get-push_other slots slot other (λ e. differs (e ∙ sym last));
  }

  -- on another turn than the one that it gave last a slot has no item
  pub nothing_on_other_turn : (slot : Slot T) (turn : ℕ) → slot.turn ≢ turn → item_on (Some slot) turn ≡ None
  nothing_on_other_turn slot turn differs = grind (arith, nat_tests)

  pub item_on_its_turn : (slot : Slot T) (turn : ℕ) → slot.turn ≡ turn → item_on (Some slot) turn ≡ slot.item
  item_on_its_turn slot turn same = grind (arith, nat_tests)

  -- a slot without an item has none on any turn
  pub nothing_in_empty_slot : (slot : Slot T) (turn : ℕ) → slot.item ≡ None → item_on (Some slot) turn ≡ None
  nothing_in_empty_slot slot turn empty = grind (arith, nat_tests)

  -- what each handle finds after a change that leaves no item on other turns, where there was none before
  pub FindsAlone-change : (old new : Slots T) (handle : Handle) (was : Option (Slot T)) (slot : Slot T) → ChangesAt old.slots new.slots handle.slot was slot → slot.turn ≡ handle.turn → ((turn : ℕ) → handle.turn ≢ turn → item_on was turn ≡ None) → FindsAlone old new handle slot.item
  FindsAlone-change old new handle was slot change turn none = record {
    changed = ap (λ o. item_on o handle.turn) change.after ∙ item_on_its_turn slot handle.turn turn;
    others = λ other differs. elim (cases_eq other.slot handle.slot) [
      | inl same ↦ at_place other same (λ e. differs (same_handle other handle same (sym e)))
      | inr apart ↦ ap (λ o. item_on o other.turn) (change.others other.slot apart)
    ];
  }
    where
      at_place : (other : Handle) → other.slot ≡ handle.slot → handle.turn ≢ other.turn → found new other ≡ found old other
      at_place other same differs =
          let now : found new other ≡ None = ap (λ p. item_on (slice_get new.slots p) other.turn) same ∙ ap (λ o. item_on o other.turn) change.after ∙ nothing_on_other_turn slot other.turn (λ e. differs (sym turn ∙ e)) in
          let earlier : found old other ≡ None = ap (λ p. item_on (slice_get old.slots p) other.turn) same ∙ ap (λ o. item_on o other.turn) change.before ∙ none other.turn differs in
          now ∙ sym earlier

  -- the turn, or a later one, was given by what stands at a place
  abbrev pub GaveTurn : Option (Slot T) → ℕ → Type 0
  GaveTurn was turn = IsSomeAnd was (λ slot. turn ≤ slot.turn)

  gave_along : (one other : Option (Slot T)) (turn : ℕ) → one ≡ other → GaveTurn one turn → GaveTurn other turn
  gave_along one other turn same gave = subst (λ (o : Option (Slot T)). GaveTurn o turn) same gave

  -- which handles are given after a change that gives one more turn
  pub given-one_more : (old new : Slots T) (handle : Handle) (was : Option (Slot T)) (slot : Slot T) → ChangesAt old.slots new.slots handle.slot was slot → slot.turn ≡ handle.turn → ((turn : ℕ) → GaveTurn was turn ↔ (turn < handle.turn)) → (other : Handle) → WasGiven new other ↔ (WasGiven old other ⊎ (other ≡ handle))
  given-one_more old new handle was slot change turn gave other = elim (cases_eq other.slot handle.slot) [
    | inl same ↦ (to_here same, from_here same)
    | inr apart ↦ (
      λ given. inl (gave_along _ _ other.turn (change.others other.slot apart) given),
      λ either. elim either [
        | inl given ↦ gave_along _ _ other.turn (sym (change.others other.slot apart)) given
        | inr same ↦ absurd (apart (ap (λ (h : Handle). h.slot) same))
      ],
    )
  ]
    where
      now : other.slot ≡ handle.slot → slice_get new.slots other.slot ≡ Some slot
      now same = ap (slice_get new.slots) same ∙ change.after

      earlier : other.slot ≡ handle.slot → slice_get old.slots other.slot ≡ was
      earlier same = ap (slice_get old.slots) same ∙ change.before

      to_here : other.slot ≡ handle.slot → WasGiven new other → WasGiven old other ⊎ (other ≡ handle)
      to_here same given =
          let upto : other.turn ≤ slot.turn = gave_along _ (Some slot) other.turn (now same) given in
          elim (cases_eq other.turn handle.turn) [
            | inl equal ↦ inr (same_handle other handle same equal)
            | inr apart ↦ inl (gave_along was _ other.turn (sym (earlier same)) ((gave other.turn).1 (omega arith)))
          ]

      from_here : other.slot ≡ handle.slot → WasGiven old other ⊎ (other ≡ handle) → WasGiven new other
      from_here same either = gave_along (Some slot) _ other.turn (sym (now same)) (elim either [
        | inl given ↦ let below = (gave other.turn).0 (gave_along _ was other.turn (earlier same) given) in omega arith
        | inr equal ↦ let turns = ap (λ (h : Handle). h.turn) equal in omega arith
      ])

  -- which handles are given after a change that gives no turn
  pub given-same_turn : (old new : Slots T) (handle : Handle) (was slot : Slot T) → ChangesAt old.slots new.slots handle.slot (Some was) slot → slot.turn ≡ was.turn → (other : Handle) → WasGiven new other ↔ WasGiven old other
  given-same_turn old new handle was slot change turn other = elim (cases_eq other.slot handle.slot) [
    | inl same ↦ (to_here same, from_here same)
    | inr apart ↦ (gave_along _ _ other.turn (change.others other.slot apart), gave_along _ _ other.turn (sym (change.others other.slot apart)))
  ]
    where
      now : other.slot ≡ handle.slot → slice_get new.slots other.slot ≡ Some slot
      now same = ap (slice_get new.slots) same ∙ change.after

      earlier : other.slot ≡ handle.slot → slice_get old.slots other.slot ≡ Some was
      earlier same = ap (slice_get old.slots) same ∙ change.before

      to_here : other.slot ≡ handle.slot → WasGiven new other → WasGiven old other
      to_here same given =
          let upto : other.turn ≤ slot.turn = gave_along _ (Some slot) other.turn (now same) given in
          gave_along (Some was) _ other.turn (sym (earlier same)) (omega arith)

      from_here : other.slot ≡ handle.slot → WasGiven old other → WasGiven new other
      from_here same given =
          let upto : other.turn ≤ was.turn = gave_along _ (Some was) other.turn (earlier same) given in
          gave_along (Some slot) _ other.turn (sym (now same)) (omega arith)

  -- the slot of a handle that finds an item
  pub live_slot : (arena : Slots T) (handle : Handle) (item : T) → found arena handle ≡ Some item → (slot : Slot T) × (slice_get arena.slots handle.slot ≡ Some slot) × (slot.turn ≡ handle.turn) × (slot.item ≡ Some item)
  live_slot arena handle item finds = by_slot (slice_get arena.slots handle.slot) refl finds
    where
      by_slot : (o : Option (Slot T)) → slice_get arena.slots handle.slot ≡ o → item_on o handle.turn ≡ Some item → (slot : Slot T) × (slice_get arena.slots handle.slot ≡ Some slot) × (slot.turn ≡ handle.turn) × (slot.item ≡ Some item)
      by_slot None is none = absurd (none-some item none)
      by_slot (Some slot) is some = elim (cases_eq slot.turn handle.turn) [
        | inl same ↦ (slot, is, same, sym (item_on_its_turn slot handle.turn same) ∙ some)
        | inr apart ↦ absurd (none-some item (sym (nothing_on_other_turn slot handle.turn apart) ∙ some))
      ]

  -- 1 for a slot that is taken
  abbrev pub weight : Slot T → ℕ
  weight slot = cond (is_taken slot) 1 0

  -- how many slots are taken after a write to one
  pub taken-set : (slots : List (Slot T)) (place : ℕ) (was slot : Slot T) (m n : ℕ) → slice_get slots place ≡ Some was → weight was ≡ m → weight slot ≡ n → count_by is_taken (set slots place slot) + m ≡ count_by is_taken slots + n
  taken-set slots place was slot m n stands counts_was counts_is =
      let counted : sum_by weight (set slots place slot) + weight (get_or slots place was) ≡ sum_by weight slots + weight slot = sum_by-set weight slots place slot was (slice_get_within slots place was stands) in
      let read : weight (get_or slots place was) ≡ weight was = ap weight (get_or_from_slice_get slots place was was stands) in
      omega arith

  pub taken-push : (slots : List (Slot T)) (slot : Slot T) → is_taken slot ≡ true → count_by is_taken (slots ++ slot ∷ []) ≡ count_by is_taken slots + 1
  taken-push slots slot is = sum_by_push weight slots slot ∙ ap (λ (b : Bool). count_by is_taken slots + cond b 1 0) is
