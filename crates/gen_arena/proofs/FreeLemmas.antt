-- Where an item can be put in.
use Rattle.std.proofs.Common.{◌≡◌, ℕ, suc, ◌+◌, ◌-◌, ◌^◌, ◌<◌, ◌≤◌, cond, nat_lt, Bool, ◌||◌, not, true, false, count_by, sum_by, List, [], ◌∷◌, length, set, get_or, Option, Some, None, is_some, IsTrue, IsSomeAnd, slice_get, refl, sym, ap, subst, ◌∙◌, arith, length-set, true≢false, position}
use Rattle.std.specs.List.{position_or_len}
use Rattle.std.proofs.lemmas.Bool.{not-true, not-false}
use Rattle.std.proofs.lemmas.Bool.Decides.{nat_tests}
use Rattle.std.proofs.lemmas.List.Sums.{count_by-le-length, sum_by-cons}
use Rattle.std.proofs.lemmas.List.Quantifiers.{position-Some}
use Rattle.std.proofs.lemmas.Option.{slice_get-get_or, get_or_from_slice_get}
use Rattle.gen_arena.specs.declared.slot.Slot.{Slot}
use Rattle.gen_arena.specs.Taken.{is_spent, is_taken, is_free, IsFreeAt}
use Rattle.gen_arena.proofs.Changes.{weight, taken-set}

module _ {T : Type 0} where
  -- a free slot has no item and has turns left
  pub empty_where_free : (slot : Slot T) → IsTrue (is_free slot) → slot.item ≡ None
  empty_where_free slot free = by_item slot.item refl (not-true (is_taken slot) free)
    where
      by_item : (o : Option T) → slot.item ≡ o → is_taken slot ≡ false → slot.item ≡ None
      by_item None is untaken = is
      by_item (Some x) is untaken = absurd (true≢false (sym (ap (λ (o : Option T). is_some o || is_spent slot) is) ∙ untaken))

  -- what is read where a free slot stands
  pub free_at : (slots : List (Slot T)) (place : ℕ) (read : Slot T) → IsFreeAt slots place → read ≡ get_or slots place read → (slice_get slots place ≡ Some read) × IsTrue (is_free read)
  free_at slots place read free is = by_slot (slice_get slots place) refl free
    where
      by_slot : (o : Option (Slot T)) → slice_get slots place ≡ o → IsSomeAnd o (λ slot. IsTrue (is_free slot)) → (slice_get slots place ≡ Some read) × IsTrue (is_free read)
      by_slot None stands holds = absurd holds
      by_slot (Some slot) stands holds =
          let same : slot ≡ read = sym (is ∙ get_or_from_slice_get slots place slot read stands) in
          (stands ∙ ap Some same, subst (λ (s : Slot T). IsTrue (is_free s)) same holds)

  -- the first free slot is free
  pub free_first : (slots : List (Slot T)) (place : ℕ) → position is_free slots ≡ Some place → IsFreeAt slots place
  free_first [] place is = absurd (cc)
  free_first (slot ∷ rest) place is =
      let here = position-Some is_free (slot ∷ rest) place slot is in
      subst (λ (o : Option (Slot T)). IsSomeAnd o (λ s. IsTrue (is_free s))) (sym (slice_get-get_or (slot ∷ rest) place slot here.0)) here.1

  all_taken_up_to : (slots : List (Slot T)) → length slots ≤ position_or_len is_free slots → count_by is_taken slots ≡ length slots
  all_taken_up_to [] long = refl
  all_taken_up_to (slot ∷ rest) long = by_first (is_free slot) refl (all_taken_up_to rest)
    where
      nothing_left : (n : ℕ) → suc n ≤ 0 → ⊥
      nothing_left n long = omega arith

      one_off : (m n : ℕ) → suc m ≤ 1 + n → m ≤ n
      one_off m n long = omega arith

      from_first : (free : Bool) → is_free slot ≡ free → suc (length rest) ≤ cond (not free) (1 + position_or_len is_free rest) 0
      from_first free is = subst (λ (b : Bool). suc (length rest) ≤ cond (not b) (1 + position_or_len is_free rest) 0) is long

      by_first : (free : Bool) → is_free slot ≡ free → (length rest ≤ position_or_len is_free rest → count_by is_taken rest ≡ length rest) → count_by is_taken (slot ∷ rest) ≡ length (slot ∷ rest)
      by_first true is later = absurd (nothing_left (length rest) (from_first true is))
      by_first false is later =
          let further = later (one_off (length rest) (position_or_len is_free rest) (from_first false is)) in
          let counts : weight slot ≡ 1 = ap (λ (b : Bool). cond b 1 0) (not-false (is_taken slot) is) in
          let whole : sum_by weight (slot ∷ rest) ≡ weight slot + sum_by weight rest = sum_by-cons weight slot rest in
          omega arith

  -- where no slot is free, all are taken
  pub all_taken : (slots : List (Slot T)) → position is_free slots ≡ None → count_by is_taken slots ≡ length slots
  all_taken slots none = all_taken_up_to slots (upto (position_or_len is_free slots) (length slots) none)
    where
      upto : (m n : ℕ) → cond (nat_lt m n) (Some m) None ≡ None → n ≤ m
      upto m n none = grind (arith, nat_tests)

  -- where a slot is free, not all are taken
  pub free_below : (slots : List (Slot T)) (place : ℕ) → IsFreeAt slots place → count_by is_taken slots < length slots
  free_below slots place free = by_slot (slice_get slots place) refl free
    where
      spent : Slot T
      spent = record { turn = 2 ^ 64 - 1; item = None }

      by_slot : (o : Option (Slot T)) → slice_get slots place ≡ o → IsSomeAnd o (λ slot. IsTrue (is_free slot)) → count_by is_taken slots < length slots
      by_slot None stands holds = absurd holds
      by_slot (Some slot) stands holds =
          let was : weight slot ≡ 0 = ap (λ (b : Bool). cond b 1 0) (not-true (is_taken slot) holds) in
          let more = taken-set slots place slot spent 0 1 stands was refl in
          let most = count_by-le-length is_taken (set slots place spent) in
          let same = length-set slots place spent in
          omega arith
