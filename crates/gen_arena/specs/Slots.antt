-- What a contract sees of an arena.
use Rattle.std.specs.Prelude.{ℕ, List, Option, refl}
use Rattle.std.specs.Coded.{Coded, code_by, coded×, coded_ℕ, coded_list, coded_option}
use Rattle.gen_arena.specs.declared.slot.Slot.{Slot}

-- its slots, each with the turn that it gave last and the item that it holds, if any, and how many slots it may have
pub record Slots (T : Type 0) : Type 0 where
  pub slots : List (Slot T)
  pub limit : ℕ

-- a slot is stored as the pair of its fields
abbrev pub slot_code : {T : Type 0} → Coded T → Coded (Slot T)
slot_code {T} code =
    code_by (ℕ × Option T) (coded× coded_ℕ (coded_option code)) (λ s. (s.turn, s.item)) (λ p. record { turn = p.0; item = p.1 }) (λ _. refl)

-- an arena is stored as the pair of its slots and its limit
abbrev pub slots_code : {T : Type 0} → Coded T → Coded (Slots T)
slots_code {T} code =
    code_by (List (Slot T) × ℕ) (coded× (coded_list (slot_code code)) coded_ℕ) (λ a. (a.slots, a.limit)) (λ p. record { slots = p.0; limit = p.1 }) (λ _. refl)
