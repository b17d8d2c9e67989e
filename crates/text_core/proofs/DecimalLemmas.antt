-- What std reads of a text is the number that the text says, and a number that is written says itself.
use Rattle.std.proofs.Common.{◌≡◌, ◌≢◌, ℕ, ◌-◌, ◌^◌, ◌<◌, ◌≤◌, Bool, true, false, cond, List, [], ◌∷◌, drop, get_or, length, Some, None, Result, Ok, Err, inl, inr, zero, suc, ◌⊎◌, ℤ, pos, negsuc, FitsSigned, refl, ap, sym, ◌∙◌, arith, rules}
use Rattle.std.specs.Prelude.{eqb, ◌&&◌, nat_lt, nat_le}
use Rattle.std.specs.Fmt.{signed_decimal, decimal}
use Rattle.std.specs.Result.{OkIff, result_ok}
use Rattle.std.specs.Str.{all_ascii_digits, IsAscii, chars, encode_utf8_all}
use Rattle.std.specs.Str.Parse.{ParsesSigned}
use Rattle.std.specs.Int.{w32}
use Rattle.std.proofs.lemmas.Int.{ints}
use Rattle.std.proofs.lemmas.Str.Parse.{IsNumeralModel, numerals_by_fold, tells_all_ascii_digits, parse_signed_plain, parse_signed_minus, not_in_digits}
use Rattle.std.proofs.lemmas.Fmt.{IsAscii-from_digits, digits_decimal, digits_value-decimal, decimal_nonempty}
use Rattle.std.proofs.lemmas.Str.{chars-IsAscii, encodes-IsAscii}
use Rattle.std.proofs.lemmas.Bool.{and_parts, and_from, ltb-true, leb-true, lt-ltb, le-leb, eqb-true, eqb-false, ne_eqb, cases_Bool, false≢true}
use Rattle.text_core.specs.Decimal.{i32_of, says_at_most, value_behind}

abbrev AreDigits : List ℕ → Type 0
AreDigits text = all_ascii_digits text ≡ true

-- std's numerals are those of the definition
own : IsNumeralModel AreDigits (value_behind 0)
own = numerals_by_fold AreDigits tells_all_ascii_digits value_behind (search rules)

parts : (limit : ℕ) (text : List ℕ) → says_at_most limit text ≡ true → AreDigits text × (0 < length text) × (value_behind 0 text ≤ limit)
parts limit text e =
    let both = and_parts (nat_lt 0 (length text) && all_ascii_digits text) (nat_le (value_behind 0 text) limit) e in
    let front = and_parts (nat_lt 0 (length text)) (all_ascii_digits text) both.0 in
    (front.1, ltb-true 0 (length text) front.0, leb-true _ _ both.1)

whole : (limit : ℕ) (text : List ℕ) → AreDigits text × (0 < length text) × (value_behind 0 text ≤ limit) → says_at_most limit text ≡ true
whole limit text p =
    and_from _ _ (and_from _ _ (lt-ltb 0 (length text) p.1) p.0) (le-leb _ _ p.2)

-- an answer that is there exactly where a test holds
told : {E : Type 0} (r : Result ℤ E) (P : Type 0) (b : Bool) (v : ℤ) → OkIff r P v → (b ≡ true → P) → (P → b ≡ true) → result_ok r ≡ cond b (Some v) None
told (Ok x) P true v h to from = ap Some h.1
told (Ok x) P false v h to from = absurd (false≢true (from h.0))
told (Err e) P true v h to from = absurd (h (to refl))
told (Err e) P false v h to from = refl

pub parsed : {E : Type 0} (bytes : List ℕ) (r : Result ℤ E) → ParsesSigned w32 10 bytes r → get_or bytes 0 0 ≢ 43 → result_ok r ≡ i32_of bytes
parsed bytes r h no_plus =
    elim (cases_Bool (eqb (get_or bytes 0 0) 45)) [
      | inl minus ↦ rw minus (told r _ (says_at_most (2 ^ 31) (drop 1 bytes)) _ (parse_signed_minus own w32 bytes r h (eqb-true _ _ minus)) (parts (2 ^ 31) (drop 1 bytes)) (whole (2 ^ 31) (drop 1 bytes)))
      | inr plain ↦ rw plain (told r _ (says_at_most (2 ^ 31 - 1) bytes) _ (parse_signed_plain own w32 bytes r h no_plus (eqb-false _ _ plain))
          (λ t. let p = parts (2 ^ 31 - 1) bytes t in (p.0, p.1, omega (arith, p.2)))
          (λ p. whole (2 ^ 31 - 1) bytes (p.0, p.1, omega (arith, p.2))))
    ]

-- what says a number is ASCII
ascii : (limit : ℕ) (text : List ℕ) → says_at_most limit text ≡ true → IsAscii text
ascii limit text e = IsAscii-from_digits text (own.to text (parts limit text e).0)

signed_ascii : (text : List ℕ) → get_or text 0 0 ≡ 45 → IsAscii (drop 1 text) → (i : ℕ) → get_or text i 0 < 128
signed_ascii [] minus tail i = absurd (omega (arith, minus))
signed_ascii (c ∷ text) minus tail zero = omega (arith, minus)
signed_ascii (c ∷ text) minus tail (suc i) = tail i

ascii_or_none : (text : List ℕ) → IsAscii text ⊎ (i32_of text ≡ None)
ascii_or_none text =
    elim (cases_Bool (eqb (get_or text 0 0) 45)) [
      | inl minus ↦ elim (cases_Bool (says_at_most (2 ^ 31) (drop 1 text))) [
        | inl is ↦ inl (signed_ascii text (eqb-true _ _ minus) (ascii (2 ^ 31) (drop 1 text) is))
        | inr fails ↦ inr (rw (minus, fails) refl)
      ]
      | inr plain ↦ elim (cases_Bool (says_at_most (2 ^ 31 - 1) text)) [
        | inl is ↦ inl (ascii (2 ^ 31 - 1) text is)
        | inr fails ↦ inr (rw (plain, fails) refl)
      ]
    ]

-- a text says the same number by its bytes as by its characters
pub i32_of-encodes : (bytes text : List ℕ) → chars bytes ≡ text → encode_utf8_all text ≡ bytes → i32_of bytes ≡ i32_of text
i32_of-encodes bytes text e f =
    elim (ascii_or_none bytes) [
      | inl a ↦ ap i32_of (sym (chars-IsAscii bytes a) ∙ e)
      | inr none ↦ elim (ascii_or_none text) [
        | inl a ↦ ap i32_of (sym f ∙ encodes-IsAscii text a)
        | inr other ↦ none ∙ sym other
      ]
    ]

-- digits that are written say their number, within a limit
written : (limit n : ℕ) → n ≤ limit → n < 2 ^ 64 → says_at_most limit (decimal n) ≡ true
written limit n small fits =
    whole limit (decimal n) (digits_decimal own n fits, decimal_nonempty n fits, rw (digits_value-decimal own n fits) small)

pub i32_of-signed_decimal : (z : ℤ) → FitsSigned w32 z → i32_of (signed_decimal z) ≡ Some z
i32_of-signed_decimal (pos n) fits =
    let wide : n < 2 ^ 64 = omega (arith, ints, fits) in
    let plain : get_or (decimal n) 0 0 ≢ 45 = not_in_digits own (decimal n) 45 (digits_decimal own n wide) (λ range. omega (arith, range.0)) 0 (decimal_nonempty n wide) in
    rw (ne_eqb (get_or (decimal n) 0 0) 45 plain, written (2 ^ 31 - 1) n (omega (arith, ints, fits)) wide, digits_value-decimal own n wide) refl
i32_of-signed_decimal (negsuc n) fits =
    let wide : suc n < 2 ^ 64 = omega (arith, ints, fits) in
    rw (written (2 ^ 31) (suc n) (omega (arith, ints, fits)) wide, digits_value-decimal own (suc n) wide) refl
