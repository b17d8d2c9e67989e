-- Which number a text says.
use Rattle.std.specs.Prelude.{ℕ, ◌+◌, ◌-◌, ◌*◌, ◌^◌, List, [], ◌∷◌, length, drop, slice_index, Option, Some, None, ℤ, pos, neg_ℤ, ◌&&◌, ◌==◌, nat_lt, nat_le, if◌then◌else◌, Bool}
use Rattle.std.specs.Str.{all_ascii_digits}

-- the number that digits say behind the number so far
abbrev pub value_behind : ℕ → List ℕ → ℕ
value_behind so_far [] = so_far
value_behind so_far (digit ∷ digits) = value_behind (10 * so_far + (digit - 48)) digits

-- one decimal digit or more, with a value of at most the limit
abbrev pub says_at_most : ℕ → List ℕ → Bool
says_at_most limit text = nat_lt 0 (length text) && all_ascii_digits text && nat_le (value_behind 0 text) limit

-- an optional minus sign and decimal digits, with a value of 32 bits
abbrev pub i32_of : List ℕ → Option ℤ
i32_of text =
    if slice_index text 0 == 45
    then (if says_at_most (2 ^ 31) (drop 1 text) then Some (neg_ℤ (pos (value_behind 0 (drop 1 text)))) else None)
    else (if says_at_most (2 ^ 31 - 1) text then Some (pos (value_behind 0 text)) else None)
