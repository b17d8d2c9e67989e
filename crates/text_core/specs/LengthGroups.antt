-- A length in groups of seven bits, the least first. A group is a byte; it announces another by being 128 higher.
use Rattle.std.specs.Prelude.{ℕ, zero, suc, ◌+◌, ◌-◌, ◌*◌, ◌/◌, ◌%◌, Bool, false, ◌&&◌, ◌||◌, List, [], ◌∷◌, length, drop, Result, Ok, Err, nat_lt, ◌==◌, if◌then◌else◌}
use Rattle.text_core.specs.declared.wire_fault.WireFault.{WireFault}
use Rattle.text_core.specs.declared.wire_fault.WireFault.TheVariants.{BadLength, Short}

-- a number in the fewest groups, of which so many may follow the first
abbrev pub groups : ℕ → ℕ → List ℕ
groups zero n = n ∷ []
groups (suc more) n = if nat_lt n 128 then n ∷ [] else (n % 128 + 128) ∷ groups more (n / 128)

-- how many groups at the front announce another
abbrev pub announcing : List ℕ → ℕ
announcing [] = 0
announcing (group ∷ bytes) = if nat_lt group 128 then 0 else suc (announcing bytes)

-- the number that the groups at the front say
abbrev pub said : List ℕ → ℕ
said [] = 0
said (group ∷ bytes) = if nat_lt group 128 then group else group - 128 + 128 * said bytes

-- whether a group behind them ends them that is 0
abbrev pub ends_in_zero : List ℕ → Bool
ends_in_zero [] = false
ends_in_zero (group ∷ bytes) = if nat_lt group 128 then group == 0 else ends_in_zero bytes

-- a group is announced behind the last that may follow the first, or the last of several is 0
abbrev pub is_bad_length : ℕ → Bool → List ℕ → Bool
is_bad_length more several bytes = nat_lt more (announcing bytes) || (several || nat_lt 0 (announcing bytes)) && ends_in_zero bytes

-- the length at the front, of whose groups so many may follow the first and several may stand before; and what follows it
unfoldable pub length_at : ℕ → Bool → List ℕ → Result (ℕ × List ℕ) WireFault
length_at more several bytes =
    if is_bad_length more several bytes then Err BadLength
    else if nat_lt (announcing bytes) (length bytes) then Ok (said bytes, drop (suc (announcing bytes)) bytes)
    else Err Short
