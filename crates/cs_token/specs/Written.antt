-- How the characters of a text are written.
use Rattle.std.specs.Prelude.{◌≡◌, ℕ, ◌+◌, ◌*◌, Bool, true, not, ◌&&◌, ◌||◌, ◌==◌, nat_lt, List, [], ◌∷◌, ◌++◌, Option, Some, None, if◌then◌else◌}
use Rattle.std.specs.Char.{digit_value}
use Rattle.cs_token.specs.Characters.{is_between}
use Rattle.cs_token.specs.declared.written.Form.{Form}
use Rattle.cs_token.specs.declared.written.Form.TheVariants.{Quoted, Part}

-- an opening or a closing brace
abbrev pub is_brace : ℕ → Bool
is_brace c = (c == 123) || (c == 125)

-- written as itself: neither a double quote, a backslash nor a line feed, and in a part of an interpolated text no brace
abbrev pub is_plain : Form → ℕ → Bool
is_plain Quoted c = not ((c == 34) || (c == 92) || (c == 10))
is_plain Part c = not ((c == 34) || (c == 92) || (c == 10) || (c == 123) || (c == 125))

-- what a letter behind a backslash says: itself for `\`, `"` and `'`, NUL for `0`, LF for `n`, CR for `r` and tab for `t`
abbrev pub escaped : ℕ → Option ℕ
escaped d =
    if (d == 92) || (d == 34) || (d == 39) then Some d
    else if d == 48 then Some 0
    else if d == 110 then Some 10
    else if d == 114 then Some 13
    else if d == 116 then Some 9
    else None

-- digits to the base 16
abbrev pub are_hex : ℕ → ℕ → ℕ → ℕ → Bool
are_hex a b c d = nat_lt (digit_value a) 16 && nat_lt (digit_value b) 16 && nat_lt (digit_value c) 16 && nat_lt (digit_value d) 16

-- the number that they say
abbrev pub hex_value : ℕ → ℕ → ℕ → ℕ → ℕ
hex_value a b c d = digit_value a * 4096 + digit_value b * 256 + digit_value c * 16 + digit_value d

-- what four of them behind `\u` say, which is no surrogate
abbrev pub numbered : ℕ → ℕ → ℕ → ℕ → Option ℕ
numbered a b c d =
    if are_hex a b c d && not (is_between 55296 57343 (hex_value a b c d)) then Some (hex_value a b c d) else None

-- these characters write one
pub data IsUnit : Form → List ℕ → ℕ → Type 0 where
  itself : (form : Form) (c : ℕ) → is_plain form c ≡ true → IsUnit form (c ∷ []) c
  -- a backslash and a letter
  escape : (form : Form) (d c : ℕ) → escaped d ≡ Some c → IsUnit form (92 ∷ d ∷ []) c
  -- `\u` and four digits
  number : (form : Form) (a b c d n : ℕ) → numbered a b c d ≡ Some n → IsUnit form (92 ∷ 117 ∷ a ∷ b ∷ c ∷ d ∷ []) n
  -- a brace twice
  doubled : (c : ℕ) → is_brace c ≡ true → IsUnit Part (c ∷ c ∷ []) c

-- this text writes these characters, one after another
pub data IsWritten (form : Form) : List ℕ → List ℕ → Type 0 where
  nothing : IsWritten form [] []
  more : (unit text said : List ℕ) (c : ℕ) → IsUnit form unit c → IsWritten form text said → IsWritten form (unit ++ text) (c ∷ said)

-- no character is written at the front of this text
abbrev pub NoUnit : Form → List ℕ → Type 0
NoUnit form text = (unit rest : List ℕ) (c : ℕ) → IsUnit form unit c → text ≡ unit ++ rest → ⊥
