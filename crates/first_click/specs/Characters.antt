-- Classes of characters.
use Rattle.std.specs.Prelude.{◌≡◌, ℕ, ◌-◌, ◌<◌, Bool, true, false, not, ◌||◌, ◌&&◌, ◌==◌, nat_le, List, [], ◌∷◌, length, slice_index}
use Rattle.std.specs.List.{list_all}
use Rattle.first_click.specs.declared.characters.Class.{Class}
use Rattle.first_click.specs.declared.characters.Class.TheVariants.{White, Upper, Lower, Letter, Word, Sign, Literal, Continuing, Plain}

-- from low to high
abbrev pub is_between : ℕ → ℕ → ℕ → Bool
is_between low high c = nat_le low c && nat_le c high

-- space, tab, line feed or carriage return
abbrev pub is_white : ℕ → Bool
is_white c = (c == 32) || (c == 9) || (c == 10) || (c == 13)

-- a letter A to Z or a to z, a digit, or `_`
abbrev pub is_word : ℕ → Bool
is_word c = is_between 65 90 c || is_between 97 122 c || is_between 48 57 c || (c == 95)

-- of the class
abbrev pub is_in : Class → ℕ → Bool
is_in White c = is_white c
is_in Upper c = is_between 65 90 c
is_in Lower c = is_between 97 122 c
is_in Letter c = is_between 65 90 c || is_between 97 122 c
is_in Word c = is_word c
is_in Sign c = not (is_white c) && not (is_word c)
is_in Literal c = not ((c == 60) || (c == 64) || (c == 38))
is_in Continuing c = is_word c || (c == 46) || (c == 40) || (c == 91)
is_in Plain c = is_between 32 126 c || (c == 9) || (c == 10)

-- characters of the class alone
abbrev pub AreAll : Class → List ℕ → Type 0
AreAll class text = list_all (is_in class) text ≡ true

-- one or more of them
pub record IsRun (class : Class) (text : List ℕ) : Type 0 where
  pub some : 0 < length text
  pub all : AreAll class text

-- the first character is of the class
abbrev pub begins_with : Class → List ℕ → Bool
begins_with class [] = false
begins_with class (c ∷ text) = is_in class c

-- the last character is of the class
abbrev pub ends_with : Class → List ℕ → Bool
ends_with class text = nat_le 1 (length text) && is_in class (slice_index text (length text - 1))
