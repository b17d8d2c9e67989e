-- Classes of characters.
use Rattle.std.specs.Prelude.{◌≡◌, ℕ, ◌<◌, Bool, true, false, not, ◌||◌, ◌&&◌, ◌==◌, nat_le, List, [], ◌∷◌, length}
use Rattle.std.specs.List.{list_all}
use Rattle.cs_token.specs.declared.characters.Class.{Class}
use Rattle.cs_token.specs.declared.characters.Class.TheVariants.{White, Letter, Digit, Word, Inline}

-- from low to high
abbrev pub is_between : ℕ → ℕ → ℕ → Bool
is_between low high c = nat_le low c && nat_le c high

-- of the class
abbrev pub is_in : Class → ℕ → Bool
is_in White c = (c == 32) || (c == 9) || (c == 10) || (c == 13)
is_in Letter c = is_between 65 90 c || is_between 97 122 c || (c == 95)
is_in Digit c = is_between 48 57 c
is_in Word c = is_between 65 90 c || is_between 97 122 c || (c == 95) || is_between 48 57 c
is_in Inline c = not (c == 10)

-- characters of the class alone
abbrev pub AreAll : Class → List ℕ → Type 0
AreAll class text = list_all (is_in class) text ≡ true

-- one or more of them
pub record IsRun (class : Class) (text : List ℕ) : Type 0 where
  pub some : 0 < length text
  pub all : AreAll class text

-- the first character is of the class
abbrev pub begins_with : Class → List ℕ → Bool
begins_with class [] = false
begins_with class (c ∷ text) = is_in class c

-- a letter, and then letters and digits
pub record IsName (text : List ℕ) : Type 0 where
  pub begins : begins_with Letter text ≡ true
  pub all : AreAll Word text
