-- Names of tags and attributes.
use Rattle.std.specs.Prelude.{◌≡◌, ◌≢◌, ℕ, ◌<◌, Bool, true, false, List, [], ◌∷◌, ◌++◌, length, codes}
use Rattle.std.specs.List.{list_all}
use Rattle.cs_token.specs.Characters.{is_between}

-- an attribute's name that begins with an at sign
abbrev pub begins_at : List ℕ → Bool
begins_at [] = false
begins_at (c ∷ name) = is_between 64 64 c

-- a to z alone
abbrev pub are_lower : List ℕ → Bool
are_lower = list_all (is_between 97 122)

-- `@on` and lower-case letters
pub data IsEvent : List ℕ → Type 0 where
  event : (name : List ℕ) → 0 < length name → are_lower name ≡ true → IsEvent (codes "@on" ++ name)

-- the name of an element that may stand anywhere
pub record IsElementName (name : List ℕ) : Type 0 where
  pub no_script : name ≢ codes "script"
  pub no_style : name ≢ codes "style"
  pub no_text : name ≢ codes "text"
