-- Fields of messages in bytes.
use Rattle.std.specs.Prelude.{ℕ, List, [], ◌∷◌, ◌++◌, Option, Some, None}
use Rattle.text_core.specs.Words.{u64_bytes}
use Rattle.text_core.specs.TextBytes.{text_bytes}

-- numbers of 64 bits, one after another
abbrev pub numbers : List ℕ → List ℕ
numbers [] = []
numbers (value ∷ values) = u64_bytes value ++ numbers values

-- 1 and the text, or 0 where there is none
abbrev pub carried : Option (List ℕ) → List ℕ
carried None = 0 ∷ []
carried (Some text) = 1 ∷ text_bytes text

-- a code, and the number that comes with it, if any
abbrev pub coded : ℕ × Option ℕ → List ℕ
coded (code, None) = code ∷ []
coded (code, Some value) = code ∷ u64_bytes value
