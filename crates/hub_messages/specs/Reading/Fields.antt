-- How fields are read from the front of bytes.
use Rattle.std.specs.Prelude.{ℕ, List, [], ◌∷◌, length, drop, Option, Some, None, if◌then◌else◌, ◌==◌}
use Rattle.std.specs.Result.{result_ok}
use Rattle.text_core.specs.Words.{u64_at}
use Rattle.text_core.specs.TextBytes.{text_at}
use Rattle.hub_messages.specs.Options.{◌>>=◌}

-- a byte, and what follows it
abbrev pub byte_at : List ℕ → Option (ℕ × List ℕ)
byte_at [] = None
byte_at (byte ∷ bytes) = Some (byte, bytes)

-- a number of 64 bits, and what follows it
unfoldable pub number_at : List ℕ → Option (ℕ × List ℕ)
number_at bytes = u64_at bytes >>= λ value. Some (value, drop 8 bytes)

-- two numbers, and what follows them
unfoldable pub pair_at : List ℕ → Option ((ℕ × ℕ) × List ℕ)
pair_at bytes = do
  first ← number_at bytes
  second ← number_at first.1
  Some ((first.0, second.0), second.1)

-- a text, and what follows it
unfoldable pub name_at : List ℕ → Option (List ℕ × List ℕ)
name_at bytes = result_ok (text_at bytes)

-- nothing follows
abbrev pub nothing_in : List ℕ → Option (Unit {0})
nothing_in [] = Some tt
nothing_in (byte ∷ bytes) = None

-- what an event carries: 1 and a text, or 0
unfoldable pub carried_in : List ℕ → Option (Option (List ℕ))
carried_in bytes =
    byte_at bytes
    >>= λ flag. if flag.0 == 0 then (nothing_in flag.1 >>= λ _. Some None)
    else if flag.0 == 1 then (name_at flag.1 >>= λ text. nothing_in text.1 >>= λ _. Some (Some text.0))
    else None

-- the number that comes with a code, if one does
unfoldable pub number_in : List ℕ → Option (Option ℕ)
number_in bytes =
    if length bytes == 0 then Some None
    else number_at bytes >>= λ value. nothing_in value.1 >>= λ _. Some (Some value.0)
