-- How the characters that a text says are read.
use Rattle.std.specs.Prelude.{ℕ, zero, suc, ◌&&◌, ◌==◌, List, [], ◌∷◌, length, Option, Some, None, option_map, if◌then◌else◌}
use Rattle.cs_token.specs.declared.written.Form.{Form}
use Rattle.cs_token.specs.declared.written.Form.TheVariants.{Part}
use Rattle.cs_token.specs.Written.{is_plain, escaped, numbered}

-- a character, and what stands behind it
abbrev pub and_rest : Option ℕ → List ℕ → Option (ℕ × List ℕ)
and_rest found rest = option_map (λ c. (c, rest)) found

-- behind `\u`
unfoldable pub number_at : List ℕ → Option (ℕ × List ℕ)
number_at (a ∷ b ∷ c ∷ d ∷ rest) = and_rest (numbered a b c d) rest
number_at _ = None

-- behind a backslash
unfoldable pub escape_at : List ℕ → Option (ℕ × List ℕ)
escape_at [] = None
escape_at (letter ∷ rest) = if letter == 117 then number_at rest else and_rest (escaped letter) rest

-- a brace that stands twice
unfoldable pub doubled_at : Form → List ℕ → Option (ℕ × List ℕ)
doubled_at Part (c ∷ d ∷ rest) =
    if (c == 123) && (d == 123) then Some (123, rest) else if (c == 125) && (d == 125) then Some (125, rest) else None
doubled_at _ _ = None

-- the character that is said at the front, and what stands behind it
unfoldable pub unit_at : Form → List ℕ → Option (ℕ × List ℕ)
unit_at form [] = None
unit_at form (c ∷ rest) =
    if c == 92 then escape_at rest else if is_plain form c then Some (c, rest) else doubled_at form (c ∷ rest)

-- one character more
abbrev pub and_more : List ℕ → (List ℕ → List ℕ × List ℕ) → Option (ℕ × List ℕ) → List ℕ × List ℕ
and_more text more None = ([], text)
and_more text more (Some unit) = (unit.0 ∷ (more unit.1).0, (more unit.1).1)

-- the characters that are said at the front, so many at most, and what stands behind them
unfoldable pub said_in : ℕ → Form → List ℕ → List ℕ × List ℕ
said_in zero form text = ([], text)
said_in (suc n) form text = and_more text (said_in n form) (unit_at form text)

-- as many as there are
unfoldable pub said_at : Form → List ℕ → List ℕ × List ℕ
said_at form text = said_in (length text) form text
