-- How tokens are written one behind another.
use Rattle.std.specs.Prelude.{ℕ, List, [], ◌∷◌, ◌++◌, ◌==◌, ◌||◌, codes, if◌then◌else◌}
use Rattle.std.specs.List.{flat_map}
use Rattle.std.specs.Fmt.{signed_decimal}
use Rattle.cs_token.specs.declared.token.TokenKind.{TokenKind}
use Rattle.cs_token.specs.declared.token.TokenKind.TheVariants as k
use Rattle.cs_token.specs.declared.token.Sign.TheVariants as s
use Rattle.cs_token.specs.Signs.{mark}
use Rattle.cs_token.specs.Words.{spelling}

-- A character of a text: a double quote and a backslash have a backslash before them, a line feed is `\n`. A single quote is written
-- by its number, so that printed code has none and can stand in single quotes.
abbrev pub quoted : ℕ → List ℕ
quoted c =
    if c == 34 then 92 ∷ 34 ∷ []
    else if c == 92 then 92 ∷ 92 ∷ []
    else if c == 10 then 92 ∷ 110 ∷ []
    else if c == 39 then 92 ∷ 117 ∷ 48 ∷ 48 ∷ 50 ∷ 55 ∷ []
    else c ∷ []

-- the same in an interpolated text, where a brace stands twice
abbrev pub in_part : ℕ → List ℕ
in_part c = if (c == 123) || (c == 125) then c ∷ c ∷ [] else quoted c

-- a text, and a literal part of an interpolated text
abbrev pub quoted_text : List ℕ → List ℕ
quoted_text = flat_map quoted

abbrev pub part_text : List ℕ → List ℕ
part_text = flat_map in_part

-- a token
unfoldable pub token_text : TokenKind → List ℕ
token_text (k.Name name) = name
token_text (k.Number n) = signed_decimal n
token_text (k.Text text) = 34 ∷ (quoted_text text ++ 34 ∷ [])
token_text (k.Part text) = part_text text
token_text (k.Word word) = spelling word
token_text (k.Sign sign) = mark sign

-- a blank, but before and behind the literal text of an interpolated text nothing
unfoldable pub gap_behind : TokenKind → List ℕ
gap_behind (k.Part text) = []
gap_behind (k.Sign s.InterpolationStart) = []
gap_behind (k.Sign s.HoleClose) = []
gap_behind _ = codes " "

-- a token with what is behind it
abbrev pub laid : TokenKind → List ℕ
laid kind = token_text kind ++ gap_behind kind

-- tokens one behind another
unfoldable pub code_text : List TokenKind → List ℕ
code_text = flat_map laid
