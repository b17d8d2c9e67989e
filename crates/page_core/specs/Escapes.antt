-- Characters that do not print as they are.
use Rattle.std.specs.Prelude.{ℕ, List, [], ◌∷◌, codes, if◌then◌else◌, ◌==◌}
use Rattle.std.specs.List.{flat_map}
use Rattle.page_core.specs.declared.escape.Context.{Context}
use Rattle.page_core.specs.declared.escape.Context.TheVariants.{Text, Value}

-- what a character of a text prints: `&`, `<` and `>` are escaped
abbrev pub escaped_in_text : ℕ → List ℕ
escaped_in_text character =
    if character == 38 then codes "&amp;"
    else if character == 60 then codes "&lt;"
    else if character == 62 then codes "&gt;"
    else character ∷ []

-- what a character of a value in quotes prints: `"` is escaped besides
abbrev pub escaped_in_value : ℕ → List ℕ
escaped_in_value character = if character == 34 then codes "&quot;" else escaped_in_text character

-- what a text prints
abbrev pub escaped_text : List ℕ → List ℕ
escaped_text = flat_map escaped_in_text

-- what a value in quotes prints
abbrev pub escaped_value : List ℕ → List ℕ
escaped_value = flat_map escaped_in_value

-- what a character prints in a context
abbrev pub escaped_character : Context → ℕ → List ℕ
escaped_character Text character = escaped_in_text character
escaped_character Value character = escaped_in_value character

-- what characters print in a context
abbrev pub escaped : Context → List ℕ → List ℕ
escaped context = flat_map (escaped_character context)
