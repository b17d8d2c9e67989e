-- Places in a text.
use Rattle.std.specs.Prelude.{ℕ, ◌+◌, ◌==◌, if◌then◌else◌, List, [], ◌∷◌}
use Rattle.text_core.specs.declared.place.Place.{Place}

-- behind a character at this place: a line feed alone ends a line
abbrev pub past_character : Place → ℕ → Place
past_character place c =
    if c == 10 then record { line = place.line + 1; column = 1 } else record { line = place.line; column = place.column + 1 }

-- behind these characters from this place on
abbrev pub behind : Place → List ℕ → Place
behind place [] = place
behind place (c ∷ text) = behind (past_character place c) text

-- where a text begins
abbrev pub first_place : Place
first_place = record { line = 1; column = 1 }

-- the place that has these characters before it
unfoldable pub place_after : List ℕ → Place
place_after before = behind first_place before
