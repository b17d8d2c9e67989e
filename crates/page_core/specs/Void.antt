-- Elements that have no end tag.
use Rattle.std.specs.Prelude.{ℕ, Bool, List, [], ◌∷◌, codes}
use Rattle.std.specs.List.{list_any}
use Rattle.std.specs.Str.{bytes_eq}

-- their names, the thirteen of the HTML standard
unfoldable pub void_elements : List (List ℕ)
void_elements =
    codes "area" ∷ codes "base" ∷ codes "br" ∷ codes "col" ∷ codes "embed" ∷ codes "hr" ∷ codes "img"
    ∷ codes "input" ∷ codes "link" ∷ codes "meta" ∷ codes "source" ∷ codes "track" ∷ codes "wbr" ∷ []

-- whether a name is one of these
abbrev pub is_void : List ℕ → Bool
is_void name = list_any (bytes_eq name) void_elements
