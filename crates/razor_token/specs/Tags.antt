-- What the names of tags and attributes decide.
use Rattle.std.specs.Prelude.{ℕ, Bool, false, List, [], ◌∷◌, codes, if◌then◌else◌}
use Rattle.std.specs.List.{list_any}
use Rattle.std.specs.Str.{bytes_eq}
use Rattle.cs_token.specs.Characters.{is_between}
use Rattle.razor_token.specs.declared.context.Holds.{Holds}
use Rattle.razor_token.specs.declared.context.Holds.TheVariants as h
use Rattle.razor_token.specs.Runs.{begins}

-- the name of a component or of a parameter of one begins with A to Z
abbrev pub is_component : List ℕ → Bool
is_component [] = false
is_component (c ∷ name) = is_between 65 90 c

-- the elements that have no content and no end tag, the thirteen of the HTML standard
unfoldable pub void_elements : List (List ℕ)
void_elements =
    codes "area" ∷ codes "base" ∷ codes "br" ∷ codes "col" ∷ codes "embed" ∷ codes "hr" ∷ codes "img"
    ∷ codes "input" ∷ codes "link" ∷ codes "meta" ∷ codes "source" ∷ codes "track" ∷ codes "wbr" ∷ []

-- one of these
abbrev pub is_void : List ℕ → Bool
is_void name = list_any (bytes_eq name) void_elements

-- what the value of an attribute whose name begins with an at sign can be
abbrev pub held_by_at : List ℕ → Holds
held_by_at name = if bytes_eq name (codes "@bind:event") then h.Text else if begins (codes "@on") name then h.Event else h.Code

-- what the value of any other attribute of a component's tag can be
abbrev pub held_by_parameter : List ℕ → Holds
held_by_parameter name = if bytes_eq name (codes "Context") then h.Text else h.Supplied

-- what the value of an attribute of this name can be, on a component's tag or not
abbrev pub held_by : Bool → List ℕ → Holds
held_by component name =
    if begins (codes "@") name then held_by_at name
    else if component then held_by_parameter name
    else h.Mixed
