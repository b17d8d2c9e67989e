-- What the names of tags and attributes are read as.
use Rattle.std.specs.Prelude.{ℕ, Bool, false, not, ◌&&◌, codes, if◌then◌else◌, List, [], ◌∷◌, Option, Some, None}
use Rattle.std.specs.Str.{bytes_eq}
use Rattle.cs_token.specs.Reading.Runs.{strip}
use Rattle.razor_ast.specs.AttributeNames.{begins_at, are_lower}
use Rattle.razor_reader.specs.declared.names.NameForm.{NameForm}
use Rattle.razor_reader.specs.declared.names.NameForm.TheVariants as f

-- the name of an element that may stand anywhere
abbrev pub is_element_name : List ℕ → Bool
is_element_name name = not (bytes_eq name (codes "script")) && not (bytes_eq name (codes "style")) && not (bytes_eq name (codes "text"))

-- lower-case letters, and some
abbrev pub are_some_lower : List ℕ → Bool
are_some_lower [] = false
are_some_lower (c ∷ text) = are_lower (c ∷ text)

-- `@on` and lower-case letters
abbrev pub is_event : List ℕ → Bool
is_event name = elim (strip (codes "@on") name) [ Some rest ↦ are_some_lower rest | None ↦ false ]

-- an attribute of an element whose name begins with an at sign
abbrev pub element_form : List ℕ → List ℕ → NameForm
element_form name characters =
    if bytes_eq name (codes "@bind") then f.Bind
    else if bytes_eq name (codes "@bind:event") then f.BindEvent
    else if is_event characters then f.Event
    else f.Nothing

abbrev pub at_form : Bool → List ℕ → List ℕ → NameForm
at_form component name characters =
    if bytes_eq name (codes "@key") then f.Key
    else if component then f.Nothing
    else element_form name characters

abbrev pub plain_form : Bool → List ℕ → NameForm
plain_form component name =
    if not component then f.Plain else if bytes_eq name (codes "Context") then f.Context else f.Parameter

-- an attribute by its name, on a component's tag or not
abbrev pub name_form : Bool → List ℕ → NameForm
name_form component name = if begins_at name then at_form component name name else plain_form component name
