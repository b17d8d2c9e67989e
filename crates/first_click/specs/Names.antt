-- Which names elements, fields and methods may have.
use Rattle.std.specs.Prelude.{ℕ, Bool, not, ◌&&◌, List, [], ◌∷◌, codes}
use Rattle.std.specs.List.{list_any, list_all}
use Rattle.std.specs.Str.{bytes_eq}
use Rattle.page_core.specs.Void.{is_void}
use Rattle.first_click.specs.declared.characters.Class.TheVariants as class
use Rattle.first_click.specs.Characters.{is_in}

-- the words that no field or method has as its name: those of this project's C#, and those that begin a directive
unfoldable pub reserved_words : List (List ℕ)
reserved_words =
    codes "async" ∷ codes "await" ∷ codes "bool" ∷ codes "break" ∷ codes "case" ∷ codes "continue" ∷ codes "default"
    ∷ codes "else" ∷ codes "false" ∷ codes "for" ∷ codes "foreach" ∷ codes "if" ∷ codes "in" ∷ codes "int"
    ∷ codes "internal" ∷ codes "new" ∷ codes "null" ∷ codes "override" ∷ codes "private" ∷ codes "protected"
    ∷ codes "public" ∷ codes "return" ∷ codes "string" ∷ codes "switch" ∷ codes "true" ∷ codes "var" ∷ codes "void"
    ∷ codes "while" ∷ codes "Task" ∷ codes "MarkupString" ∷ codes "ImmutableList" ∷ codes "EventCallback"
    ∷ codes "RenderFragment" ∷ codes "ChangeEventArgs" ∷ codes "EventArgs" ∷ codes "MouseEventArgs"
    ∷ codes "KeyboardEventArgs" ∷ codes "FocusEventArgs" ∷ codes "code" ∷ codes "using" ∷ codes "namespace"
    ∷ codes "implements" ∷ codes "page" ∷ codes "rendermode" ∷ []

-- one of these words
abbrev pub is_reserved : List ℕ → Bool
is_reserved word = list_any (bytes_eq word) reserved_words

-- letters that aren't a reserved word
abbrev pub is_field_name : List ℕ → Bool
is_field_name name = list_all (is_in class.Letter) name && not (is_reserved name)

-- the names of methods that a component calls itself
unfoldable pub lifecycle_names : List (List ℕ)
lifecycle_names = codes "OnInitialized" ∷ codes "OnParametersSet" ∷ []

-- such letters that aren't one of these names
abbrev pub is_method_name : List ℕ → Bool
is_method_name name = is_field_name name && not (list_any (bytes_eq name) lifecycle_names)

-- names that stand for something of their own in a component
unfoldable pub kept_names : List (List ℕ)
kept_names = codes "script" ∷ codes "style" ∷ codes "text" ∷ []

-- neither the name of a void element nor one of these
abbrev pub is_element_name : List ℕ → Bool
is_element_name name = not (is_void name) && not (list_any (bytes_eq name) kept_names)
