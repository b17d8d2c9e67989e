-- How a tree is made of parts: the elements that are still open, the innermost first, and the items so far.
use Rattle.std.specs.Prelude.{ℕ, Bool, false, List, [], ◌∷◌, ◌++◌, length, reverse, Option, Some, None, ◌==◌, nat_lt, if◌then◌else◌}
use Rattle.std.specs.Str.{bytes_eq}
use Rattle.first_click.specs.declared.component.Field.{Field}
use Rattle.first_click.specs.declared.component.Item.{Item}
use Rattle.first_click.specs.declared.component.Item.TheVariants as item
use Rattle.first_click.specs.declared.content.Builder.{Builder}
use Rattle.first_click.specs.declared.content.Unclosed.{Unclosed}
use Rattle.first_click.specs.declared.parts.Part.{Part}
use Rattle.first_click.specs.declared.parts.Part.TheVariants as part
use Rattle.first_click.specs.Content.{is_blank, trimmed}
use Rattle.first_click.specs.Options.{◌>>=◌}
use Rattle.first_click.specs.Fields.{has_field}
use Rattle.first_click.specs.Names.{is_element_name}

-- whether the first item is white space alone
abbrev pub begins_blank : List Item → Bool
begins_blank [] = false
begins_blank (first ∷ items) = is_blank first

-- whether the last item is white space alone
abbrev pub ends_blank : List Item → Bool
ends_blank [] = false
ends_blank (last ∷ []) = is_blank last
ends_blank (first ∷ second ∷ items) = ends_blank (second ∷ items)

-- the elements that are open, and the items so far
abbrev pub State : Type 0
State = List Unclosed × List Item

-- the state of a builder
abbrev pub state_of : Builder → State
state_of builder = (reverse builder.outer.items, builder.items)

-- one more item
abbrev pub with_item : State → Item → State
with_item s i = (s.0, s.1 ++ i ∷ [])

-- an open element of this name and this handler, behind these items
abbrev pub unclosed : List ℕ → Option ℕ → List Item → Unclosed
unclosed name handler before = record { name = name; handler = handler; before = before }

-- a start tag
unfoldable pub started : State → List ℕ → Option ℕ → Option State
started s name handler =
    if nat_lt (length s.0) 100
    then (if is_element_name name then Some (unclosed name handler s.1 ∷ s.0, []) else None)
    else None

-- an end tag
unfoldable pub ended : List Unclosed → List Item → List ℕ → Option State
ended [] items name = None
ended (last ∷ outer) items name =
    if bytes_eq last.name name
    then Some (outer, last.before ++ item.Element last.name last.handler (trimmed items) ∷ [])
    else None

-- one more part
unfoldable pub taken : List Field → State → Part → Option State
taken fields s (part.Literal text) = Some (with_item s (item.Literal text))
taken fields s (part.Shown name) = if has_field fields name then Some (with_item s (item.Shown name)) else None
taken fields s (part.Start name handler) = started s name handler
taken fields s (part.End name) = ended s.0 s.1 name

-- all parts, one after another
abbrev pub built : List Field → State → List Part → Option State
built fields s [] = Some s
built fields s (p ∷ parts) = taken fields s p >>= λ t. built fields t parts

-- the items, where every element is closed
abbrev pub finished : State → Option (List Item)
finished s = if length s.0 == 0 then Some (trimmed s.1) else None
