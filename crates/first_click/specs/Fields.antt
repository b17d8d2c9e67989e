-- Fields of a component.
use Rattle.std.specs.Prelude.{ℕ, Bool, List, ℤ}
use Rattle.std.specs.List.{list_any}
use Rattle.std.specs.Str.{bytes_eq}
use Rattle.cs_ast.specs.declared.value.Value.TheVariants.{Int}
use Rattle.first_click.specs.declared.component.Field.{Field}

-- one of the fields has the name
abbrev pub has_field : List Field → List ℕ → Bool
has_field fields name = list_any (λ (field : Field). bytes_eq field.name name) fields

-- the field of this name and number
abbrev pub field : List ℕ → ℤ → Field
field name number = record { name = name; value = Int number }
