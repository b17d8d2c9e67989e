-- The fields of the one instance of a plain stage, which has the number 1.
use Rattle.std.specs.Prelude.{ℕ, ◌==◌, if◌then◌else◌, List, map, slice_get, None, option_map}
use Rattle.cs_meaning.specs.State.{Fields}
use Rattle.first_click.specs.declared.component.Field.{Field}

-- the values of the fields
abbrev pub fields_of : List Field → Fields
fields_of fields who at = if who == 1 then option_map (λ (field : Field). field.value) (slice_get fields at) else None

-- their names
abbrev pub names_of : List Field → List (List ℕ)
names_of fields = map (λ (field : Field). field.name) fields

-- no instance has parameters
abbrev pub no_parameters : Fields
no_parameters who at = None
