-- Sections of a `switch`, and which of them is meant.
use Rattle.std.specs.Prelude.{List, find, option_map, Option, Some, None, Bool}
use Rattle.std.specs.List.{list_any, filter_map}
use Rattle.std.specs.Option.{option_or}
use Rattle.cs_ast.specs.declared.value.Value.{Value}
use Rattle.cs_ast.specs.declared.code.Code.{Code, out-Code}
use Rattle.cs_ast.specs.declared.code.Code.TheOpen.{Code-F}
use Rattle.cs_meaning.specs.Equality.{is_same}

-- a section: its constants, whether `default` is among its labels, and its statements
pub record Section (A : Type 0) : Type 0 where
  pub constants : List Value
  pub otherwise : Bool
  pub statements : A

abbrev pub section : {A : Type 0} → List Value → Bool → A → Section A
section constants otherwise statements = record { constants = constants; otherwise = otherwise; statements = statements }

-- a section, if this is one
abbrev pub section_in : {A : Type 0} → Code-F A → Option (Section (List A))
section_in (Code-F.Section constants otherwise statements) = Some (section constants otherwise statements)
section_in _ = None

abbrev pub section_of : Code → Option (Section (List Code))
section_of code = section_in (out-Code code)

-- the sections among these codes
abbrev pub sections_of : List Code → List (Section (List Code))
sections_of codes = filter_map section_of codes

-- the statements of the first section with a constant that is the value, or else of the first with `default`
abbrev pub selected : {A : Type 0} → Value → List (Section A) → Option A
selected x sections = option_map (λ it. it.statements) (option_or (find (λ it. list_any (is_same x) it.constants) sections) (find (λ it. it.otherwise) sections))
