-- What names stand for in a scope.
use Rattle.std.specs.Prelude.{ℕ, ◌+◌, List, [], ◌∷◌, ◌++◌, reverse, Bool, true, false, ◌&&◌, if◌then◌else◌, Option, Some, None, bytes_eq}
use Rattle.std.specs.List.{list_any}
use Rattle.text_core.specs.declared.place.Place.{Place}
use Rattle.cs_ast.specs.declared.identifier.Ident.{Ident}
use Rattle.cs_ast.specs.declared.cs_type.CsType.{CsType}
use Rattle.cs_ast.specs.declared.code.Code.TheVariants as c
use Rattle.cs_ast.specs.declared.code.Variable.{Variable}
use Rattle.cs_ast.specs.declared.code.Variable.TheVariants as variable
use Rattle.cs_ast.specs.declared.scope.Scope.{Scope}
use Rattle.cs_ast.specs.declared.scope.Named.{Named}
use Rattle.cs_ast.specs.declared.scope.NameKind.{NameKind}
use Rattle.cs_ast.specs.declared.scope.NameKind.TheVariants as kind
use Rattle.cs_rules.specs.declared.rule.Rule.TheVariants.{DuplicateName, UnknownName, ParameterAssigned}
use Rattle.cs_rules.specs.declared.checked.Checked.{Checked}
use Rattle.cs_rules.specs.Types.{checked}
use Rattle.cs_rules.specs.Judged.{Judged, fine, breaks, mismatch, known}

-- the first of these that has the name
abbrev pub first_named : List ℕ → List Named → Option Named
first_named name [] = None
first_named name (one ∷ others) = if bytes_eq one.name name then Some one else first_named name others

-- what a name stands for: the innermost that has it
unfoldable pub meant : List Named → List ℕ → Option Named
meant names name = first_named name (reverse names)

-- the same where a name stands in code
unfoldable pub meant_by : Scope → Ident → Judged Named
meant_by s name = known UnknownName name.place (meant s.names name.name)

abbrev pub is_local : NameKind → Bool
is_local kind.Local = true
is_local _ = false

-- how many locals there are
abbrev pub locals_in : List Named → ℕ
locals_in [] = 0
locals_in (one ∷ others) = (if is_local one.kind then 1 else 0) + locals_in others

-- a new local: its number is the count of those that are there
abbrev pub local : List Named → List ℕ → CsType → Named
local names name cs_type = record { name = name; cs_type = cs_type; kind = kind.Local; place = locals_in names }

-- the scope behind its declaration
unfoldable pub with_local : Scope → List ℕ → CsType → Scope
with_local s name cs_type = record s { names = s.names ++ local s.names name cs_type ∷ [] }

-- no local in scope has the name of a new one
unfoldable pub is_new : Scope → Ident → Judged (Unit {0})
is_new s name =
    if list_any (λ one. is_local one.kind && bytes_eq one.name name.name) s.names then breaks DuplicateName name.place else fine tt

-- a name as a value, by its kind, number and type: a method's name alone is none
abbrev pub value_of_kind : Place → NameKind → ℕ → CsType → Judged Checked
value_of_kind place kind.Field number cs_type = fine (checked place (c.Field number) cs_type)
value_of_kind place kind.Parameter number cs_type = fine (checked place (c.Parameter number) cs_type)
value_of_kind place kind.Local number cs_type = fine (checked place (c.Local number) cs_type)
value_of_kind place kind.Getter number cs_type = fine (checked place (c.Call number []) cs_type)
value_of_kind place (kind.Method takes) number cs_type = mismatch place

unfoldable pub value_of_name : Place → Named → Judged Checked
value_of_name place one = value_of_kind place one.kind one.place one.cs_type

-- a name as the target of an assignment
unfoldable pub variable_of : Place → NameKind → ℕ → Judged Variable
variable_of place kind.Field number = fine (variable.Field number)
variable_of place kind.Local number = fine (variable.Local number)
variable_of place kind.Parameter number = breaks ParameterAssigned place
variable_of place _ number = mismatch place
