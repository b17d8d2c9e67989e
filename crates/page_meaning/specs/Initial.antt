-- The initial values of own fields.
use Rattle.std.specs.Prelude.{ℕ, ◌==◌, pos, List, [], ◌∷◌, slice_get, if◌then◌else◌, false, Option, Some, None}
use Rattle.cs_ast.specs.declared.cs_type.CsType.{CsType}
use Rattle.cs_ast.specs.declared.cs_type.CsType.TheVariants as t
use Rattle.cs_ast.specs.declared.expression.Expr.{Expr}
use Rattle.cs_ast.specs.declared.member.Member.{Member}
use Rattle.cs_ast.specs.declared.member.MemberKind.{MemberKind}
use Rattle.cs_ast.specs.declared.member.MemberKind.TheVariants.{Field}
use Rattle.cs_ast.specs.declared.value.Value.{Value}
use Rattle.cs_ast.specs.declared.value.Value.TheVariants as v
use Rattle.cs_meaning.specs.State.{Fields, State, state}
use Rattle.cs_meaning.specs.Outcome.{Outcome, gives, stuck, Meaning, and_then}
use Rattle.cs_meaning.specs.Meaning.{Setting, setting, body_meaning}
use Rattle.cs_rules.specs.declared.checked.Checked.{Checked}
use Rattle.cs_rules.specs.Judged.{Judged, fine, breaks}
use Rattle.cs_rules.specs.Trees.{value_in}
use Rattle.cs_rules.specs.Written.{type_of}
use Rattle.razor_rules.specs.Scopes.{Home, initial_scope}

-- what a field of a type is without an initial value
abbrev pub default_of : CsType → Value
default_of t.Int = v.Int (pos 0)
default_of t.Bool = v.Bool false
default_of _ = v.Null

-- no values
abbrev pub no_fields : Fields
no_fields who at = None

-- what code gives that runs by itself, on the units that are left
abbrev pub if_fine : Setting → Judged Checked → Meaning
if_fine around (fine x) s = body_meaning around x.code (state [] no_fields [] s.left)
if_fine around (breaks rule place) s = stuck

abbrev pub initial_value : Home → Setting → CsType → Option Expr → Meaning
initial_value home around cs_type None s = gives (default_of cs_type) s
initial_value home around cs_type (Some a) s = if_fine around (value_in (initial_scope home) a) s

-- the value of a member, if it is a field, in front of those that follow
abbrev pub with_field_value : Home → Setting → MemberKind → (State → Outcome (List Value)) → State → Outcome (List Value)
with_field_value home around (Field cs_type name initial) next s = and_then (initial_value home around (type_of cs_type) initial s) (λ x s1. and_then (next s1) (λ xs s2. gives (x ∷ xs) s2))
with_field_value home around _ next s = next s

-- the initial values of the fields among members, in their order
abbrev pub field_values : Home → Setting → List Member → State → Outcome (List Value)
field_values home around [] s = gives [] s
field_values home around (one ∷ others) s = with_field_value home around one.kind (field_values home around others) s

-- these values as the own fields of an instance
abbrev pub fields_of : ℕ → List Value → Fields
fields_of who values other at = if other == who then slice_get values at else None

-- the initial values of an instance's own fields, on 1,000,000 units of their own
abbrev pub initial_fields : Home → ℕ → List Member → Outcome (List Value)
initial_fields home who members = field_values home (setting who no_fields [] 1) members (state [] no_fields [] 1000000)
