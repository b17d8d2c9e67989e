-- What each form of expression comes to, by what its parts come to.
use Rattle.std.specs.Prelude.{ℕ, ◌==◌, List, [], ◌∷◌, length, map, if◌then◌else◌, Option, Some, None}
use Rattle.text_core.specs.declared.place.Place.{Place}
use Rattle.cs_ast.specs.declared.code.Code.{Code}
use Rattle.cs_ast.specs.declared.code.Code.TheVariants as c
use Rattle.cs_ast.specs.declared.code.LibraryMember.TheVariants as library
use Rattle.cs_ast.specs.declared.cs_type.CsType.{CsType, out-CsType}
use Rattle.cs_ast.specs.declared.cs_type.CsType.TheVariants as t
use Rattle.cs_ast.specs.declared.cs_type.CsType.TheOpen.{CsType-F}
use Rattle.cs_ast.specs.declared.cs_type.TypeExpr.{TypeExpr}
use Rattle.cs_ast.specs.declared.identifier.Ident.{Ident}
use Rattle.cs_ast.specs.declared.member.Member.{Member}
use Rattle.cs_ast.specs.declared.operators.AssignOp.{AssignOp}
use Rattle.cs_ast.specs.declared.operators.BinaryOp.{BinaryOp}
use Rattle.cs_ast.specs.declared.operators.CastOp.{CastOp}
use Rattle.cs_ast.specs.declared.operators.StaticType.{StaticType}
use Rattle.cs_ast.specs.declared.operators.StepOp.{StepOp}
use Rattle.cs_ast.specs.declared.operators.UnaryOp.{UnaryOp}
use Rattle.cs_ast.specs.declared.scope.Named.{Named}
use Rattle.cs_ast.specs.declared.scope.NameKind.{NameKind}
use Rattle.cs_ast.specs.declared.scope.NameKind.TheVariants as kind
use Rattle.cs_ast.specs.declared.scope.Scope.{Scope}
use Rattle.cs_rules.specs.declared.callee.Called.TheVariants as called
use Rattle.cs_rules.specs.declared.callee.Callee.{Callee}
use Rattle.cs_rules.specs.declared.callee.Dotted.{Dotted}
use Rattle.cs_rules.specs.declared.checked.Checked.{Checked}
use Rattle.cs_rules.specs.declared.checked.ExprType.{ExprType}
use Rattle.cs_rules.specs.declared.checked.ExprType.TheVariants.{Of}
use Rattle.cs_rules.specs.declared.rule.Rule.TheVariants.{UnknownName, UnknownType, TypeMismatch}
use Rattle.cs_rules.specs.Judged.{Judged, fine, mismatch, known, each, ◌>>=◌}
use Rattle.cs_rules.specs.Types.{common_type, wants, fitting, own_type, checked}
use Rattle.cs_rules.specs.Names.{meant_by, value_of_name, variable_of}
use Rattle.cs_rules.specs.Written.{type_of, written, Declared, record_named}
use Rattle.cs_rules.specs.Library.{part_from, behind, value_of_member, null_member, static_value, found_static, callee_of_value, callee_of_member, code_of_call}
use Rattle.cs_rules.specs.Operators.{unary_type, cast_type, shown, is_value, binary_type, operator_of}

-- what an expression comes to in a scope as a value
abbrev pub Value : Type 0
Value = Scope → Judged Checked

-- a part behind `with`: its name, and its value
pub record Given : Type 0 where
  pub name : Ident
  pub value : Value

-- an operand behind its operator
unfoldable pub unary : UnaryOp → Value → Place → Value
unary op a place s = do
  x ← a s
  code ← fitting (unary_type op) x
  fine (checked place (c.Unary op code) (unary_type op))

-- a cast takes a text, or null
unfoldable pub cast : CastOp → Value → Place → Value
cast op a place s = do
  x ← a s
  code ← fitting t.Text x
  fine (record { place = place; code = c.Cast op code; expr_type = cast_type op })

unfoldable pub binary : BinaryOp → Value → Value → Place → Value
binary op a b place s = do
  x ← a s
  y ← b s
  given ← binary_type s.records op x.place x.expr_type y.place y.expr_type
  fine (record { place = place; code = c.Binary op x.code y.code; expr_type = given })

-- the type of `a ? b : c` by those of b and c
unfoldable pub chosen_type : Checked → Checked → Judged ExprType
chosen_type x y = if is_value x.expr_type then known TypeMismatch y.place (common_type x.expr_type y.expr_type) else mismatch x.place

unfoldable pub conditional : Value → Value → Value → Place → Value
conditional condition a b place s = do
  test ← condition s
  x ← a s
  y ← b s
  code ← fitting t.Bool test
  given ← chosen_type x y
  fine (record { place = place; code = c.Conditional code x.code y.code; expr_type = given })

-- a hole of an interpolated text
unfoldable pub hole : Value → Scope → Judged Code
hole a s = do
  x ← a s
  is ← shown x.place x.expr_type
  fine x.code

unfoldable pub interpolated : List (Scope → Judged Code) → Place → Value
interpolated parts place s = do
  codes ← each (λ part. part s) parts
  fine (checked place (c.Interpolated codes) t.Text)

-- the item of a list at an index
abbrev pub item_type : Place → CsType-F CsType → Judged CsType
item_type place (CsType-F.List item) = fine item
item_type place _ = mismatch place

unfoldable pub items_of : Place → ExprType → Judged CsType
items_of place (Of cs_type) = item_type place (out-CsType cs_type)
items_of place _ = mismatch place

unfoldable pub index : Value → Value → Place → Value
index a i place s = do
  x ← a s
  y ← i s
  item ← items_of x.place x.expr_type
  code ← fitting t.Int y
  fine (checked place (c.Index x.code code) item)

-- a name behind a dot, of what has a type of its own
unfoldable pub dotted : Scope → Checked → Ident → Judged Dotted
dotted s x name = do
  cs_type ← own_type x.place x.expr_type
  known UnknownName name.place (behind s.records cs_type name.name)

unfoldable pub member : Value → Ident → Place → Value
member a name place s = do
  x ← a s
  found ← dotted s x name
  value_of_member place x.code found

unfoldable pub member_or_null : Value → Ident → Place → Value
member_or_null a name place s = do
  x ← a s
  found ← dotted s x name
  null_member place x found

-- values one after another fit where others are wanted
abbrev pub all_fit : List CsType → List Checked → Judged (Unit {0})
all_fit [] xs = fine tt
all_fit (wanted ∷ others) [] = fine tt
all_fit (wanted ∷ others) (x ∷ xs) = do
  first ← wants wanted x.place x.expr_type
  all_fit others xs

-- arguments: as many as are wanted, each fitting
unfoldable pub passed : Place → List CsType → List Checked → Judged (List Code)
passed place takes xs =
    if length takes == length xs then (do
      fit ← all_fit takes xs
      fine (map (λ x. x.code) xs))
    else mismatch place

unfoldable pub call : (Scope → Judged Callee) → List Value → Place → Value
call target arguments place s = do
  callee ← target s
  xs ← each (λ argument. argument s) arguments
  codes ← passed place callee.takes xs
  fine (checked place (code_of_call callee.called codes) callee.gives)

unfoldable pub new : Ident → List Value → Place → Value
new name arguments place s = do
  found ← known UnknownType name.place (record_named s.records name.name)
  xs ← each (λ argument. argument s) arguments
  codes ← passed place (map (λ part. type_of part.cs_type) found.parts) xs
  fine (checked place (c.New found.number codes) (t.Rec name.name))

-- the record that a type is
unfoldable pub record_of : List Member → ExprType → Option Declared
record_of records (Of (t.Rec name)) = record_named records name
record_of records _ = None

-- a new value of a part: the position and the type of the part, and the value
pub record Replacing : Type 0 where
  pub number : ℕ
  pub wanted : CsType
  pub value : Checked

unfoldable pub replacing : Scope → Declared → Given → Judged Replacing
replacing s found given = do
  part ← known UnknownName given.name.place (part_from 0 given.name.name found.parts)
  x ← given.value s
  fine (record { number = part.0; wanted = part.1; value = x })

-- new values of parts, in order
pub record Replaced : Type 0 where
  pub positions : List ℕ
  pub wanted : List CsType
  pub values : List Checked

abbrev pub replacements : Scope → Declared → List Given → Judged Replaced
replacements s found [] = fine (record { positions = []; wanted = []; values = [] })
replacements s found (given ∷ others) = do
  one ← replacing s found given
  more ← replacements s found others
  fine (record { positions = one.number ∷ more.positions; wanted = one.wanted ∷ more.wanted; values = one.value ∷ more.values })

-- the values are looked at all the same where what stands before `with` is no record
abbrev pub of_no_record : List Given → Place → Value
of_no_record [] place s = mismatch place
of_no_record (given ∷ others) place s = do
  x ← given.value s
  of_no_record others place s

unfoldable pub with_replaced : Checked → Place → Replaced → Judged Checked
with_replaced x place replaced = do
  fit ← all_fit replaced.wanted replaced.values
  fine (record { place = place; code = c.With x.code replaced.positions (map (λ y. y.code) replaced.values); expr_type = x.expr_type })

abbrev pub with_parts : Option Declared → List Given → Checked → Place → Value
with_parts None parts x place s = of_no_record parts x.place s
with_parts (Some found) parts x place s = do
  replaced ← replacements s found parts
  with_replaced x place replaced

unfoldable pub with_of : Value → List Given → Place → Value
with_of a parts place s = do
  x ← a s
  with_parts (record_of s.records x.expr_type) parts x place s

unfoldable pub empty_list : TypeExpr → Place → Value
empty_list cs_type place s = do
  item ← written s.records cs_type
  fine (checked place (c.Library library.EmptyList []) (t.List item))

unfoldable pub static_member : StaticType → Ident → Place → Value
static_member of name place s = found_static name (static_value place of name.name)

-- what is assigned: the value itself, or what the operator gives of the old value and it
unfoldable pub assigned : List Member → Option BinaryOp → Place → CsType → Checked → Judged Code
assigned records None target cs_type x = fitting cs_type x
assigned records (Some op) target cs_type x = do
  given ← binary_type records op target (Of cs_type) x.place x.expr_type
  is ← wants cs_type x.place given
  fine x.code

-- an assignment gives no value
unfoldable pub assign : AssignOp → Ident → Value → Place → Value
assign op target a place s = do
  one ← meant_by s target
  x ← a s
  variable ← variable_of target.place one.kind one.place
  code ← assigned s.records (operator_of op) target.place one.cs_type x
  fine (checked place (c.Assign variable op code) t.Nothing)

unfoldable pub step : StepOp → Ident → Place → Value
step op target place s = do
  one ← meant_by s target
  variable ← variable_of target.place one.kind one.place
  is ← wants t.Int target.place (Of one.cs_type)
  fine (checked place (c.Step variable op) t.Nothing)

-- a name as what is called
unfoldable pub callee_by_kind : Place → Named → NameKind → Judged Callee
callee_by_kind place one (kind.Method takes) = fine (record { called = called.Method one.place; takes = takes; gives = one.cs_type })
callee_by_kind place one _ = value_of_name place one >>= callee_of_value

unfoldable pub name_called : List ℕ → Place → Scope → Judged Callee
name_called name place s = do
  one ← meant_by s (record { place = place; name = name })
  callee_by_kind place one one.kind

unfoldable pub member_called : Value → Ident → Place → Scope → Judged Callee
member_called a name place s = do
  x ← a s
  found ← dotted s x name
  callee_of_member place x.code found

unfoldable pub name_read : List ℕ → Place → Value
name_read name place s = do
  one ← meant_by s (record { place = place; name = name })
  value_of_name place one
