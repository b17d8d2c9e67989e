-- How a form of several parts goes on once they are fine: no part of what is promised above.
use Rattle.std.specs.Prelude.{List, map}
use Rattle.text_core.specs.declared.place.Place.{Place}
use Rattle.cs_ast.specs.declared.code.Code.{Code}
use Rattle.cs_ast.specs.declared.code.Code.TheVariants as c
use Rattle.cs_ast.specs.declared.cs_type.CsType.{CsType}
use Rattle.cs_ast.specs.declared.cs_type.CsType.TheVariants as t
use Rattle.cs_ast.specs.declared.identifier.Ident.{Ident}
use Rattle.cs_ast.specs.declared.member.Member.{Member}
use Rattle.cs_ast.specs.declared.operators.BinaryOp.{BinaryOp}
use Rattle.cs_rules.specs.declared.callee.Callee.{Callee}
use Rattle.cs_rules.specs.declared.checked.Checked.{Checked}
use Rattle.cs_rules.specs.Judged.{Judged, fine, ◌>>=◌}
use Rattle.cs_rules.specs.Types.{fitting, checked}
use Rattle.cs_rules.specs.Written.{type_of, Declared}
use Rattle.cs_rules.specs.Library.{code_of_call}
use Rattle.cs_rules.specs.Operators.{binary_type}
use Rattle.cs_rules.specs.Expressions.{items_of, chosen_type, passed}

-- an operator between two operands
abbrev pub joined : List Member → BinaryOp → Checked → Checked → Place → Judged Checked
joined records op x y place = do
  given ← binary_type records op x.place x.expr_type y.place y.expr_type
  fine (record { place = place; code = c.Binary op x.code y.code; expr_type = given })

-- `a ? b : c` behind its condition
abbrev pub chosen_by : Code → Checked → Checked → Place → Judged Checked
chosen_by test x y place = do
  given ← chosen_type x y
  fine (record { place = place; code = c.Conditional test x.code y.code; expr_type = given })

abbrev pub chosen : Checked → Checked → Checked → Place → Judged Checked
chosen test x y place = do
  code ← fitting t.Bool test
  chosen_by code x y place

-- the type of the items of a list and its code
abbrev pub listed : Checked → Judged (CsType × Code)
listed x = do
  item ← items_of x.place x.expr_type
  fine (item, x.code)

abbrev pub item_at : CsType → Code → Checked → Place → Judged Checked
item_at item list y place = do
  code ← fitting t.Int y
  fine (checked place (c.Index list code) item)

-- `a[b]`
abbrev pub indexed : Checked → Checked → Place → Judged Checked
indexed x y place = do
  item ← items_of x.place x.expr_type
  code ← fitting t.Int y
  fine (checked place (c.Index x.code code) item)

-- a call over its arguments
abbrev pub called : Place → Callee → List Checked → Judged Checked
called place callee xs = do
  codes ← passed place callee.takes xs
  fine (checked place (code_of_call callee.called codes) callee.gives)

-- `new N(..)` over its arguments
abbrev pub constructed : Place → Declared → List Checked → Ident → Judged Checked
constructed place found xs name = do
  codes ← passed place (map (λ part. type_of part.cs_type) found.parts) xs
  fine (checked place (c.New found.number codes) (t.Rec name.name))
