-- What each form of node comes to, by what its parts come to.
use Rattle.std.specs.Prelude.{ℕ, List, [], ◌∷◌, Option, Some, None, option_map}
use Rattle.std.specs.List.{flat_map}
use Rattle.cs_ast.specs.declared.cs_type.CsType.{CsType, out-CsType}
use Rattle.cs_ast.specs.declared.cs_type.CsType.TheOpen.{CsType-F}
use Rattle.cs_ast.specs.declared.expression.Expr.{Expr}
use Rattle.cs_ast.specs.declared.expression.Label.{Label}
use Rattle.cs_ast.specs.declared.expression.LabelKind.{LabelKind}
use Rattle.cs_ast.specs.declared.expression.LabelKind.TheVariants as label
use Rattle.cs_ast.specs.declared.expression.Stmt.{Stmt}
use Rattle.cs_ast.specs.declared.expression.StmtKind.{StmtKind-F, out-StmtKind}
use Rattle.cs_ast.specs.declared.scope.Scope.{Scope}
use Rattle.cs_ast.specs.declared.value.Value.{Value}
use Rattle.cs_ast.specs.declared.value.Value.TheVariants as v
use Rattle.cs_meaning.specs.Sections.{Section}
use Rattle.cs_rules.specs.declared.checked.ExprType.{ExprType}
use Rattle.cs_rules.specs.declared.checked.ExprType.TheVariants.{Of, Null, Markup}
use Rattle.cs_rules.specs.Expressions.{items_of}
use Rattle.cs_rules.specs.Names.{with_local}
use Rattle.cs_rules.specs.Statements.{started, has_default}
use Rattle.cs_rules.specs.Trees.{value_in, statement}
use Rattle.drawing_meaning.specs.Acts.{Act}
use Rattle.drawing_meaning.specs.Nodes as act
use Rattle.drawing_meaning.specs.Nodes.{Appears, as_text, as_markup, as_fragment}
use Rattle.drawing_meaning.specs.Turns as turns
use Rattle.razor_ast.specs.declared.attribute.Attribute.{Attribute}
use Rattle.razor_rules.specs.Scopes.{Home}
use Rattle.razor_rules.specs.Templates.{Level}
use Rattle.page_meaning.specs.Attributes.{dressed}
use Rattle.page_meaning.specs.Resolved.{Makes, Resolves, alone, judged, each, if_there, value_code, ◌>>=◌}

unfoldable pub element : ℕ → List ℕ → List Attribute → Makes → Makes
element number name attributes content home s = do
  worn ← dressed home s name attributes
  inside ← content home s
  alone (act.element number name worn inside ∷ [])

-- a literal text
unfoldable pub text : ℕ → List ℕ → Makes
text number said home s = alone (act.text number said ∷ [])

-- a literal text that is markup
unfoldable pub raw : ℕ → List ℕ → Makes
raw number said home s = alone (act.raw number said ∷ [])

abbrev pub appears_level : CsType-F CsType → Appears
appears_level (CsType-F.Fragment argument) = as_fragment
appears_level _ = as_text

-- how a value of a type is shown as content
abbrev pub appears : ExprType → Appears
appears (Of cs_type) = appears_level (out-CsType cs_type)
appears Markup = as_markup
appears Null = as_text

unfoldable pub content : ℕ → Expr → Makes
content number a home s = do
  x ← judged (value_in s a)
  alone (act.content number (appears x.expr_type) x.code ∷ [])

abbrev pub statement_level : Level → Stmt → Scope → Resolves (List Act)
statement_level StmtKind-F.Break one s = alone (act.break_out ∷ [])
statement_level _ one s = do
  it ← judged (statement one s)
  alone (act.statement it.code ∷ [])

-- a statement without statements in it; a `break` is one of a `switch`
unfoldable pub plain_statement : Stmt → Makes
plain_statement one home s = statement_level (out-StmtKind one.kind) one s

unfoldable pub block : Makes → Makes
block makes home s = do
  acts ← makes home s
  alone (act.block acts ∷ [])

abbrev pub or_nothing : Option Makes → Makes
or_nothing None home s = alone []
or_nothing (Some makes) home s = makes home s

unfoldable pub branch : Expr → Makes → Option Makes → Makes
branch test one other home s = do
  code ← value_code s test
  holds ← one home s
  fails ← or_nothing other home s
  alone (act.branch code holds fails ∷ [])

-- the constants of labels
abbrev pub constant_of : LabelKind → List Value
constant_of (label.Int number) = v.Int number ∷ []
constant_of (label.Bool holds) = v.Bool holds ∷ []
constant_of (label.Text said) = v.Text said ∷ []
constant_of label.Null = v.Null ∷ []
constant_of label.Default = []

abbrev pub section_of : List Label → Makes → Section Makes
section_of labels makes = record { constants = flat_map (λ one. constant_of one.kind) labels; otherwise = has_default labels; statements = makes }

abbrev pub section_acts : Home → Scope → Section Makes → Resolves (Section (List Act))
section_acts home s section = do
  acts ← section.statements home s
  alone (record { constants = section.constants; otherwise = section.otherwise; statements = acts })

unfoldable pub switch : Expr → List (Section Makes) → Makes
switch a sections home s = do
  code ← value_code s a
  all ← each (section_acts home s) sections
  alone (act.switch code all ∷ [])

unfoldable pub while_loop : ℕ → Expr → Option ℕ → Makes → Makes
while_loop number test keyed body home s = do
  code ← value_code s test
  turn ← body home s
  alone (turns.while_loop number code keyed turn ∷ [])

-- the start is in the scope of the whole loop
unfoldable pub for_loop : ℕ → Option Stmt → Option Expr → Option Expr → Option ℕ → Makes → Makes
for_loop number start test step keyed body home s = do
  first ← judged (started (option_map statement start) s)
  code ← if_there (value_code first.1) test
  next ← if_there (value_code first.1) step
  turn ← body home first.1
  alone (turns.for_loop number first.0 code next keyed turn ∷ [])

unfoldable pub for_each : ℕ → List ℕ → Expr → Option ℕ → Makes → Makes
for_each number name list keyed body home s = do
  x ← judged (value_in s list)
  item ← judged (items_of x.place x.expr_type)
  turn ← body home (with_local s name item)
  alone (turns.for_each number x.code keyed turn ∷ [])
