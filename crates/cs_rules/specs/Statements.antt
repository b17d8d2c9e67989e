-- What each form of statement comes to, by what its parts come to.
use Rattle.std.specs.Prelude.{List, [], ◌∷◌, Bool, true, false, ◌||◌, if◌then◌else◌, Option, Some, None}
use Rattle.text_core.specs.declared.place.Place.{Place}
use Rattle.cs_ast.specs.declared.code.Code.{Code}
use Rattle.cs_ast.specs.declared.code.Code.TheVariants as c
use Rattle.cs_ast.specs.declared.cs_type.CsType.{CsType}
use Rattle.cs_ast.specs.declared.cs_type.CsType.TheVariants as t
use Rattle.cs_ast.specs.declared.cs_type.TypeExpr.{TypeExpr}
use Rattle.cs_ast.specs.declared.expression.Label.{Label}
use Rattle.cs_ast.specs.declared.expression.LabelKind.{LabelKind}
use Rattle.cs_ast.specs.declared.expression.LabelKind.TheVariants as label
use Rattle.cs_ast.specs.declared.identifier.Ident.{Ident}
use Rattle.cs_ast.specs.declared.scope.Scope.{Scope}
use Rattle.cs_ast.specs.declared.value.Value.TheVariants as v
use Rattle.cs_ast.specs.declared.value.Value.{Value as Constant}
use Rattle.cs_rules.specs.declared.checked.Checked.{Checked}
use Rattle.cs_rules.specs.declared.checked.ExprType.{ExprType}
use Rattle.cs_rules.specs.declared.checked.ExprType.TheVariants.{Of}
use Rattle.cs_rules.specs.declared.rule.Rule.TheVariants.{NotAssigned}
use Rattle.cs_rules.specs.Judged.{Judged, fine, breaks, mismatch, each, if_there, ◌>>=◌}
use Rattle.cs_rules.specs.Types.{fits, fitting, own_type}
use Rattle.cs_rules.specs.Names.{is_new, with_local}
use Rattle.cs_rules.specs.Written.{written}
use Rattle.cs_rules.specs.Expressions.{Value, items_of}

-- a statement that breaks no rule: its code, and the scope behind it
pub record Done : Type 0 where
  pub code : Code
  pub scope : Scope

abbrev pub done : Scope → Code → Done
done s code = record { code = code; scope = s }

-- what a statement comes to in a scope
abbrev pub Statement : Type 0
Statement = Scope → Judged Done

-- statements one after another, each in the scope that those before it leave
abbrev pub in_order : List Statement → Scope → Judged (List Code)
in_order [] s = fine []
in_order (one ∷ others) s = do
  first ← one s
  codes ← in_order others first.scope
  fine (first.code ∷ codes)

-- a statement in a scope of its own
abbrev pub alone : Statement → Scope → Judged Code
alone one s = do
  it ← one s
  fine it.code

unfoldable pub condition : Value → Scope → Judged Code
condition a s = do
  x ← a s
  fitting t.Bool x

-- the initial value of a local
abbrev pub initial : Ident → Option Value → Scope → Judged Checked
initial name None s = breaks NotAssigned name.place
initial name (Some value) s = value s

-- the type of a local: what is written, or for `var` that of the value
unfoldable pub local_type : Option CsType → Checked → Judged CsType
local_type None x = own_type x.place x.expr_type
local_type (Some cs_type) x = if fits x.expr_type cs_type then fine cs_type else mismatch x.place

unfoldable pub local : Option TypeExpr → Ident → Option Value → Statement
local cs_type name value s = do
  declared ← if_there (written s.records) cs_type
  new ← is_new s name
  x ← initial name value s
  given ← local_type declared x
  fine (done (with_local s name.name given) (c.Declare x.code))

unfoldable pub block : List Statement → Statement
block body s = do
  codes ← in_order body s
  fine (done s (c.Block codes))

unfoldable pub if_else : Value → Statement → Option Statement → Statement
if_else test holds fails s = do
  code ← condition test s
  first ← alone holds s
  second ← if_there (λ one. alone one s) fails
  fine (done s (c.If code first second))

unfoldable pub while_loop : Value → Statement → Statement
while_loop test body s = do
  code ← condition test s
  turn ← alone body s
  fine (done s (c.While code turn))

-- the start of a `for`, and the scope behind it
abbrev pub started : Option Statement → Scope → Judged (Option Code × Scope)
started None s = fine (None, s)
started (Some start) s = do
  it ← start s
  fine (Some it.code, it.scope)

-- an expression as the step of a `for`
abbrev pub stepped : Value → Scope → Judged Code
stepped a s = do
  x ← a s
  fine x.code

unfoldable pub for_loop : Option Statement → Option Value → Option Value → Statement → Statement
for_loop start test step body s = do
  first ← started start s
  code ← if_there (λ a. condition a first.1) test
  next ← if_there (λ a. stepped a first.1) step
  turn ← alone body first.1
  fine (done s (c.For first.0 code next turn))

unfoldable pub for_each : Ident → Value → Statement → Statement
for_each name list body s = do
  new ← is_new s name
  x ← list s
  item ← items_of x.place x.expr_type
  turn ← alone body (with_local s name.name item)
  fine (done s (c.ForEach x.code turn))

-- the types by which a `switch` decides
unfoldable pub decides : ExprType → Bool
decides (Of t.Int) = true
decides (Of t.Bool) = true
decides (Of t.Text) = true
decides _ = false

-- the constant of a label, if it has one, which has to be of the type; null where it may be null
abbrev pub labelled : LabelKind → ExprType → Place → Judged (Option Constant)
labelled label.Default decided place = fine None
labelled (label.Int number) (Of t.Int) place = fine (Some (v.Int number))
labelled (label.Int number) _ place = mismatch place
labelled (label.Bool truth) (Of t.Bool) place = fine (Some (v.Bool truth))
labelled (label.Bool truth) _ place = mismatch place
labelled (label.Text text) (Of t.Text) place = fine (Some (v.Text text))
labelled (label.Text text) _ place = mismatch place
labelled label.Null (Of t.Text) place = fine (Some v.Null)
labelled label.Null _ place = mismatch place

-- a constant in front of others, if there is one
abbrev pub with_constant : Option Constant → List Constant → List Constant
with_constant None constants = constants
with_constant (Some constant) constants = constant ∷ constants

-- the constants of labels, in order
abbrev pub constants : ExprType → List Label → Judged (List Constant)
constants decided [] = fine []
constants decided (one ∷ others) = do
  constant ← labelled one.kind decided one.place
  more ← constants decided others
  fine (with_constant constant more)

abbrev pub is_default : LabelKind → Bool
is_default label.Default = true
is_default _ = false

abbrev pub has_default : List Label → Bool
has_default [] = false
has_default (one ∷ others) = is_default one.kind || has_default others

-- a section of a `switch` that decides by a type
unfoldable pub section : List Label → List Statement → ExprType → Scope → Judged Code
section labels body decided s = do
  values ← constants decided labels
  codes ← in_order body s
  fine (c.Section values (has_default labels) codes)

unfoldable pub switch_of : Value → List (ExprType → Scope → Judged Code) → Statement
switch_of a sections s = do
  x ← a s
  decided ← if decides x.expr_type then fine x.expr_type else mismatch x.place
  codes ← each (λ one. one decided s) sections
  fine (done s (c.Switch x.code codes))

abbrev pub return_nothing : Place → Bool → Scope → Judged Done
return_nothing place allowed s = if allowed then fine (done s (c.Return None)) else mismatch place

unfoldable pub return_of : Option Value → Place → Statement
return_of None place s = return_nothing place (fits (Of t.Nothing) s.result) s
return_of (Some a) place s = do
  x ← a s
  code ← fitting s.result x
  fine (done s (c.Return (Some code)))

-- an expression as a statement
unfoldable pub perform : Value → Statement
perform a s = do
  x ← a s
  fine (done s (c.Perform x.code))
