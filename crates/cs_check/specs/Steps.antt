-- How the checker goes on once parts are fine: no part of what it promises.
use Rattle.std.specs.Prelude.{Option}
use Rattle.cs_ast.specs.declared.code.Code.{Code}
use Rattle.cs_ast.specs.declared.code.Code.TheVariants as c
use Rattle.cs_ast.specs.declared.cs_type.CsType.{CsType}
use Rattle.cs_ast.specs.declared.cs_type.TypeExpr.{TypeExpr}
use Rattle.cs_ast.specs.declared.identifier.Ident.{Ident}
use Rattle.cs_ast.specs.declared.scope.Scope.{Scope}
use Rattle.text_core.specs.declared.place.Place.{Place}
use Rattle.cs_rules.specs.declared.callee.Callee.{Callee}
use Rattle.cs_rules.specs.declared.checked.Checked.{Checked}
use Rattle.cs_rules.specs.Judged.{Judged, fine, if_there, ◌>>=◌}
use Rattle.cs_rules.specs.Names.{is_new}
use Rattle.cs_rules.specs.Written.{written}
use Rattle.cs_rules.specs.Library.{callee_of_value}
use Rattle.cs_rules.specs.Expressions.{Value}
use Rattle.cs_rules.specs.Statements.{condition, stepped, initial, local_type}
use Rattle.cs_forbidden.specs.declared.forbidden.Forbidden.{Forbidden}
use Rattle.cs_forbidden.specs.Roots.{against, against_called}
use Rattle.cs_forbidden.specs.Trees.{allowed}
use Rattle.cs_forms.specs.Steps.{listed}

-- a form that is fine is asked what its own code does
abbrev pub asked : Forbidden → Place → Judged Checked → Judged Checked
asked f place form = form >>= λ x. allowed (against f x.code) place x

abbrev pub asked_callee : Forbidden → Place → Judged Callee → Judged Callee
asked_callee f place form = form >>= λ it. allowed (against_called f it.called) place it

-- a value as what is called
abbrev pub value_called : Judged Checked → Judged Callee
value_called value = value >>= callee_of_value

-- the type of a local and the code of its declaration
abbrev pub typed : Option CsType → Checked → Judged (CsType × Code)
typed declared x = do
  given ← local_type declared x
  fine (given, c.Declare x.code)

abbrev pub prepared : Option TypeExpr → Ident → Option Value → Scope → Judged (CsType × Code)
prepared cs_type name value s = do
  declared ← if_there (written s.records) cs_type
  new ← is_new s name
  x ← initial name value s
  typed declared x

-- the list of a `foreach`
abbrev pub list_of : Value → Scope → Judged (CsType × Code)
list_of a s = do
  x ← a s
  listed x

-- what stands in the brackets of a `for`, behind its start
abbrev pub heading : Option Code → Option Value → Option Value → Scope → Judged (Option Code × Option Code × Option Code)
heading start test step s = do
  code ← if_there (λ a. condition a s) test
  next ← if_there (λ a. stepped a s) step
  fine (start, code, next)
