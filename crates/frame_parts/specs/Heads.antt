-- What stands before the bodies of loops, and behind statements.
use Rattle.std.specs.Prelude.{Option, option_map}
use Rattle.cs_ast.specs.declared.code.Code.{Code}
use Rattle.cs_ast.specs.declared.cs_type.CsType.{CsType}
use Rattle.cs_ast.specs.declared.expression.Expr.{Expr}
use Rattle.cs_ast.specs.declared.expression.Stmt.{Stmt}
use Rattle.cs_ast.specs.declared.scope.Scope.{Scope}
use Rattle.cs_forms.specs.Steps as forms
use Rattle.cs_rules.specs.Judged.{Judged, fine, if_there, ◌>>=◌}
use Rattle.cs_rules.specs.Statements.{started}
use Rattle.cs_rules.specs.Trees.{value_in, statement}
use Rattle.frame_parts.specs.Steps.{code_in}

-- the scope behind a statement
abbrev pub behind : Stmt → Scope → Judged Scope
behind one s = statement one s >>= (λ it. fine it.scope)

-- the type of the items of the list of a `foreach`, and its code
abbrev pub listed : Expr → Scope → Judged (CsType × Code)
listed list s = value_in s list >>= forms.listed

-- the start, the test and the step of a `for`
abbrev pub Head : Type 0
Head = Option Code × Option Code × Option Code

-- these, and the scope behind the start
abbrev pub headed : Option Stmt → Option Expr → Option Expr → Scope → Judged (Head × Scope)
headed start test next s = do
  first ← started (option_map statement start) s
  code ← if_there (code_in first.1) test
  after ← if_there (code_in first.1) next
  fine ((first.0, code, after), first.1)
