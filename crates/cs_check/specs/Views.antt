-- What the checker's own values stand for in the definitions of the rules.
use Rattle.std.specs.Prelude.{List, ◌++◌, Option}
use Rattle.cs_ast.specs.declared.code.Code.{Code}
use Rattle.cs_ast.specs.declared.cs_type.CsType.{CsType}
use Rattle.cs_ast.specs.declared.scope.Named.{Named}
use Rattle.cs_ast.specs.declared.scope.Scope.{Scope}
use Rattle.cs_check.specs.declared.heads.Head.{Head}
use Rattle.cs_check.specs.declared.locals.Ready.{Ready}

-- the type of a local and the code of its declaration
abbrev pub ready_view : Ready → CsType × Code
ready_view ready = (ready.cs_type, ready.code)

-- what stands in the brackets of a `for`
abbrev pub head_view : Head → Option Code × Option Code × Option Code
head_view head = (head.start, head.test, head.step)

-- a scope with these names behind its own
abbrev pub behind : Scope → List Named → Scope
behind s names = record { names = s.names ++ names; records = s.records; result = s.result }
