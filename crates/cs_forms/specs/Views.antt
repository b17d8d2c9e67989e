-- What the values of this crate stand for in the definitions of the rules.
use Rattle.std.specs.Prelude.{◌++◌}
use Rattle.cs_ast.specs.declared.scope.Scope.{Scope}
use Rattle.cs_forbidden.specs.declared.forbidden.Forbidden.{Forbidden}
use Rattle.cs_rules.specs.Written as written
use Rattle.cs_rules.specs.Expressions as expressions
use Rattle.cs_forms.specs.declared.arguments.Replacing.{Replacing}
use Rattle.cs_forms.specs.declared.arguments.Replaced.{Replaced}
use Rattle.cs_ast.specs.declared.cs_type.CsType.{CsType}
use Rattle.cs_ast.specs.declared.code.Code.{Code}
use Rattle.cs_forms.specs.declared.joining.Listed.{Listed}
use Rattle.cs_forms.specs.declared.written.Declared.{Declared}
use Rattle.cs_forms.specs.declared.names.Names.{Names}

-- a record that was looked up
abbrev pub declared : Declared → written.Declared
declared found = record { number = found.number; parts = found.parts.now }

-- the scope that code is checked in: the one that was given, and the locals declared in it
abbrev pub scope_of : Names → Scope
scope_of names = record { names = names.around.scope.now.names ++ names.locals; records = names.around.scope.now.records; result = names.around.scope.now.result }

-- what is forbidden there
abbrev pub forbidden_of : Names → Forbidden
forbidden_of names = names.around.forbidden.now

-- a new value of a part, and several
abbrev pub replacing_view : Replacing → expressions.Replacing
replacing_view one = record { number = one.number; wanted = one.wanted; value = one.value }

abbrev pub replaced_view : Replaced → expressions.Replaced
replaced_view all = record { positions = all.positions; wanted = all.wanted; values = all.values.items }

-- the type of the items of a list and its code
abbrev pub listed_view : Listed → CsType × Code
listed_view list = (list.item, list.code)
