-- Types as they are written for parameters of components and for arguments of methods.
use Rattle.std.specs.Prelude.{List, Option, Some, None}
use Rattle.text_core.specs.declared.place.Place.{Place}
use Rattle.cs_ast.specs.declared.cs_type.CsType.{CsType}
use Rattle.cs_ast.specs.declared.cs_type.TypeExpr.{TypeExpr}
use Rattle.cs_ast.specs.declared.cs_type.TypeKind.{TypeKind, TypeKind-F, out-TypeKind}
use Rattle.cs_ast.specs.declared.member.Member.{Member}
use Rattle.cs_rules.specs.Judged.{Judged}
use Rattle.cs_rules.specs.Written.{type_of, unknown_in, known_type}

abbrev pub unknown_as_argument : List Member → TypeExpr → TypeKind-F TypeKind TypeExpr → Option Place
unknown_as_argument records cs_type TypeKind-F.Change = None
unknown_as_argument records cs_type TypeKind-F.Args = None
unknown_as_argument records cs_type _ = unknown_in records cs_type

-- where the type of an argument is none: it has to be one that values have, or that of the argument of an event
unfoldable pub unknown_argument : List Member → TypeExpr → Option Place
unknown_argument records cs_type = unknown_as_argument records cs_type (out-TypeKind cs_type.kind)

abbrev pub unknown_if_any : List Member → Option TypeExpr → Option Place
unknown_if_any records None = None
unknown_if_any records (Some argument) = unknown_argument records argument

abbrev pub unknown_as_parameter : List Member → TypeExpr → TypeKind-F TypeKind TypeExpr → Option Place
unknown_as_parameter records cs_type (TypeKind-F.Callback argument) = unknown_if_any records argument
unknown_as_parameter records cs_type (TypeKind-F.Fragment argument) = unknown_if_any records argument
unknown_as_parameter records cs_type _ = unknown_in records cs_type

-- where the type of a parameter is none: it has to be one that values have, or that of a callback or a fragment
unfoldable pub unknown_parameter : List Member → TypeExpr → Option Place
unknown_parameter records cs_type = unknown_as_parameter records cs_type (out-TypeKind cs_type.kind)

-- the type of an argument of a method
abbrev pub argument_type : List Member → TypeExpr → Judged CsType
argument_type records cs_type = known_type (unknown_argument records cs_type) (type_of cs_type)

-- the type of a parameter of a component
abbrev pub parameter_type : List Member → TypeExpr → Judged CsType
parameter_type records cs_type = known_type (unknown_parameter records cs_type) (type_of cs_type)
